-- Bit strings: what is read stands there and the other way round, which can be written, and the part holds the bytes that stand there.
-- Assumes nothing.
use mathlib.Core.Path.{◌≡◌, refl, ◌∙◌, ap, ap₂, sym}
use mathlib.Core.Logic.{◌↔◌}
use mathlib.Core.Bool.{Bool, true, false}
use Prim.Native.Nat.{ℕ, suc, ◌+◌, ◌-◌, ◌≤◌}
use native.Mathlib.Omega.{arith}
use mathlib.Core.List.{List, ◌∷◌, ◌++◌}
use lib.Dec.{ltb, eqb}
use lib.ListN.{length, drop}
use borrow.Author.Tests.{le-ltb, ltb-false, eqb-true, eqb-false}
use Rattle.types.specs.Choice.{if}
use Rattle.types.specs.Refusal.{amount}
use Rattle.types.specs.Answer.{accepted}
use Rattle.types.specs.Writing.{can, unwritable}
use Rattle.types.proofs.Choices.{either, read_on}
use Rattle.types.proofs.Accepted.{limit_exactly}
use Rattle.numbers.specs.Reading.{Part, part_at, bytes_in, byte_from, slice_from}
use Rattle.numbers.proofs.Found.{byte_found, byte_at, slice_found}
use Rattle.values.specs.Bits.{Bits, bits_under, IsBits, bits_writable, BitsWrite}
use Rattle.values.proofs.Standing.{StoodOr}
use Rattle.values.proofs.Parts.{part_behind, part_bytes_behind}

pub bits_or : (len : ℕ) (xs : List ℕ) (place : ℕ) → StoodOr (IsBits len) xs place (bits_under len xs place)
unfolding bits_under
bits_or len xs place =
    either (StoodOr (IsBits len) xs place) (ltb len 1) (λ e. tt) (λ e.
    read_on (StoodOr (IsBits len) xs place) (byte_from xs place)
    (λ unused after g.
    read_on (StoodOr (IsBits len) xs place) (slice_from (len - 1) xs after)
    (λ part next k.
    let f = byte_found xs place unused after g in
    let s = slice_found (len - 1) xs after part next k in
    let l : 1 ≤ len = ltb-false len 1 e in
    let a : after ≡ place + 1 = f.ends in
    let n : len - 1 ≡ length s.bytes = sym s.sized in
    let z : len ≡ suc (length s.bytes) = omega (arith, s.sized) in
    record {
      bytes = unused ∷ s.bytes;
      is = record { string = s.bytes; behind_count = refl; sized = z; lies = s.part_is ∙ ap₂ part_at a n };
      here = f.here ∙ ap (λ (t : List ℕ). unused ∷ t) s.here;
      ends = omega (arith, f.ends, s.ends, s.sized);
    })
    (λ n c k. tt))
    (λ n c g. tt))

module _ (xs : List ℕ) (place : ℕ) (bytes rest : List ℕ) (e : drop place xs ≡ bytes ++ rest) {len : ℕ} {b : Bits} (i : IsBits len place bytes b) where
  -- the count, and then the bytes
  stands : drop place xs ≡ b.unused ∷ (i.string ++ rest)
  stands = e ∙ ap (λ (l : List ℕ). l ++ rest) i.behind_count

  pub bits_bytes : bytes_in xs b.part ≡ i.string
  bits_bytes = ap (bytes_in xs) i.lies ∙ part_bytes_behind xs place b.unused i.string rest stands

  pub bits_read : length xs ≤ 65535 → bits_under len xs place ≡ accepted b (place + length bytes)
  unfolding bits_under
  bits_read small =
      let t : List ℕ = i.string in
      let s : slice_from (len - 1) xs (place + 1) ≡ accepted b.part (place + suc (length t)) =
      ap (λ (n : ℕ). slice_from (n - 1) xs (place + 1)) i.sized ∙ part_behind xs small place b.unused t rest stands ∙ ap (λ (q : Part). accepted q (place + suc (length t))) (sym i.lies) in
      let some : 1 ≤ len = omega (arith, i.sized) in
      simp (le-ltb len 1 some, byte_at xs place b.unused (t ++ rest) small stands, s) (ap (λ (l : List ℕ). accepted b (place + length l)) (sym i.behind_count))

  pub bits_again : (b.unused ∷ bytes_in xs b.part ≡ bytes) × (suc (length (bytes_in xs b.part)) ≡ len)
  bits_again = (ap (λ (l : List ℕ). b.unused ∷ l) bits_bytes ∙ sym i.behind_count, ap (λ (l : List ℕ). suc (length l)) bits_bytes ∙ sym i.sized)

-- at most seven unused bits, and none where there are no bytes, can be written
pub bits_exactly : (unused : ℕ) (lent : List ℕ) → (bits_writable unused lent ≡ can) ↔ BitsWrite unused lent
unfolding bits_writable
bits_exactly unused lent =
    let f = limit_exactly 7 unused 12 (amount 0) (if (eqb unused 0) can (if (eqb (length lent) 0) unwritable can)) in
    let g = go (eqb unused 0) refl (eqb (length lent) 0) refl in
    (λ e. let p = f.0 e in (p.0, g.0 p.1), λ h. f.1 (h.0, g.1 h.1))
  where
    go : (a : Bool) → eqb unused 0 ≡ a → (b : Bool) → eqb (length lent) 0 ≡ b → (if a can (if b unwritable can) ≡ can) ↔ (length lent ≡ 0 → unused ≡ 0)
    go true e b g = (λ h n. eqb-true unused 0 e, λ h. refl)
    go false e true g = (λ h. let z : ◌≡◌ {A = ℕ} 0 1 = cc in absurd (omega arith), λ h. absurd (eqb-false unused 0 e (h (eqb-true (length lent) 0 g))))
    go false e false g = (λ h n. absurd (eqb-false (length lent) 0 g n), λ h. refl)

pub bits_is : (unused place : ℕ) (lent : List ℕ) → IsBits (suc (length lent)) place (unused ∷ lent) (record { unused = unused; part = part_at (place + 1) (length lent) })
bits_is unused place lent = record { string = lent; behind_count = refl; sized = refl; lies = refl }
