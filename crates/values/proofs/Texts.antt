-- Character strings: what is read stands there and the other way round, which can be written, and the part holds the text that stands there.
-- Assumes nothing.
use mathlib.Core.Path.{◌≡◌, refl, ◌∙◌, ap, ap₂, sym, subst}
use mathlib.Core.Logic.{◌↔◌}
use Prim.Native.Nat.{ℕ, suc, ◌+◌, ◌-◌, ◌≤◌}
use native.Mathlib.Omega.{arith}
use mathlib.Core.List.{List, ◌∷◌, ◌++◌}
use lib.Dec.{ltb, eqb}
use lib.ListN.{length, drop}
use borrow.Author.Tests.{le-ltb, ltb-false, eqb-true}
use Rattle.types.specs.Answer.{accepted}
use Rattle.types.specs.Writing.{can}
use Rattle.types.proofs.Choices.{either, read_on}
use Rattle.numbers.specs.Reading.{Part, part_at, bytes_in, byte_from, slice_from}
use Rattle.numbers.proofs.Found.{ByteFound, byte_found, byte_at, SliceFound, slice_found}
use Rattle.utf8.specs.Text.{Text}
use Rattle.utf8.specs.Check.{Verdict, good, bad_at, check_of}
use Rattle.utf8.specs.Answer.{text_outcome}
use Rattle.utf8.proofs.Exactly.{good_exactly}
use Rattle.values.specs.Text.{text_read, text_in, text_under, IsText, text_writable_by, text_writable}
use Rattle.values.proofs.Standing.{StoodOr}
use Rattle.values.proofs.Parts.{part_behind, part_bytes_behind}

pub text_or : (len : ℕ) (xs : List ℕ) (place : ℕ) → StoodOr (IsText len) xs place (text_under len xs place)
unfolding text_under text_in
text_or len xs place =
    either (StoodOr (IsText len) xs place) (ltb len 1) (λ e. tt) (λ e.
    read_on (StoodOr (IsText len) xs place) (byte_from xs place)
    (λ set after g.
    either (StoodOr (IsText len) xs place) (eqb set 0)
    (λ h. read_on (StoodOr (IsText len) xs place) (slice_from (len - 1) xs after)
    (λ part next k.
    let s = slice_found (len - 1) xs after part next k in
    let f : ByteFound xs place 0 after = subst (λ (x : ℕ). ByteFound xs place x after) (eqb-true set 0 h) (byte_found xs place set after g) in
    let b : bytes_in xs part ≡ s.bytes = ap (bytes_in xs) s.part_is ∙ s.bytes_are in
    go after (ltb-false len 1 e) f part next s (check_of (bytes_in xs part)) (ap check_of (sym b)))
    (λ n c k. tt))
    (λ h. tt))
    (λ n c g. tt))
  where
    go : (after : ℕ) → 1 ≤ len → ByteFound xs place 0 after → (part : Part) (next : ℕ) (s : SliceFound (len - 1) xs after part next) (v : Verdict) → check_of s.bytes ≡ v → StoodOr (IsText len) xs place (text_read (text_outcome v) part next)
    go after l f part next s good e =
        let a : after ≡ place + 1 = f.ends in
        let n : len - 1 ≡ length s.bytes = sym s.sized in
        let z : len ≡ suc (length s.bytes) = omega (arith, s.sized) in
        record {
          bytes = 0 ∷ s.bytes;
          is = record { text = s.bytes; behind_set = refl; utf8 = (good_exactly s.bytes).0 e; sized = z; lies = s.part_is ∙ ap₂ part_at a n };
          here = f.here ∙ ap (λ (t : List ℕ). 0 ∷ t) s.here;
          ends = omega (arith, f.ends, s.ends, s.sized);
        }
    go after l f part next s (bad_at q) e = tt

module _ (xs : List ℕ) (place : ℕ) (bytes rest : List ℕ) (e : drop place xs ≡ bytes ++ rest) {len : ℕ} {p : Part} (i : IsText len place bytes p) where
  -- the set byte, and then the text
  stands : drop place xs ≡ 0 ∷ (i.text ++ rest)
  stands = e ∙ ap (λ (l : List ℕ). l ++ rest) i.behind_set

  pub text_bytes : bytes_in xs p ≡ i.text
  text_bytes = ap (bytes_in xs) i.lies ∙ part_bytes_behind xs place 0 i.text rest stands

  pub text_read_lem : length xs ≤ 65535 → text_under len xs place ≡ accepted p (place + length bytes)
  unfolding text_under text_in
  text_read_lem small =
      let t : List ℕ = i.text in
      let s : slice_from (len - 1) xs (place + 1) ≡ accepted p (place + suc (length t)) =
      ap (λ (n : ℕ). slice_from (n - 1) xs (place + 1)) i.sized ∙ part_behind xs small place 0 t rest stands ∙ ap (λ (q : Part). accepted q (place + suc (length t))) (sym i.lies) in
      let some : 1 ≤ len = omega (arith, i.sized) in
      simp (le-ltb len 1 some, byte_at xs place 0 (t ++ rest) small stands, s, text_bytes, (good_exactly t).1 i.utf8) (ap (λ (l : List ℕ). accepted p (place + length l)) (sym i.behind_set))

  pub text_again : (0 ∷ bytes_in xs p ≡ bytes) × (suc (length (bytes_in xs p)) ≡ len)
  text_again = (ap (λ (l : List ℕ). 0 ∷ l) text_bytes ∙ sym i.behind_set, ap (λ (l : List ℕ). suc (length l)) text_bytes ∙ sym i.sized)

-- text that is UTF-8 can be written
pub text_exactly : (lent : List ℕ) → (text_writable lent ≡ can) ↔ Text lent
unfolding text_writable
text_exactly lent =
    let f = go (check_of lent) in
    let g = good_exactly lent in
    (λ e. g.0 (f.0 e), λ t. f.1 (g.1 t))
  where
    go : (v : Verdict) → (text_writable_by (text_outcome v) ≡ can) ↔ (v ≡ good)
    go good = (λ h. refl, λ e. refl)
    go (bad_at p) = (λ h. let z : ◌≡◌ {A = ℕ} 0 1 = cc in absurd (omega arith), λ e. let z : ◌≡◌ {A = ℕ} 0 1 = cc in absurd (omega arith))

pub text_is : (place : ℕ) (lent : List ℕ) → text_writable lent ≡ can → IsText (suc (length lent)) place (0 ∷ lent) (part_at (place + 1) (length lent))
text_is place lent w = record { text = lent; behind_set = refl; utf8 = (text_exactly lent).0 w; sized = refl; lies = refl }
