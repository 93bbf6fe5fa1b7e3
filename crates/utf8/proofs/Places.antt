-- The check from a place of the text on: at the end, where no sequence begins, over a sequence.
-- Assumes nothing.
use mathlib.Core.Path.{◌≡◌, refl, ap, ◌∙◌}
use mathlib.Core.List.{List, [], ◌∷◌}
use Prim.Native.Nat.{ℕ, zero, suc, ◌+◌, ◌≤◌, ◌<◌}
use native.Mathlib.Omega.{arith}
use native.Mathlib.Nat.{add-zero}
use lib.ListN.{length, drop, length-drop, drop_of_length-le}
use lib.Seq.{drop-drop}
use Rattle.utf8.specs.Table.{UTF8-char}
use Rattle.utf8.specs.Check.{Verdict, good, bad_at, sequence_length, after_first, check_from}
use Rattle.utf8.proofs.Rows.{found_row}

-- bytes that are still to pass are passed
pub passed : (bytes : List ℕ) (place pending : ℕ) → check_from place pending bytes ≡ check_from (place + pending) 0 (drop pending bytes)
unfolding check_from
passed [] place zero = refl
passed [] place (suc pending) = refl
passed (byte ∷ bytes) place zero = rw add-zero
passed (byte ∷ bytes) place (suc pending) =
    passed bytes (suc place) pending
    ∙ ap (λ (p : ℕ). check_from p 0 (drop pending bytes)) (let e : suc place + pending ≡ place + suc pending = omega arith in e)

-- the check goes on after a sequence that begins here
pub sequence_passed : (bytes : List ℕ) (place n : ℕ) → sequence_length UTF8-char bytes ≡ suc n
    → check_from place 0 bytes ≡ check_from (place + suc n) 0 (drop (suc n) bytes)
unfolding check_from after_first
sequence_passed [] place n e = absurd (let h = found_row UTF8-char [] n e in omega (arith, h.0))
sequence_passed (byte ∷ bytes) place n e =
    ap (after_first place (λ pending. check_from (suc place) pending bytes)) e
    ∙ passed bytes (suc place) n
    ∙ ap (λ (p : ℕ). check_from p 0 (drop n bytes)) (let q : suc place + n ≡ place + suc n = omega arith in q)

-- the check ends at a byte where none begins
pub stopped : (bytes : List ℕ) (place : ℕ) → 0 < length bytes → sequence_length UTF8-char bytes ≡ 0 → check_from place 0 bytes ≡ bad_at place
unfolding check_from after_first
stopped [] place h e = absurd (omega arith)
stopped (byte ∷ bytes) place h e = ap (after_first place (λ pending. check_from (suc place) pending bytes)) e

-- the answer from a place of the text on
unfoldable pub check_at : List ℕ → ℕ → Verdict
check_at s place = check_from place 0 (drop place s)

-- at the end of the text all is good
pub end_good : (s : List ℕ) (place : ℕ) → length s ≤ place → check_at s place ≡ good
unfolding check_at check_from
end_good s place h = rw (drop_of_length-le s {i = place} h)

module _ (s : List ℕ) (place : ℕ) where
  -- where no sequence begins, the place is bad
  pub none_bad : place < length s → sequence_length UTF8-char (drop place s) ≡ 0 → check_at s place ≡ bad_at place
  unfolding check_at
  none_bad h e = stopped (drop place s) place (simp length-drop (omega arith)) e

  -- a sequence leads on to the place after it
  pub sequence_leads : (n : ℕ) → sequence_length UTF8-char (drop place s) ≡ suc n → check_at s place ≡ check_at s (place + suc n)
  unfolding check_at
  sequence_leads n e = sequence_passed (drop place s) place n e ∙ rw drop-drop
