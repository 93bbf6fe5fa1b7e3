-- Times of day: what is read stands there and the other way round, and what was read is written again as it stood.
-- Assumes nothing.
use mathlib.Core.Path.{◌≡◌, refl, ap, subst}
use Prim.Native.Nat.{ℕ, ◌+◌, ◌≤◌}
use native.Mathlib.Omega.{arith}
use mathlib.Core.List.{List, [], ◌∷◌, ◌++◌}
use lib.Dec.{ltb, eqb}
use lib.ListN.{length, get_or, drop, length-drop}
use borrow.Author.Tests.{le-ltb, ltb-false, eqb-true}
use Rattle.types.specs.Answer.{accepted}
use Rattle.types.proofs.Choices.{either}
use Rattle.values.specs.Time.{Time, time_of, time, time_under, IsTime, of_fields, time_bytes}
use Rattle.values.specs.declared.time.Time as program
use Rattle.values.proofs.Standing.{StoodOr, four_bytes, first_byte, later_byte}

-- four bytes are a time, whatever the length is called
four_are : (h m s c : ℕ) {len : ℕ} → 4 ≡ len → IsTime len (h ∷ m ∷ s ∷ c ∷ []) (time h m s c)
four_are h m s c e = subst (λ (k : ℕ). IsTime k (h ∷ m ∷ s ∷ c ∷ []) (time h m s c)) e of_fields

pub time_or : (len : ℕ) (xs : List ℕ) (place : ℕ) → StoodOr (λ (p : ℕ). IsTime len) xs place (time_under len xs place)
unfolding time_under
time_or len xs place =
    either (StoodOr (λ (p : ℕ). IsTime len) xs place) (eqb len 4)
    (λ e. either (StoodOr (λ (p : ℕ). IsTime len) xs place) (ltb (length xs) (place + 4)) (λ f. tt)
    (λ f.
    let four : 4 ≡ len = omega (arith, eqb-true len 4 e) in
    record {
      bytes = _;
      is = four_are (get_or xs place 0) (get_or xs (place + 1) 0) (get_or xs (place + 2) 0) (get_or xs (place + 3) 0) four;
      here = four_bytes xs place (ltb-false (length xs) (place + 4) f);
      ends = refl;
    }))
    (λ e. tt)

pub time_read : (xs : List ℕ) (place : ℕ) (rest : List ℕ) → {len : ℕ} {bytes : List ℕ} {t : Time} → IsTime len bytes t → drop place xs ≡ bytes ++ rest → place ≤ length xs
    → time_under len xs place ≡ accepted t (place + length bytes)
unfolding time_under
time_read xs place rest (of_fields {h} {m} {s} {c}) e l =
    let bytes : List ℕ = h ∷ m ∷ s ∷ c ∷ [] in
    let n : place + 4 ≤ length xs = omega (arith, length-drop place xs, ap length e) in
    simp (le-ltb (length xs) (place + 4) n, first_byte xs place bytes rest e, later_byte xs place bytes rest 1 e, later_byte xs place bytes rest 2 e, later_byte xs place bytes rest 3 e)

pub time_is : (t : Time) → IsTime 4 (time_bytes t) t
time_is t = of_fields

pub time_again : {len : ℕ} {bytes : List ℕ} {t : Time} → IsTime len bytes t → (time_bytes t ≡ bytes) × (4 ≡ len)
time_again of_fields = (refl, refl)

-- no two times of the program are the same on paper
abbrev pub program_time : Time → program.Time
program_time t = record { hour = t.hour; minute = t.minute; second = t.second; hundredths = t.hundredths }

pub time_back : (x : program.Time) → program_time (time_of x) ≡ x
time_back x = refl
