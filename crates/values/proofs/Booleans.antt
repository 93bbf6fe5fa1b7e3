-- Booleans: what is read stands there and the other way round, what is written reads back, and which are written again as they stood.
-- Assumes nothing.
use mathlib.Core.Path.{◌≡◌, refl, ap, sym, subst}
use mathlib.Core.Bool.{Bool, true, false}
use Prim.Native.Nat.{ℕ, ◌+◌, ◌≤◌}
use native.Mathlib.Nat.{add-zero}
use native.Mathlib.Omega.{arith}
use mathlib.Core.List.{List, []}
use lib.Dec.{ltb}
use lib.ListN.{length}
use borrow.Author.Tests.{lt-ltb, ltb-true, ltb-false}
use mir.Val.{bool_byte}
use Rattle.types.specs.Answer.{accepted}
use Rattle.tags.specs.Item.{boolean_byte}
use Rattle.values.specs.Boolean.{boolean_under, IsBoolean, is_false, is_true}
use Rattle.values.proofs.Standing.{Stood, StoodOr}

pub boolean_or : (v : ℕ) (xs : List ℕ) (place : ℕ) → StoodOr (λ (p : ℕ). IsBoolean v) xs place (boolean_under v place)
unfolding boolean_under
boolean_or v xs place = go (ltb 0 v) refl
  where
    go : (b : Bool) → ltb 0 v ≡ b → Stood (λ (p : ℕ). IsBoolean v) xs place b place
    go true e = record { bytes = []; is = is_true (ltb-true 0 v e); here = refl; ends = sym (add-zero place) }
    go false e =
        let l : v ≤ 0 = ltb-false 0 v e in
        let z : 0 ≡ v = omega arith in
        record { bytes = []; is = subst (λ (n : ℕ). IsBoolean n [] false) z is_false; here = refl; ends = sym (add-zero place) }

pub boolean_read : {v : ℕ} {bytes : List ℕ} {b : Bool} → IsBoolean v bytes b → (place : ℕ) → boolean_under v place ≡ accepted b (place + length bytes)
unfolding boolean_under
boolean_read is_false place = ap (accepted false) (sym (add-zero place))
boolean_read (is_true {v} h) place = simp (lt-ltb 0 v h) (ap (accepted true) (sym (add-zero place)))

pub boolean_is : (b : Bool) → IsBoolean (boolean_byte b) [] b
boolean_is true = is_true {v = 1} (omega arith)
boolean_is false = is_false

-- it is written again as it stood exactly if its tag's value was 0 or 1
pub boolean_again : {v : ℕ} {bytes : List ℕ} {b : Bool} → IsBoolean v bytes b → v ≤ 1 → (boolean_byte b ≡ v) × ([] ≡ bytes)
boolean_again is_false l = (refl, refl)
boolean_again (is_true h) l = (omega arith, refl)

pub boolean_small : (b : Bool) → boolean_byte b ≤ 1
boolean_small true = omega arith
boolean_small false = omega arith

-- the language's number for a Boolean is the standard's
pub same_number : (b : Bool) → bool_byte b ≡ boolean_byte b
same_number true = refl
same_number false = refl
