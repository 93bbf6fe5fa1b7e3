-- The laws by which a fact of a choice, or of what is read on, is proved.
-- Assumes nothing.
use mathlib.Core.Path.{◌≡◌, refl}
use Prim.Native.Nat.{ℕ}
use mathlib.Core.Bool.{Bool, true, false}
use Rattle.types.specs.Choice.{if}
use Rattle.types.specs.Refusal.{Carried}
use Rattle.types.specs.Answer.{Answer, accepted, refused, then}

-- what holds of either arm, each under its test, holds of the choice
pub either : {A : Type 0} (P : A → Type 0) (test : Bool) {a b : A} → (test ≡ true → P a) → (test ≡ false → P b) → P (if test a b)
either P true f g = f refl
either P false f g = g refl

-- what holds of each reading that goes on, and of each refusal, holds of reading on
pub read_on : {A B : Type 0} (P : Answer B → Type 0) (r : Answer A) {f : A → ℕ → Answer B}
    → ((a : A) (next : ℕ) → r ≡ accepted a next → P (f a next)) → ((n : ℕ) (c : Carried) → r ≡ refused n c → P (refused n c)) → P (then r f)
read_on P (accepted a next) g h = g a next refl
read_on P (refused n c) g h = h n c refl
