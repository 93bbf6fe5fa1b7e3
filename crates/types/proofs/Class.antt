-- A tag's class and number, as two numbers, tell the whole: what has the same two is the same.
-- Assumes nothing.
use mathlib.Core.Path.{◌≡◌, refl, sym, ap, ap₂, ◌∙◌}
use mathlib.Core.Logic.{◌↔◌}
use mathlib.Core.Bool.{Bool, true, false}
use Prim.Native.Nat.{ℕ}
use native.Mathlib.Omega.{arith}
use lib.Dec.{eqb}
use borrow.Author.Tests.{eqb-true, eq-eqb}
use Rattle.types.specs.Choice.{if}
use Rattle.types.specs.Tag.{Number, application, context, opening, closing, class_of, number_in}

-- what a class and a number stand for
abbrev pub of_class : (class number : ℕ) → Number
of_class class k = if (eqb class 1) (application k) (if (eqb class 2) (context k) (if (eqb class 3) (opening k) (closing k)))

-- class and number give back what they were taken from
pub class_back : (x : Number) → of_class (class_of x) (number_in x) ≡ x
class_back (application k) = refl
class_back (context k) = refl
class_back (opening k) = refl
class_back (closing k) = refl

-- so no two have the same class and number
pub single_number : (x y : Number) → class_of x ≡ class_of y → number_in x ≡ number_in y → x ≡ y
single_number x y e f = sym (class_back x) ∙ ap₂ of_class e f ∙ class_back y

-- the test whether two have one class and number holds exactly of the same
pub same_exactly : (x y : Number) → (if (eqb (class_of x) (class_of y)) (eqb (number_in x) (number_in y)) false ≡ true) ↔ (x ≡ y)
same_exactly x y = (there (eqb (class_of x) (class_of y)) refl, λ e. simp (eq-eqb (class_of x) (class_of y) (ap class_of e), eq-eqb (number_in x) (number_in y) (ap number_in e)))
  where
    there : (b : Bool) → eqb (class_of x) (class_of y) ≡ b → if b (eqb (number_in x) (number_in y)) false ≡ true → x ≡ y
    there true e f = single_number x y (eqb-true (class_of x) (class_of y) e) (eqb-true (number_in x) (number_in y) f)
    there false e f = let z : ◌≡◌ {A = ℕ} 0 1 = cc in absurd (omega arith)
