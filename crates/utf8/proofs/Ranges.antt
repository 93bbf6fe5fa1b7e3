-- A byte and a range of the table: the test says what it is meant to say.
-- Assumes nothing.
use mathlib.Core.Path.{◌≡◌, refl}
use mathlib.Core.Bool.{Bool, true, false, ◌&&◌, and-false, and-eq-true_iff}
use Prim.Native.Nat.{ℕ, ◌≤◌, ◌<◌}
use lib.Dec.{leb}
use borrow.Author.Tests.{le-leb, lt-leb, leb-true}
use Rattle.utf8.specs.Check.{within}

-- a byte in the range
pub in_range : (low high byte : ℕ) → low ≤ byte → byte ≤ high → within low high byte ≡ true
unfolding within
in_range low high byte h k = rw (le-leb low byte h, le-leb byte high k)

-- a byte above the range
pub above_range : (low high byte : ℕ) → high < byte → within low high byte ≡ false
unfolding within
above_range low high byte h = rw (lt-leb byte high h) (and-false (leb low byte))

-- a byte below the range
pub below_range : (low high byte : ℕ) → byte < low → within low high byte ≡ false
unfolding within
below_range low high byte h = rw (lt-leb low byte h)

-- a byte that is above the range unless it is below it
pub outside_range : (low high byte : ℕ) → (low ≤ byte → high < byte) → within low high byte ≡ false
unfolding within
outside_range low high byte h = by_test (leb low byte) refl
  where
    by_test : (t : Bool) → leb low byte ≡ t → t && leb byte high ≡ false
    by_test true e = lt-leb byte high (h (leb-true low byte e))
    by_test false e = refl

-- a byte that passes the test is in the range
pub range_bounds : (low high byte : ℕ) → within low high byte ≡ true → (low ≤ byte) × (byte ≤ high)
unfolding within
range_bounds low high byte e =
    let both = (and-eq-true_iff (leb low byte) (leb byte high)).0 e in
    (leb-true low byte both.0, leb-true byte high both.1)
