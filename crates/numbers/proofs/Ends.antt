-- The ends of what n bytes hold: 256 ^ n - 1 unsigned, 256 ^ n / 2 - 1 and -(256 ^ n / 2) signed. What lies past those of n bytes and within those of one byte more takes one more. Once, over the length.
-- Assumes nothing.
use mathlib.Core.Path.{◌≡◌, refl, ◌∙◌}
use mathlib.Core.Bool.{true, false}
use mathlib.Core.Logic.{◌⊎◌, inl, inr, ⊎_elim}
use Prim.Native.Nat.{ℕ, zero, suc, ◌-◌, ◌*◌, ◌/◌, ◌^◌, ◌<◌, ◌≤◌}
use native.Mathlib.Omega.{arith}
use native.Mathlib.Nat.{eq-or-lt_of_le, pow-le-pow_right, pow-succ', one-le-pow}
use lib.Dec.{lit<}
use lib.IntN.{ℤ, pos, negsuc}
use lib.Signed.{mag, le_z}
use borrow.Author.Tests.{le-leb, leb-true, leb-false}
use Rattle.numbers.specs.Integer.{unsigned_length, signed_length}
use Rattle.numbers.proofs.Least.{length_between, length_holds, length_least}
use Rattle.numbers.proofs.Shortest.{signed_as_unsigned}

-- for n below 8: past the end of n bytes, where n is not 0, and not past that of n + 1, the least number of bytes is n + 1
pub length_by_ends : (n v : ℕ) → n < 8 → (0 < n → 256 ^ n - 1 < v) → v ≤ 256 ^ suc n - 1 → unsigned_length v ≡ suc n
length_by_ends n v few past held =
    let some : 1 ≤ 256 ^ suc n = one-le-pow (suc n) 256 (lit< tt) in
    let most : 256 ^ suc n ≤ 256 ^ 8 = pow-le-pow_right {n = 256} (lit< tt) {j = 8} (omega arith) in
    ⊎_elim (λ e. e)
    (λ l.
    let up : 256 ^ unsigned_length v ≤ 256 ^ n = pow-le-pow_right {n = 256} (lit< tt) (omega arith) in
    absurd (omega (arith, length_holds v (omega arith), past (omega (arith, length_between v)))))
    (eq-or-lt_of_le (length_least v (suc n) (omega arith) (omega arith)))

-- a signed integer from -(e + 1) to e
abbrev pub Within : ℕ → ℤ → Type 0
Within e z = (le_z (negsuc e) z ≡ true) × (le_z z (pos e) ≡ true)

-- one above e, or below -(e + 1)
abbrev pub Beyond : ℕ → ℤ → Type 0
Beyond e z = (le_z z (pos e) ≡ false) ⊎ (le_z (negsuc e) z ≡ false)

-- both are told by `mag`
pub within : (e : ℕ) (z : ℤ) → mag z ≤ e → Within e z
within e (pos k) h = (refl, le-leb k e h)
within e (negsuc k) h = (le-leb k e h, refl)

within_mag : (e : ℕ) (z : ℤ) → Within e z → mag z ≤ e
within_mag e (pos k) w = leb-true k e w.1
within_mag e (negsuc k) w = leb-true k e w.0

beyond_mag : (e : ℕ) (z : ℤ) → Beyond e z → e < mag z
beyond_mag e (pos k) (inl u) = leb-false k e u
beyond_mag e (pos k) (inr l) = absurd (omega (arith, leb-false 0 0 l))
beyond_mag e (negsuc k) (inl u) = absurd (omega (arith, leb-false 0 0 u))
beyond_mag e (negsuc k) (inr l) = leb-false k e l

-- the same of a signed integer: beyond an end of n bytes, where n is not 0, and within those of n + 1
pub signed_by_ends : (n : ℕ) (z : ℤ) → n < 8 → (0 < n → Beyond (256 ^ n / 2 - 1) z) → Within (256 ^ suc n / 2 - 1) z → signed_length z ≡ suc n
signed_by_ends n z few past held =
    signed_as_unsigned z
    ∙ length_by_ends n (mag z * 2) few (λ p. doubled n p (beyond_mag (256 ^ n / 2 - 1) z (past p)))
    (omega (arith, within_mag (256 ^ suc n / 2 - 1) z held, pow-succ' 256 n, one-le-pow n 256 (lit< tt)))
  where
    -- 256 ^ m is even, where m is not 0
    doubled : (m : ℕ) → 0 < m → 256 ^ m / 2 - 1 < mag z → 256 ^ m - 1 < mag z * 2
    doubled zero p h = absurd (omega arith)
    doubled (suc m) p h = omega (arith, pow-succ' 256 m)
