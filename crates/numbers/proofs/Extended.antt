-- n bytes moved to the top of 64 bits and back, the sign bit copied, are the integer that they stand for in two's complement. Once, over the length.
-- Assumes nothing.
use mathlib.Core.Path.{◌≡◌, ◌∙◌, ap, sym}
use Prim.Native.Nat.{ℕ, suc, ◌+◌, ◌-◌, ◌*◌, ◌%◌, ◌^◌, ◌<◌, ◌≤◌}
use native.Mathlib.Nat.{add-mul, mul-le-mul_left, mul-le-mul_right, mul-div_left, mod-eq_of_lt, one-le-pow}
use native.Mathlib.Omega.{arith}
use lib.Arith.{digits_div}
use lib.Dec.{ltb, lit<}
use lib.IntN.{ℤ, pos, negsuc}
use lib.Pow.{pow-add}
use lib.Signed.{shr_z}
use borrow.Author.Tests.{ltb-true, ltb-false}
use mir.Syntax.{w64}
use mir.Val.{SFits, to_z, of_z}
use mir.ValLaws.{to_z_pos, to_z-of_z}
use Rattle.std.proofs.Math.Facts.{to_z-neg}
use Rattle.types.proofs.Choices.{either}
use Rattle.numbers.specs.Integer.{twos_complement}
use Rattle.numbers.proofs.Least.{bytes_as_bits}

module _ (n u : ℕ) (some : 0 < n) (most : n < 9) (held : u < 256 ^ n) where
  abbrev unit : ℕ
  unit = 2 ^ (64 - 8 * n)

  abbrev bits : ℕ
  bits = u * unit % 2 ^ 64

  whole : 256 ^ n * unit ≡ 2 ^ 64
  whole =
      let e : 8 * n + (64 - 8 * n) ≡ 64 = omega arith in
      ap (λ (m : ℕ). m * unit) (bytes_as_bits n) ∙ sym (pow-add 2 (8 * n) (64 - 8 * n)) ∙ ap (λ (k : ℕ). 2 ^ k) e

  abbrev Told : ℤ → Type 0
  Told z = (shr_z (to_z w64 bits) unit ≡ z) × SFits w64 z

  told : Told (twos_complement n u)
  told =
      let one : 1 ≤ unit = one-le-pow (64 - 8 * n) 2 (lit< tt) in
      let above : ℕ = 256 ^ n - 1 - u in
      let parts : 256 ^ n ≡ above + (u + 1) = omega arith in
      let split : 256 ^ n * unit ≡ above * unit + (u * unit + unit) = ap (λ (m : ℕ). m * unit) parts ∙ omega (arith, add-mul above (u + 1) unit, add-mul u 1 unit) in
      let same : bits ≡ u * unit = mod-eq_of_lt (omega (arith, whole, split, one)) in
      either Told (ltb (u * 2) (256 ^ n))
      (λ e.
      let l : u ≤ above = omega (arith, ltb-true (u * 2) (256 ^ n) e) in
      let low : u * unit < 2 ^ 63 = omega (arith, whole, split, one, mul-le-mul_right unit l) in
      (rw (same, to_z_pos w64 (u * unit) low) (ap pos (mul-div_left u one)), record { sfits = omega (arith, low, mul-le-mul_left u one) }))
      (λ e.
      let l : above + 1 ≤ u = omega (arith, ltb-false (u * 2) (256 ^ n) e) in
      let k : ℕ = above * unit + (unit - 1) in
      let low : k < 2 ^ 63 = omega (arith, whole, split, one, mul-le-mul_right unit l, add-mul above 1 unit) in
      let high : u * unit ≡ 2 ^ 64 - suc k = omega (arith, whole, split, one) in
      (rw (same, high, to_z-neg w64 k low) (ap negsuc (digits_div above (omega (arith, one)))), record { sfits = omega (arith, low, mul-le-mul_left above one) }))

  pub extended : (z : ℤ) → SFits w64 z → z ≡ to_z w64 bits → to_z w64 (of_z w64 (shr_z (to_z w64 (of_z w64 z)) unit)) ≡ twos_complement n u
  extended z fits e = rw (to_z-of_z w64 z fits, e, told.0) (to_z-of_z w64 (twos_complement n u) told.1)
