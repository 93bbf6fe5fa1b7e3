-- Reals and doubles, by one law over the format: what is read stands there and the other way round, and what is written reads back.
-- Assumes nothing.
use mathlib.Core.Path.{◌≡◌, refl, ◌∙◌, ap, sym, subst}
use Prim.Native.Nat.{ℕ, ◌+◌, ◌^◌, ◌<◌, ◌≤◌}
use native.Mathlib.Omega.{arith}
use mathlib.Core.List.{List, ◌++◌}
use lib.Dec.{eqb, T}
use lib.ListN.{length, drop}
use lib.Ieee.{Float, Format, binary32, binary64, fits, to_bits, of_bits}
use lib.Ieee.Bits.{of_bits-to_bits, to_bits-lt}
use borrow.Author.Tests.{eq-eqb, eqb-true}
use Rattle.types.specs.Answer.{accepted}
use Rattle.types.proofs.Choices.{either, read_on}
use Rattle.numbers.specs.Integer.{low_bytes, unsigned_value}
use Rattle.numbers.specs.Reading.{fixed_from}
use Rattle.numbers.proofs.Found.{fixed_found, fixed_at}
use Rattle.numbers.proofs.Low.{low_bytes_stand, low_bytes_length}
use Rattle.values.specs.Real.{float_under, real_bytes, double_bytes, IsFloat}
use Rattle.values.proofs.Standing.{StoodOr}

module _ (f : Format) (count : ℕ) where
  pub float_or : (len : ℕ) (xs : List ℕ) (place : ℕ) → StoodOr (λ (p : ℕ). IsFloat f count len) xs place (float_under f count len xs place)
  unfolding float_under
  float_or len xs place =
      either (StoodOr (λ (p : ℕ). IsFloat f count len) xs place) (eqb len count)
      (λ e. read_on (StoodOr (λ (p : ℕ). IsFloat f count len) xs place) (fixed_from count xs place)
      (λ bits next g.
      let w = fixed_found count xs place bits next g in
      record {
        bytes = w.bytes;
        is = record { of_length = eqb-true len count e; sized = w.sized; stands = ap (of_bits f) w.stands };
        here = w.here;
        ends = omega (arith, w.ends, w.sized);
      })
      (λ n c g. tt))
      (λ e. tt)

  pub float_read : (xs : List ℕ) (place : ℕ) (bytes rest : List ℕ) → length xs ≤ 65535 → place ≤ length xs → drop place xs ≡ bytes ++ rest → {len : ℕ} {x : Float} → IsFloat f count len bytes x
      → float_under f count len xs place ≡ accepted x (place + length bytes)
  unfolding float_under
  float_read xs place bytes rest small l e {len} {x} i =
      let w : fixed_from count xs place ≡ accepted (unsigned_value bytes) (place + length bytes) = subst (λ (k : ℕ). fixed_from k xs place ≡ accepted (unsigned_value bytes) (place + length bytes)) i.sized (fixed_at xs place bytes rest small l e) in
      simp (eq-eqb len count i.of_length, w) (ap (λ (y : Float). accepted y (place + length bytes)) (sym i.stands))

  float_is : (x : Float) → T (fits f x) → to_bits f x < 256 ^ count → IsFloat f count count (low_bytes count (to_bits f x)) x
  float_is x h l = record { of_length = refl; sized = low_bytes_length count (to_bits f x); stands = sym (ap (of_bits f) (low_bytes_stand count (to_bits f x) l) ∙ of_bits-to_bits f x h) }

pub real_is : (x : Float) → T (fits binary32 x) → IsFloat binary32 4 4 (real_bytes x) x
real_is x h = float_is binary32 4 x h (to_bits-lt binary32 x h)

pub double_is : (x : Float) → T (fits binary64 x) → IsFloat binary64 8 8 (double_bytes x) x
double_is x h = float_is binary64 8 x h (to_bits-lt binary64 x h)
