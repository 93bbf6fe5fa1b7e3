-- Reals and doubles (ASHRAE 135, 20.2.6 and 20.2.7). Off NaN a float has its very bits; every NaN is the one of the logic.
-- Assumes nothing.
use Rattle.std.specs.Prelude.{ℕ, ◌≡◌, List, eqb, length, Float}
use Rattle.std.specs.Float.{Format, binary32, binary64}
use Rattle.std.specs.Float.Ieee.{of_bits, to_bits}
use Rattle.types.specs.Choice.{if}
use Rattle.types.specs.Refusal.{amount}
use Rattle.types.specs.Answer.{Answer, accepted, refused, then}
use Rattle.numbers.specs.Integer.{low_bytes, unsigned_value}
use Rattle.numbers.specs.Reading.{fixed_from}

-- a float of a format that takes so many bytes: content of another length is refused
unfoldable pub float_under : Format → ℕ → ℕ → List ℕ → ℕ → Answer Float
float_under f count len xs place =
    if (eqb len count) (then (fixed_from count xs place) (λ bits next. accepted (of_bits f bits) next))
    (refused 7 (amount len))

abbrev pub real_under : ℕ → List ℕ → ℕ → Answer Float
real_under = float_under binary32 4

abbrev pub double_under : ℕ → List ℕ → ℕ → Answer Float
double_under = float_under binary64 8

-- the bytes that are written for it
abbrev pub real_bytes : Float → List ℕ
real_bytes x = low_bytes 4 (to_bits binary32 x)

abbrev pub double_bytes : Float → List ℕ
double_bytes x = low_bytes 8 (to_bits binary64 x)

-- content of this length whose bytes are the pattern of this float
pub record IsFloat (f : Format) (count len : ℕ) (bytes : List ℕ) (x : Float) : Type 0 where
  pub of_length : len ≡ count
  pub sized : length bytes ≡ count
  pub stands : x ≡ of_bits f (unsigned_value bytes)
