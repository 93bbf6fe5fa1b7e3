-- Integers (ASHRAE 135, 20.2.4 and 20.2.5, which are numbers' `unsigned_from` and `signed_from`) and enumerated values (20.2.11).
-- Assumes nothing.
use Rattle.std.specs.Prelude.{ℕ, ◌≤◌, ◌≡◌, List, ltb, length}
use Rattle.types.specs.Choice.{if}
use Rattle.types.specs.Refusal.{amount}
use Rattle.types.specs.Answer.{Answer, accepted, refused, then}
use Rattle.numbers.specs.Integer.{unsigned_value}
use Rattle.numbers.specs.Reading.{unsigned_from}

-- an enumerated value: as an unsigned integer, in 32 bits
unfoldable pub enumerated_under : ℕ → List ℕ → ℕ → Answer ℕ
enumerated_under len xs place =
    then (unsigned_from len xs place) (λ x next.
    if (ltb 4294967295 x) (refused 18 (amount 0)) (accepted x next))

-- content of this length, 1 to 8, whose bytes stand for this integer, in either notation
pub record IsInteger {A : Type 0} (value_of : List ℕ → A) (len : ℕ) (bytes : List ℕ) (x : A) : Type 0 where
  pub some : 1 ≤ len
  pub most : len ≤ 8
  pub sized : length bytes ≡ len
  pub stands : x ≡ value_of bytes

-- and for this enumerated value
pub record IsEnumerated (len : ℕ) (bytes : List ℕ) (x : ℕ) : Type 0 where
  pub integer : IsInteger unsigned_value len bytes x
  pub fits : x ≤ 4294967295
