-- Octet strings (ASHRAE 135, 20.2.8), which are parts of the buffer: numbers' `slice_from`.
-- Assumes nothing.
use Rattle.std.specs.Prelude.{ℕ, ◌≡◌, List, length}
use Rattle.numbers.specs.Reading.{Part, part_at}

-- content of this length that begins at this place is this part
pub record IsOctets (len place : ℕ) (bytes : List ℕ) (p : Part) : Type 0 where
  pub sized : length bytes ≡ len
  pub lies : p ≡ part_at place len
