-- Where a body is absent, and where one is begun, on bytes alone (ASHRAE 135, 20.2.1.3.2 for the tag that opens a body). Nothing here reads or scans.
-- Assumes nothing.
use Rattle.std.specs.Prelude.{ℕ, ◌<◌, ◌≡◌, List, ◌++◌, length, drop}
use Rattle.types.specs.Tag.{opening, Tag, tag}
use Rattle.tags.specs.Header.{IsTag}
use Rattle.bodies.specs.Optional.{Absence, end_of_buffer, other_tag}

-- at a place of the bytes xs a body of number n is absent: the place is their end; or a whole tag stands there that is not the opening of n
pub data AbsentAt (xs : List ℕ) (place n : ℕ) : Absence → Type 0 where
  ends : place ≡ length xs → AbsentAt xs place n end_of_buffer
  other : {t : Tag} (bytes rest : List ℕ) → drop place xs ≡ bytes ++ rest → IsTag t bytes → (t.number ≡ opening n → ⊥)
      → AbsentAt xs place n (other_tag t)

-- at a place of the bytes xs a body of number n is begun: its opening stands there; or there is at least one byte, and the bytes up to the end would be its opening if more bytes followed
pub data Begun (xs : List ℕ) (place n : ℕ) : Type 0 where
  stands : (bytes rest : List ℕ) → drop place xs ≡ bytes ++ rest → IsTag (tag (opening n) 0) bytes → Begun xs place n
  cut : (more : List ℕ) → place < length xs → IsTag (tag (opening n) 0) (drop place xs ++ more) → Begun xs place n
