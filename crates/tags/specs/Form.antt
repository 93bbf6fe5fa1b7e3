-- The form that a tag is written in, said and not computed (ASHRAE 135, 20.2.1.2 and 20.2.1.3.1; 01, "Tags"): the shortest bytes that stand for it.
-- Assumes nothing.
use Rattle.std.specs.Prelude.{ℕ, ◌≤◌, ◌≡◌, List, length, get_or}
use Rattle.types.specs.Tag.{Number, application, context, opening, closing, Tag}
use Rattle.numbers.specs.Integer.{Bytes}
use Rattle.tags.specs.Header.{low_bits, IsTag}

-- bytes that stand for a tag: one whole tag, and each is below 256
pub record StandsFor (t : Tag) (bytes : List ℕ) : Type 0 where
  pub whole : IsTag t bytes
  pub below : Bytes bytes

-- the low bits of a tag of value 0: 6 for an opening, 7 for a closing, and 0 for any other
abbrev pub zero_low : Number → ℕ
zero_low (application n) = 0
zero_low (context n) = 0
zero_low (opening n) = 6
zero_low (closing n) = 7

-- the low bits of the first of a tag's bytes
abbrev pub first_low : List ℕ → ℕ
first_low bytes = low_bits (get_or bytes 0 0)

-- of all bytes that stand for a tag none is shorter, and no other is as short; but a value of 0, which in application class low bits 6 and 7 may tell too, is told by the low bits above
pub record Form (t : Tag) (bytes : List ℕ) : Type 0 where
  pub stands : StandsFor t bytes
  pub least : (other : List ℕ) → StandsFor t other → length bytes ≤ length other
  pub only : (other : List ℕ) → StandsFor t other → length other ≡ length bytes → (t.value ≡ 0 → first_low other ≡ zero_low t.number) → other ≡ bytes
  pub zero : t.value ≡ 0 → first_low bytes ≡ zero_low t.number
