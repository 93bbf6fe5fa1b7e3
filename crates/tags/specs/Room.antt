-- No room means no room (document 02, K14): which byte strings read as an integer under a tag, and what a write is to answer by the room alone.
-- Assumes nothing.
use Rattle.std.specs.Prelude.{ℕ, ◌+◌, ◌-◌, ◌<◌, ◌≤◌, ◌≡◌, ◌↔◌, List, ◌++◌, length, ℤ, Option, Some, None}
use Rattle.types.specs.Tag.{Number, application, context, opening, closing, Tag, tag}
use Rattle.types.specs.Refusal.{amount}
use Rattle.types.specs.Answer.{Answer, accepted, refused}
use Rattle.types.specs.Writing.{Left, left, over}
use Rattle.types.specs.Acceptable.{IsAccepted}
use Rattle.numbers.specs.Integer.{Bytes}
use Rattle.numbers.specs.Reading.{unsigned_from, signed_from}
use Rattle.tags.specs.Reading.{tag_from}
use Rattle.tags.specs.Form.{StandsFor}

-- the class and number of an ordinary tag, as a byte or two carry them: application 0 to 15, of which integers take 2, 3 and 9, and context 0 to 255
abbrev pub Ordinary : Number → Type 0
Ordinary (application n) = n < 16
Ordinary (context n) = n < 256
Ordinary (opening n) = ⊥
Ordinary (closing n) = ⊥

-- a tag that an integer writer takes: the application tag of its kind, or a context number, which is a byte
abbrev pub TagTaken : Option ℕ → Type 0
TagTaken None = Unit {0}
TagTaken (Some n) = n < 256

-- a string of bytes that reads as a class and number and an integer, by 01's rules for tags (20.2.1) and integers: the tag at its start has that class and number, its value is a length, and the integer of that length ends at the string's end
pub record ReadsAs {A : Type 0} (integer_from : ℕ → List ℕ → ℕ → Answer A) (n : Number) (v : A) (string : List ℕ) : Type 0 where
  pub bytes : Bytes string
  pub found : Tag
  pub after : ℕ
  pub next : ℕ
  pub tag_read : tag_from string 0 ≡ accepted found after
  pub number : found.number ≡ n
  pub integer_read : integer_from found.value string after ≡ accepted v next
  pub whole : next ≡ length string

-- as an unsigned integer or an enumerated value, which has no bound of its own here (20.2.4, 20.2.11)
abbrev pub ReadsUnsigned : Number → ℕ → List ℕ → Type 0
ReadsUnsigned n v string = ReadsAs unsigned_from n v string

-- as a signed integer (20.2.5)
abbrev pub ReadsSigned : Number → ℤ → List ℕ → Type 0
ReadsSigned n z string = ReadsAs signed_from n z string

-- the same, said and not computed: bytes that stand for the tag of that class and number and of the content's length, and content of 1 to 8 bytes that stand for the integer
pub record IsIntegerItem {A : Type 0} (value_of : List ℕ → A) (n : Number) (v : A) (string : List ℕ) : Type 0 where
  pub header : List ℕ
  pub content : List ℕ
  pub parts : string ≡ header ++ content
  pub tagged : StandsFor (tag n (length content)) header
  pub bytes : Bytes content
  pub some : 1 ≤ length content
  pub most : length content ≤ 8
  pub stands : value_of content ≡ v

-- some string that is so fits the room
pub record Fits (IsSo : List ℕ → Type 0) (room : ℕ) : Type 0 where
  pub string : List ℕ
  pub is_so : IsSo string
  pub fits : length string ≤ room

-- of all strings that are so none is shorter than this one, and no other is as short
pub record OnlyShortest (IsSo : List ℕ → Type 0) (string : List ℕ) : Type 0 where
  pub is_so : IsSo string
  pub least : (other : List ℕ) → IsSo other → length string ≤ length other
  pub only : (other : List ℕ) → IsSo other → length other ≡ length string → other ≡ string

-- the room that a buffer leaves from a place on
abbrev pub room_from : List ℕ → ℕ → ℕ
room_from xs place = length xs - place

-- what a write at a place of a buffer answers and leaves by the room alone: it succeeds exactly if some string that is so fits, and writes the only shortest one; exactly where none fits it is refused 13, carrying that one's length, and changes no byte
pub record ByRoom (IsSo : List ℕ → Type 0) (xs : List ℕ) (place : ℕ) (l : Left) : Type 0 where
  pub shortest : List ℕ
  pub only_shortest : OnlyShortest IsSo shortest
  pub succeeds : IsAccepted l.answer ↔ Fits IsSo (room_from xs place)
  pub written : Fits IsSo (room_from xs place) → l ≡ left (accepted tt (place + length shortest)) (over xs place shortest)
  pub no_room : (l.answer ≡ refused 13 (amount (length shortest))) ↔ (Fits IsSo (room_from xs place) → ⊥)
  pub untouched : (Fits IsSo (room_from xs place) → ⊥) → l.buffer ≡ xs
