-- About the code alone: what is known of a number that was read, a tag's byte where it has one, and the beginning of an item. No promise to a caller cites this.
-- Assumes nothing.
use Rattle.std.specs.Prelude.{◌≡◌, true, ℕ, ◌+◌, ◌<◌, List, [], ◌∷◌, ◌++◌, length, Option, Some, None}
use Rattle.types.specs.Tag.{Number, Tag, tag}
use Rattle.types.specs.Writing.{Left, can, settled, write_answer}
use Rattle.tags.specs.Header.{class_bit}
use Rattle.tags.specs.Writing.{context_bytes, tag_bytes, tag_value_allowed, writable_tag}

-- a number of application class has four bits
abbrev pub FieldWide : (first n : ℕ) → Type 0
FieldWide first n = class_bit first ≡ 0 → n < 16

-- where a byte is told, these bytes are it alone
abbrev pub OneOf : Option ℕ → List ℕ → Type 0
OneOf (Some b) bytes = bytes ≡ b ∷ []
OneOf None bytes = Unit {0}

-- and so are the tag's, which can be written
abbrev pub OneByte : Option ℕ → Tag → Type 0
OneByte (Some b) t = (tag_bytes t ≡ b ∷ []) × (tag_value_allowed t ≡ true)
OneByte None t = Unit {0}

-- and those of an opening or a closing, by its low bits
abbrev pub BlockByte : Option ℕ → (number low value : ℕ) → Type 0
BlockByte (Some b) number low value = (context_bytes number low ≡ b ∷ []) × (value ≡ 0)
BlockByte None number low value = Unit {0}

-- what writing one byte answers and leaves, where so many bytes are to follow it
unfoldable pub one_before : (byte content : ℕ) → List ℕ → (place : ℕ) → Left
one_before b content xs place = settled (b ∷ []) xs place (write_answer 0 can (1 + content) xs place)

-- what writing an item's tag and the first bytes of its content answers and leaves, where so many bytes more are to follow: room is tested for all
unfoldable pub item_before : (more : ℕ) → Number → List ℕ → List ℕ → (place : ℕ) → Left
item_before more n first xs place =
    let t : Tag = tag n (length first + more) in
    settled (tag_bytes t ++ first) xs place (write_answer 0 (writable_tag t) (length (tag_bytes t) + (length first + more)) xs place)
