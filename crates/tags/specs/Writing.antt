-- Writing a tag (ASHRAE 135, 20.2.1).
-- Assumes nothing.
use Rattle.std.specs.Prelude.{ℕ, ◌+◌, ◌*◌, ◌≡◌, Bool, true, List, [], ◌∷◌, ◌++◌, length, ltb, eqb}
use Rattle.types.specs.Choice.{if}
use Rattle.types.specs.Tag.{Number, application, context, opening, closing, Tag}
use Rattle.types.specs.Writing.{Left, Writable, can, unwritable, settled, write_answer, writing}
use Rattle.numbers.specs.Integer.{low_bytes}

-- the low bits that tell a value
abbrev pub low_bits_for : ℕ → ℕ
low_bits_for v = if (ltb v 5) v 5

-- the bytes that follow for a value: none to 4, one to 253, the marker 254 and two to 65,535, and 255 and four above that
abbrev pub tag_value_bytes : ℕ → List ℕ
tag_value_bytes v =
    if (ltb v 5) []
    (if (ltb v 254) (v ∷ [])
    (if (ltb v 65536) (254 ∷ low_bytes 2 v)
    (255 ∷ low_bytes 4 v)))

-- a context number, to 14 in the field and from 15 on in a second byte, with the low bits
abbrev pub context_bytes : ℕ → ℕ → List ℕ
context_bytes n low = if (ltb n 15) ((n * 16 + 8 + low) ∷ []) ((248 + low) ∷ n ∷ [])

-- a tag's bytes, by its class and number
abbrev pub number_bytes : Number → ℕ → List ℕ
number_bytes (application n) v = (n * 16 + low_bits_for v) ∷ tag_value_bytes v
number_bytes (context n) v = context_bytes n (low_bits_for v) ++ tag_value_bytes v
number_bytes (opening n) v = context_bytes n 6
number_bytes (closing n) v = context_bytes n 7

-- the bytes of a tag
unfoldable pub tag_bytes : Tag → List ℕ
tag_bytes t = number_bytes t.number t.value

-- an opening and a closing have the value 0; any other tag may have any
abbrev pub value_allowed : Number → ℕ → Bool
value_allowed (application n) v = true
value_allowed (context n) v = true
value_allowed (opening n) v = eqb v 0
value_allowed (closing n) v = eqb v 0

-- the same, said and not computed
abbrev pub Valueless : Number → ℕ → Type 0
Valueless (application n) v = Unit {0}
Valueless (context n) v = Unit {0}
Valueless (opening n) v = v ≡ 0
Valueless (closing n) v = v ≡ 0

unfoldable pub tag_value_allowed : Tag → Bool
tag_value_allowed t = value_allowed t.number t.value

-- a tag whose value is not allowed cannot be written: 12
abbrev pub writable_tag : Tag → Writable
writable_tag t = if (tag_value_allowed t) can unwritable

-- what writing a tag at a place of a buffer answers and leaves
unfoldable pub tag_to : Tag → List ℕ → ℕ → Left
tag_to t xs place = writing 0 (writable_tag t) (tag_bytes t) xs place

-- what writing a tag answers and leaves, where so many bytes of content are to follow it: room is tested for all, and the place is behind the tag
unfoldable pub tag_before : Tag → ℕ → List ℕ → ℕ → Left
tag_before t content xs place = settled (tag_bytes t) xs place (write_answer 0 (writable_tag t) (length (tag_bytes t) + content) xs place)
