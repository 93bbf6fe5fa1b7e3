-- What is written under one tag: its header and then its content, as one write.
-- Assumes nothing.
use Rattle.std.specs.Prelude.{ℕ, Bool, true, false, List, ◌++◌, length, Option, Some, None}
use Rattle.types.specs.Tag.{Number, application, context, tag}
use Rattle.types.specs.Writing.{Left, writing}
use Rattle.tags.specs.Writing.{tag_bytes, writable_tag}

-- a tag whose value is its content's length, and the content
abbrev pub item_bytes : Number → List ℕ → List ℕ
item_bytes n content = tag_bytes (tag n (length content)) ++ content

-- what writing it at a place of a buffer answers and leaves, where so many bytes of the content are lent
unfoldable pub item_lent_to : (lent : ℕ) → Number → List ℕ → List ℕ → ℕ → Left
item_lent_to lent n content xs place = writing lent (writable_tag (tag n (length content))) (item_bytes n content) xs place

-- and where none is
unfoldable pub item_to : Number → List ℕ → List ℕ → ℕ → Left
item_to n content xs place = item_lent_to 0 n content xs place

-- the number that an integer is written under: that of its kind, or the context number
abbrev pub number_under : ℕ → Option ℕ → Number
number_under kind None = application kind
number_under kind (Some n) = context n

-- a Boolean's content under a context tag (20.2.3)
abbrev pub boolean_byte : Bool → ℕ
boolean_byte true = 1
boolean_byte false = 0
