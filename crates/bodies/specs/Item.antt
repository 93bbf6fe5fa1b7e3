-- Items (document 01, "Bodies"; ASHRAE 135, 20.2.1.3): a tag followed by as many bytes as its value, with three exceptions.
-- Assumes nothing.
use Rattle.std.specs.Prelude.{ℕ, List, eqb}
use Rattle.types.specs.Choice.{if}
use Rattle.types.specs.Tag.{Number, application, context, opening, closing, Tag}

-- an application Boolean (number 1), an opening and a closing have no content; any other tag has as many bytes as its value
abbrev pub content_of : Number → ℕ → ℕ
content_of (application n) v = if (eqb n 1) 0 v
content_of (context n) v = v
content_of (opening n) v = 0
content_of (closing n) v = 0

-- how many bytes of content follow a tag
abbrev pub content_length : Tag → ℕ
content_length t = content_of t.number t.value

-- an item: a tag, the bytes that it is written in, and its content
pub record Item : Type 0 where
  pub tag : Tag
  pub header : List ℕ
  pub content : List ℕ
