-- Room for a text. That `text_room` is asked for is promised; the other two are about the code alone.
-- Assumes nothing.
use Rattle.std.specs.Prelude.{ℕ, ◌+◌, ◌*◌}
use Rattle.lines.specs.Hexadecimal.{most_bytes}
use Rattle.text.specs.Text.{line_room}

-- the room that is asked for before a text is put; no text is longer
abbrev pub text_room : ℕ
text_room = 86016

-- no line of a tag is longer
abbrev pub tag_room : ℕ
tag_room = 57

-- the text of a walk: a line for each byte at most, and the outcome's
abbrev pub walk_room : ℕ
walk_room = tag_room * most_bytes + line_room
