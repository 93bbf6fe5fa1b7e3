-- The text of a line, and what a call for the text of the line at a place answers and leaves (document 01, "The program").
-- Assumes nothing.
use Rattle.std.specs.Prelude.{Bool, List, ℕ, ◌+◌, ltb, length, drop, Option, Some, None, Result, Ok, Err}
use Rattle.types.specs.Choice.{if}
use Rattle.types.specs.Refusal.{Carried, amount, table}
use Rattle.types.specs.Writing.{over}
use Rattle.lines.specs.Hexadecimal.{pairs, leading, is_frame}
use Rattle.lines.specs.Lines.{until_newline, End, line_ends, no_line, end_from}
use Rattle.dump.specs.Frame.{refused_line, frame_text}
use Rattle.dump.specs.Room.{text_room}
use Rattle.types.specs.declared.refusal.Refusal.{Refusal}
use Rattle.dump.specs.declared.line.LinePut.{LinePut}

-- the text of a frame of these bytes, or 19 where the line is none
abbrev pub text_by : Bool → ℕ → List ℕ → List ℕ
text_by good number bytes = if good (frame_text number bytes) (refused_line number 19)

-- the text of the line of that number
unfoldable pub text_of : ℕ → List ℕ → List ℕ
text_of number l = text_by (is_frame l) number (pairs l)

-- what a call for the text of a line answers: where the next line begins and the place after the text, that no line ends there, or a refusal
pub data LineAnswer : Type 0 where
  text_put : ℕ → ℕ → LineAnswer
  none_ends : LineAnswer
  not_put : ℕ → Carried → LineAnswer

abbrev pub paper_put : Result (Option LinePut) Refusal → LineAnswer
paper_put (Ok (Some put)) = text_put put.next put.place
paper_put (Ok None) = none_ends
paper_put (Err r) = not_put (table r).number (table r).carries

-- the answer, and the whole buffer that is left
pub record LineLeft : Type 0 where
  pub answer : LineAnswer
  pub buffer : List ℕ

abbrev pub line_left : LineAnswer → List ℕ → LineLeft
line_left a xs = record { answer = a; buffer = xs }

abbrev pub put_by : End → List ℕ → List ℕ → ℕ → LineLeft
put_by (line_ends end next) text out place = line_left (text_put next (place + length text)) (over out place text)
put_by no_line text out place = line_left none_ends out

-- the text of the line that begins at a place: 2 for either place past its buffer's end, then 13 for less room than any text may need
unfoldable pub put_from : (ended : Bool) (number : ℕ) (xs : List ℕ) (start : ℕ) (out : List ℕ) (place : ℕ) → LineLeft
put_from ended number xs start out place =
    if (ltb (length xs) start) (line_left (not_put 2 (amount start)) out)
    (if (ltb (length out) place) (line_left (not_put 2 (amount place)) out)
    (if (ltb (length out) (place + text_room)) (line_left (not_put 13 (amount text_room)) out)
    (put_by (end_from ended xs start) (text_of number (until_newline (drop start xs))) out place)))

-- the lent frame has the bytes of the line's digits at its start, and is untouched by a refusal
abbrev pub frame_after : LineAnswer → List ℕ → List ℕ → List ℕ
frame_after (text_put next place) line frame = over frame 0 (leading line)
frame_after none_ends line frame = over frame 0 (leading line)
frame_after (not_put n c) line frame = frame
