-- The line at a place of what was read, and what is kept of a line that has not ended (document 01, "The program").
-- Assumes nothing.
use Rattle.std.specs.Prelude.{Bool, List, [], ◌∷◌, ℕ, ◌+◌, ltb, eqb, length, take, drop, Option, Some, None, Result, Ok, Err}
use Rattle.types.specs.Choice.{if}
use Rattle.types.specs.Refusal.{Carried, amount, table}
use Rattle.types.specs.Writing.{over}
use Rattle.lines.specs.Hexadecimal.{most_digits, pairs, leading, is_frame}
use Rattle.types.specs.declared.refusal.Refusal.{Refusal}
use Rattle.lines.specs.declared.line.Line.{Line}
use Rattle.lines.specs.declared.line.LineEnd.{LineEnd}

-- what stands before the first newline, or all
abbrev pub until_newline : List ℕ → List ℕ
until_newline [] = []
until_newline (b ∷ bs) = if (eqb b 10) [] (b ∷ until_newline bs)

-- where a line ends, and where the next begins
pub data End : Type 0 where
  line_ends : ℕ → ℕ → End
  no_line : End

-- a line from a place on, which goes to a newline or to the last place of what was read: it ends with the newline, or, if it is not empty, with the input
abbrev pub ending_by : (ended : Bool) (place last end : ℕ) → End
ending_by ended place last end = if (ltb end last) (line_ends end (end + 1)) (if ended (if (eqb place last) no_line (line_ends last last)) no_line)

unfoldable pub end_from : Bool → List ℕ → ℕ → End
end_from ended xs place = ending_by ended place (length xs) (place + length (until_newline (drop place xs)))

abbrev pub paper_end : Option LineEnd → End
paper_end (Some line) = line_ends line.end line.next
paper_end None = no_line

-- what stands at a place: a frame's digits, the count of its bytes and where the next line begins; a line that is no frame's; no line that ends; or a refusal
pub data LineThere : Type 0 where
  a_frame : (bytes next : ℕ) → LineThere
  no_frame : (next : ℕ) → LineThere
  not_ended : LineThere
  not_read : ℕ → Carried → LineThere

-- a line that ends: a frame's where there are bytes that its digits stand for
abbrev pub line_of : Option ℕ → ℕ → LineThere
line_of (Some bytes) next = a_frame bytes next
line_of None next = no_frame next

abbrev pub paper_line : Result (Option Line) Refusal → LineThere
paper_line (Ok (Some line)) = line_of line.bytes line.next
paper_line (Ok None) = not_ended
paper_line (Err r) = not_read (table r).number (table r).carries

abbrev pub line_by : End → List ℕ → LineThere
line_by (line_ends end next) l = if (is_frame l) (a_frame (length (pairs l)) next) (no_frame next)
line_by no_line l = not_ended

-- the line at a place: 2 for a place past the end
unfoldable pub line_from : (ended : Bool) (xs : List ℕ) (place : ℕ) → LineThere
line_from ended xs place = if (ltb (length xs) place) (not_read 2 (amount place)) (line_by (end_from ended xs place) (until_newline (drop place xs)))

-- the lent frame has the bytes of the line's digits at its start, and is untouched by a refusal
abbrev pub bytes_after : LineThere → (line frame : List ℕ) → List ℕ
bytes_after (a_frame bytes next) line frame = over frame 0 (leading line)
bytes_after (no_frame next) line frame = over frame 0 (leading line)
bytes_after not_ended line frame = over frame 0 (leading line)
bytes_after (not_read n c) line frame = frame

-- the most bytes of a line that are kept: enough to tell that it has too many digits
abbrev pub most_kept : ℕ
most_kept = most_digits + 1

-- what is kept of what was read, from a place on
unfoldable pub kept_of : List ℕ → ℕ → List ℕ
kept_of xs place = take most_kept (drop place xs)
