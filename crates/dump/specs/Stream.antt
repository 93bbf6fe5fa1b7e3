-- The text of a whole input (document 01, "The program"), and a reading of it piece by piece by calls of `put_line` and `keep`.
-- Assumes nothing.
use Rattle.std.specs.Prelude.{◌≡◌, Bool, true, false, List, [], ◌∷◌, ◌++◌, ℕ, ◌+◌, ◌-◌, length, take, drop}
use Rattle.types.specs.Refusal.{amount}
use Rattle.lines.specs.Lines.{kept_of}
use Rattle.lines.specs.Input.{lines_by}
use Rattle.dump.specs.Room.{text_room}
use Rattle.dump.specs.Put.{text_of, text_put, none_ends, not_put, line_left, put_from}

-- the texts of lines that are numbered from there on
abbrev pub texts : ℕ → List (List ℕ) → List ℕ
texts number [] = []
texts number (l ∷ ls) = text_of number l ++ texts (number + 1) ls

-- the text of what was read, its lines numbered from 1: of a whole input, or of one that a failed read cuts, where the line that it cuts has no text
unfoldable pub dump : Bool → List ℕ → List ℕ
dump ended input = texts 1 (lines_by ended input)

-- calls of `put_line` over what was read, from a place on and with the number of the line there, until nothing is left or no line ends:
-- the text that they put, the place that they come to, and the number of the line there.
-- The buffer that the text is put into may be another one at each call; a call refused for want of room is made again.
pub data Calls (xs : List ℕ) (ended : Bool) : (start number : ℕ) (text : List ℕ) (last count : ℕ) → Type 0 where
  nothing_left : {number : ℕ} → Calls xs ended (length xs) number [] (length xs) number
  no_line_ends : {start number : ℕ} (out : List ℕ) (place : ℕ) → line_left none_ends out ≡ put_from ended number xs start out place
      → Calls xs ended start number [] start number
  no_room : {start number last count : ℕ} {text : List ℕ} (out : List ℕ) (place : ℕ) → line_left (not_put 13 (amount text_room)) out ≡ put_from ended number xs start out place
      → Calls xs ended start number text last count → Calls xs ended start number text last count
  one_line : {start number last count : ℕ} {text : List ℕ} (out out' : List ℕ) (place to after : ℕ) → line_left (text_put to after) out' ≡ put_from ended number xs start out place
      → Calls xs ended to (number + 1) text last count → Calls xs ended start number (take (after - place) (drop place out') ++ text) last count

-- a reading of pieces: behind what is kept comes a piece, the lines that end are put, and `keep` keeps what is left;
-- where the input has ended the last line is put, and where a read fails it is not
pub data Reading : (ended : Bool) (kept : List ℕ) (number : ℕ) (pieces : List (List ℕ)) (text : List ℕ) → Type 0 where
  input_ended : {kept text : List ℕ} {number last count : ℕ} → Calls kept true 0 number text last count
      → Reading true kept number [] text
  read_failed : {kept : List ℕ} {number : ℕ} → Reading false kept number [] []
  piece_read : {ended : Bool} {kept piece text more : List ℕ} {pieces : List (List ℕ)} {number last count : ℕ} → Calls (kept ++ piece) false 0 number text last count
      → Reading ended (kept_of (kept ++ piece) last) count pieces more
      → Reading ended kept number (piece ∷ pieces) (text ++ more)

-- all pieces
abbrev pub joined : List (List ℕ) → List ℕ
joined [] = []
joined (p ∷ ps) = p ++ joined ps
