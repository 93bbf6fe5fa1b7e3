-- Every input can be read in any pieces, up to its end or to a read that fails: there are such calls, so the law of the text of pieces speaks of something.
-- Assumes nothing.
use mathlib.Core.Path.{◌≡◌, refl, sym}
use mathlib.Core.Bool.{Bool, true, false}
use mathlib.Core.List.{List, [], ◌∷◌, ◌++◌}
use Prim.Native.Nat.{ℕ, zero, suc, ◌+◌, ◌-◌, ◌≤◌, ◌<◌}
use native.Mathlib.Omega.{arith}
use lib.ListN.{length, drop, replicate, length-replicate}
use borrow.Author.Tests.{le-ltb}
use Rattle.types.specs.Writing.{over}
use Rattle.lines.specs.Lines.{until_newline, End, line_ends, no_line, end_from, kept_of}
use Rattle.lines.proofs.There.{ends_there}
use Rattle.dump.specs.Room.{text_room}
use Rattle.dump.specs.Put.{text_of, text_put, line_left, put_from}
use Rattle.dump.specs.Stream.{Calls, no_line_ends, one_line, Reading, input_ended, read_failed, piece_read}
use Rattle.dump.proofs.LineTexts.{no_line_lem}

pub record Called (xs : List ℕ) (ended : Bool) (start number : ℕ) : Type 0 where
  pub text : List ℕ
  pub last : ℕ
  pub count : ℕ
  pub calls : Calls xs ended start number text last count

pub record Readable (ended : Bool) (kept : List ℕ) (number : ℕ) (pieces : List (List ℕ)) : Type 0 where
  pub text : List ℕ
  pub reading : Reading ended kept number pieces text

-- a buffer with room for any text
empty : List ℕ
empty = replicate text_room 0

empty_length : length empty ≡ text_room
unfolding empty
empty_length = length-replicate {A = ℕ} text_room 0

put_there : (ended : Bool) (number : ℕ) (xs : List ℕ) (start : ℕ) (out : List ℕ) (there to : ℕ) → start ≤ length xs → text_room ≤ length out → line_ends there to ≡ end_from ended xs start
    → line_left (text_put to (0 + length (text_of number (until_newline (drop start xs))))) (over out 0 (text_of number (until_newline (drop start xs)))) ≡ put_from ended number xs start out 0
unfolding put_from
put_there ended number xs start out there to h k e =
    simp (le-ltb (length xs) start h, le-ltb (length out) 0 (omega arith), le-ltb (length out) (0 + text_room) (omega arith), sym e)

-- the calls come to their end, since each moves on
calls_from : (fuel : ℕ) (xs : List ℕ) (ended : Bool) (start number : ℕ) → start ≤ length xs → length xs - start < fuel → Called xs ended start number
calls_from zero xs ended start number h k = absurd (omega arith)
calls_from (suc fuel) xs ended start number h k =
    by_end (end_from ended xs start) refl (λ to a b. calls_from fuel xs ended to (number + 1) b (omega arith))
  where
    by_end : (x : End) → x ≡ end_from ended xs start → ((to : ℕ) → start < to → to ≤ length xs → Called xs ended to (number + 1)) → Called xs ended start number
    by_end no_line e f = record { text = []; last = start; count = number; calls = no_line_ends empty 0 (no_line_lem ended number xs start empty 0 h (omega (arith, empty_length)) e) }
    by_end (line_ends there to) e f =
        let w = ends_there ended xs start there to h e in
        let r = f to w.1 w.2 in
        record { text = _; last = r.last; count = r.count; calls = one_line empty (over empty 0 (text_of number (until_newline (drop start xs)))) 0 to (0 + length (text_of number (until_newline (drop start xs)))) (put_there ended number xs start empty there to h (omega (arith, empty_length)) e) r.calls }

pub all_called : (xs : List ℕ) (ended : Bool) (number : ℕ) → Called xs ended 0 number
all_called xs ended number = calls_from (suc (length xs)) xs ended 0 number (omega arith) (omega arith)

pub all_readable : (ended : Bool) (pieces : List (List ℕ)) (kept : List ℕ) (number : ℕ) → Readable ended kept number pieces
all_readable true [] kept number = let c = all_called kept true number in record { text = c.text; reading = input_ended c.calls }
all_readable false [] kept number = record { text = []; reading = read_failed }
all_readable ended (piece ∷ pieces) kept number =
    let c = all_called (kept ++ piece) false number in
    let r = all_readable ended pieces (kept_of (kept ++ piece) c.last) c.count in
    record { text = c.text ++ r.text; reading = piece_read c.calls r.reading }
