-- What a writer answers and leaves, on paper (document 01, "Refusal numbers").
-- Assumes nothing.
use Rattle.std.specs.Prelude.{ℕ, ◌+◌, List, ◌++◌, length, take, drop, ltb, Result, Ok, Err}
use Rattle.types.specs.Choice.{if}
use Rattle.types.specs.Refusal.{Carried, amount}
use Rattle.types.specs.Answer.{Answer, accepted, refused, refusal}
use Rattle.types.specs.declared.refusal.Refusal.{Refusal}

abbrev pub paper_written : Result ℕ Refusal → Answer (Unit {0})
paper_written (Ok next) = accepted tt next
paper_written (Err r) = refusal r

-- whether a value can be written at all: if not, the refusal's number and what it carries
pub data Writable : Type 0 where
  can : Writable
  cannot : ℕ → Carried → Writable

-- what no bytes stand for: 12
abbrev pub unwritable : Writable
unwritable = cannot 12 (amount 0)

abbrev pub unless : Writable → Answer (Unit {0}) → Answer (Unit {0})
unless can a = a
unless (cannot n c) a = refused n c

-- what a write of so many bytes at a place answers, in 01's order: the buffer's length, the lent content's (0 where none is lent), the place, what cannot be written, room
unfoldable pub write_answer : (lent : ℕ) → Writable → (count : ℕ) → List ℕ → (place : ℕ) → Answer (Unit {0})
write_answer lent w count xs place =
    if (ltb 65535 (length xs)) (refused 1 (amount (length xs)))
    (if (ltb 65535 lent) (refused 1 (amount lent))
    (if (ltb (length xs) place) (refused 2 (amount place))
    (unless w
    (if (ltb (length xs) (place + count)) (refused 13 (amount count))
    (accepted tt (place + count))))))

-- the answer, and the whole buffer that is left
pub record Left : Type 0 where
  pub answer : Answer (Unit {0})
  pub buffer : List ℕ

abbrev pub left : Answer (Unit {0}) → List ℕ → Left
left a xs = record { answer = a; buffer = xs }

-- the buffer with the bytes from a place on replaced, and no other
abbrev pub over : List ℕ → ℕ → List ℕ → List ℕ
over xs place bytes = take place xs ++ (bytes ++ drop (place + length bytes) xs)

-- an accepted write replaces those bytes and answers the place behind them, and a refused one replaces none
abbrev pub settled : List ℕ → List ℕ → ℕ → Answer (Unit {0}) → Left
settled bytes xs place (accepted u next) = left (accepted tt (place + length bytes)) (over xs place bytes)
settled bytes xs place (refused n c) = left (refused n c) xs

-- a write of bytes at a place of a buffer
unfoldable pub writing : (lent : ℕ) → Writable → List ℕ → List ℕ → (place : ℕ) → Left
writing lent w bytes xs place = settled bytes xs place (write_answer lent w (length bytes) xs place)
