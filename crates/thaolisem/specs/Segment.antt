-- A frame of an answer in segments, taken with a state of eight numbers: begun, finished, invoke id, service choice, sequence number due, bytes held, and two that are not read.
-- Assumes nothing.
use Rattle.std.specs.Prelude.{ℕ, not, List, eqb, get_or}
use Rattle.tags.specs.Item.{boolean_byte}
use Rattle.segments.specs.State.{State, state}
use Rattle.segments.specs.Taking.{TakeAnswer, more, finished, refused}
use Rattle.thaolisem.specs.Told.{eight, told_refusal}

-- the numbers of a state
abbrev pub state_numbers : State → List ℕ
state_numbers s = eight (boolean_byte s.begun) (boolean_byte s.finished) s.id s.choice s.due s.held 0 0

-- the state of numbers, whatever they are: any but 0 says that it is begun, or finished, and the others are taken as they are
abbrev pub state_in : List ℕ → State
state_in ns = state (not (eqb (get_or ns 0 0) 0)) (not (eqb (get_or ns 1 0) 0)) (get_or ns 2 0) (get_or ns 3 0) (get_or ns 4 0) (get_or ns 5 0)

-- the numbers then: those of the state answered or, after a refusal, as they were
abbrev pub numbers_then : List ℕ → TakeAnswer → List ℕ
numbers_then ns (more s) = state_numbers s
numbers_then ns (finished s) = state_numbers s
numbers_then ns (refused n c) = ns

-- the eight numbers that tell the answer: the next place, which is the bytes held, 1 where more segments are to follow or 2, and the sequence number due
abbrev pub told_taken : TakeAnswer → List ℕ
told_taken (more s) = eight 0 s.held 1 s.due 0 0 0 0
told_taken (finished s) = eight 0 s.held 2 s.due 0 0 0 0
told_taken (refused n c) = told_refusal n c 0
