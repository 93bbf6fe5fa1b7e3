-- What taking one frame answers and leaves (document 02, K9: its refusals in their order), and the maps from the program's answers.
-- Assumes nothing.
use Rattle.std.specs.Prelude.{ℕ, ◌+◌, ◌%◌, Bool, true, false, not, List, length, ◌==◌, nat_lt, Result, Ok, Err}
use Rattle.types.specs.Choice.{if}
use Rattle.types.specs.Refusal.{Carried, amount, table}
use Rattle.types.specs.Answer.{Outcome, passed, stopped}
use Rattle.types.specs.Writing.{over}
use Rattle.segments.specs.State.{State, state, state_of}
use Rattle.segments.specs.Segment.{control_of, invoke_id_of, sequence_of, window_of, choice_of, service_part, tells_segment, more_follow}
use Rattle.types.specs.declared.refusal.Refusal.{Refusal}
use Rattle.segments.specs.declared.taking.Taken as program
use Rattle.segments.specs.declared.taking.Taken.TheVariants as t

-- more segments are to follow, or this was the last, each with the state then; or a refusal's number with what it carries
pub data TakeAnswer : Type 0 where
  more : State → TakeAnswer
  finished : State → TakeAnswer
  refused : ℕ → Carried → TakeAnswer

-- the answer, and the whole buffer that is left
pub record After : Type 0 where
  pub answer : TakeAnswer
  pub buffer : List ℕ

abbrev pub after : TakeAnswer → List ℕ → After
after a xs = record { answer = a; buffer = xs }

-- a window goes from 1 to 127 (20.1.5)
abbrev pub window_allowed : ℕ → Bool
window_allowed w = if (nat_lt w 1) false (if (nat_lt 127 w) false true)

-- after the first frame all others have its invoke id and service choice
abbrev pub same_answer : State → (id choice : ℕ) → Bool
same_answer s id choice = if s.begun (if (id == s.id) (choice == s.choice) false) true

-- whether a frame of five bytes or more is a segment, and the one due
unfoldable pub as_due : State → List ℕ → Outcome
as_due s f =
    if (not (tells_segment (control_of f))) (stopped 17 (amount (control_of f)))
    (if (nat_lt 33 (choice_of f)) (stopped 11 (amount (choice_of f)))
    (if (not (window_allowed (window_of f))) (stopped 24 (amount 0))
    (if (not (same_answer s (invoke_id_of f) (choice_of f))) (stopped 25 (amount 0))
    (if (not (sequence_of f == s.due)) (stopped 26 (amount 0))
    passed))))

-- the state after a frame that is accepted, with so many bytes held: the sequence number due is the next one, and after 255 comes 0
abbrev pub state_then : List ℕ → (held : ℕ) → State
state_then f held = state true (not (more_follow f)) (invoke_id_of f) (choice_of f) ((sequence_of f + 1) % 256) held

-- and the answer
unfoldable pub answer_then : List ℕ → (held : ℕ) → TakeAnswer
answer_then f held = if (more_follow f) (more (state_then f held)) (finished (state_then f held))

-- the part of the frame that is due put behind the bytes held; where the buffer has no room for it, 13 carries its length
unfoldable pub joining : State → List ℕ → List ℕ → After
joining s f xs =
    if (nat_lt (length xs) (s.held + length (service_part f))) (after (refused 13 (amount (length (service_part f)))) xs)
    (after (answer_then f (s.held + length (service_part f))) (over xs s.held (service_part f)))

abbrev pub after_outcome : List ℕ → Outcome → After → After
after_outcome xs passed a = a
after_outcome xs (stopped n c) a = after (refused n c) xs

-- one frame taken, with a buffer lent: whatever the state is
unfoldable pub takes : State → List ℕ → List ℕ → After
takes s f xs =
    if s.finished (after (refused 27 (amount 0)) xs)
    (if (nat_lt 65535 (length xs)) (after (refused 1 (amount (length xs))) xs)
    (if (nat_lt 65535 (length f)) (after (refused 1 (amount (length f))) xs)
    (if (nat_lt (length f) 5) (after (refused 3 (amount (length f))) xs)
    (after_outcome xs (as_due s f) (joining s f xs)))))

abbrev pub paper_taken : Result program.Taken Refusal → TakeAnswer
paper_taken (Ok (t.More s)) = more (state_of s)
paper_taken (Ok (t.Finished s)) = finished (state_of s)
paper_taken (Err r) = refused (table r).number (table r).carries
