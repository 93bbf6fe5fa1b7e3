-- What is kept between two frames of an answer in segments (document 02, K9), and the map from the program's state.
-- Assumes nothing.
use Rattle.std.specs.Prelude.{ℕ, Bool, false}
use Rattle.segments.specs.declared.state.State as program

-- whether a frame was accepted, and whether the last one; the first one's invoke id and service choice; the sequence number due; how many bytes are held at the buffer's start
pub record State : Type 0 where
  pub begun : Bool
  pub finished : Bool
  pub id : ℕ
  pub choice : ℕ
  pub due : ℕ
  pub held : ℕ

abbrev pub state : (begun finished : Bool) → (id choice due held : ℕ) → State
state b f i c d h = record { begun = b; finished = f; id = i; choice = c; due = d; held = h }

-- before the first frame: sequence number 0 is due, and nothing is held
abbrev pub first_state : State
first_state = state false false 0 0 0 0

-- a state of the program, on paper
abbrev pub state_of : program.State → State
state_of s = state s.begun s.finished s.id s.choice s.due s.held
