-- No two states and no two answers are the same on paper, so each promise admits a single one.
-- Assumes nothing.
use Rattle.std.proofs.Common.{◌≡◌, refl, ap}
use Rattle.std.specs.declared.result.Result.{Result}
use Rattle.std.specs.declared.result.Result.TheVariants.{Ok, Err}
use Rattle.types.specs.Refusal.{row}
use Rattle.types.specs.declared.refusal.Refusal.{Refusal}
use Rattle.types.proofs.Single.{told_apart, program_refusal, refusal_back}
use Rattle.segments.specs.State.{State, state_of}
use Rattle.segments.specs.Taking.{TakeAnswer, more, finished, refused, paper_taken}
use Rattle.segments.specs.declared.state.State as program
use Rattle.segments.specs.declared.taking.Taken.{Taken}
use Rattle.segments.specs.declared.taking.Taken.TheVariants as t

abbrev pub program_state : State → program.State
program_state s = record { begun = s.begun; finished = s.finished; id = s.id; choice = s.choice; due = s.due; held = s.held }

pub state_back : (x : program.State) → program_state (state_of x) ≡ x
state_back x = refl

-- no two states are the same on paper
pub single_state : (x y : program.State) → state_of x ≡ state_of y → x ≡ y
single_state = told_apart state_of program_state state_back

abbrev taken : TakeAnswer → Result Taken Refusal
taken (more s) = Ok (t.More (program_state s))
taken (finished s) = Ok (t.Finished (program_state s))
taken (refused k c) = Err (program_refusal (row k c))

taken_back : (x : Result Taken Refusal) → taken (paper_taken x) ≡ x
taken_back (Ok (t.More x)) = refl
taken_back (Ok (t.Finished x)) = refl
taken_back (Err x) = ap Err (refusal_back x)

-- no two answers are
pub single_taken : (x y : Result Taken Refusal) → paper_taken x ≡ paper_taken y → x ≡ y
single_taken = told_apart paper_taken taken taken_back
