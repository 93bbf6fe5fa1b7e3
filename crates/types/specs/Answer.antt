-- What a reader or a check answers, on paper: a value with the place after it, or a refusal's number with what it carries (document 01, "Refusal numbers").
-- Assumes nothing.
use Rattle.std.specs.Prelude.{ℕ, List, length, ltb, Result, Ok, Err}
use Rattle.types.specs.Choice.{if}
use Rattle.types.specs.Refusal.{Carried, amount, table}
use Rattle.types.specs.declared.refusal.Refusal.{Refusal}

pub data Answer (A : Type 0) : Type 0 where
  accepted : A → ℕ → Answer A
  refused : ℕ → Carried → Answer A

-- a refusal of the program, on paper
abbrev pub refusal : {A : Type 0} → Refusal → Answer A
refusal r = refused (table r).number (table r).carries

-- what a reader of the program answers, on paper: the value by its own map, with the place after it, or the refusal
abbrev pub paper_by : {A B : Type 0} → (A → B) → Result (A × ℕ) Refusal → Answer B
paper_by f (Ok read) = accepted (f read.0) read.1
paper_by f (Err r) = refusal r

-- the same of a value that is itself on paper
abbrev pub paper_read : {A : Type 0} → Result (A × ℕ) Refusal → Answer A
paper_read = paper_by (λ x. x)

-- read on from where a reading ended; a refusal is final
abbrev pub then : {A B : Type 0} → Answer A → (A → ℕ → Answer B) → Answer B
then (accepted a next) f = f a next
then (refused n c) f = refused n c

-- what every reader tests first: the buffer's length, then the place
abbrev pub guarded : {A : Type 0} → List ℕ → ℕ → Answer A → Answer A
guarded xs place a =
    if (ltb 65535 (length xs)) (refused 1 (amount (length xs)))
    (if (ltb (length xs) place) (refused 2 (amount place)) a)

-- a check passes, or stops with a refusal's number and what it carries
pub data Outcome : Type 0 where
  passed : Outcome
  stopped : ℕ → Carried → Outcome

abbrev pub paper_outcome : Result (Unit {0}) Refusal → Outcome
paper_outcome (Ok u) = passed
paper_outcome (Err r) = stopped (table r).number (table r).carries
