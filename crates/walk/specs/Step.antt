-- One step of the strict walk (document 01, "Bodies"), for a caller that goes tag by tag and keeps the numbers of the open blocks in places, outermost first.
-- Assumes nothing.
use Rattle.std.specs.Prelude.{ℕ, zero, suc, List, [], ◌∷◌, length, get_or, set, ltb, Result, Ok, Err, Option, Some, None}
use Rattle.types.specs.Choice.{if}
use Rattle.types.specs.Tag.{Number, application, context, opening, closing, tag_of}
use Rattle.types.specs.Refusal.{amount, table}
use Rattle.types.specs.Answer.{passed, stopped}
use Rattle.walk.specs.Walk.{seen, Step, ends, goes, step_from}
use Rattle.types.specs.declared.refusal.Refusal.{Refusal}
use Rattle.walk.specs.declared.tag.Accepted.{Accepted}

-- the numbers of so many open blocks, innermost first; a block for which there is no place has the number 0
abbrev pub opened : (blocks : ℕ) → (kept : List ℕ) → List ℕ
opened zero os = []
opened (suc blocks) os = get_or os blocks 0 ∷ opened blocks os

-- the step at a place of a buffer, where blocks of these numbers are open: the buffer's length and the place are tested first
unfoldable pub step_at : List ℕ → (place : ℕ) → (blocks : List ℕ) → Step
step_at xs place ns =
    if (ltb 65535 (length xs)) (ends (stopped 1 (amount (length xs))))
    (if (ltb (length xs) place) (ends (stopped 2 (amount place)))
    (step_from xs place ns))

-- an opening tag gives the block at its depth its number
abbrev pub open_after : Number → (depth : ℕ) → (kept : List ℕ) → List ℕ
open_after (application n) depth os = os
open_after (context n) depth os = os
open_after (opening n) depth os = set os depth n
open_after (closing n) depth os = os

-- the places after a step: where the walk ends, as they were
abbrev pub open_then : Step → (kept : List ℕ) → List ℕ
open_then (ends o) os = os
open_then (goes t next ns) os = open_after t.tag.number t.depth os

-- a step of the program at a place that leaves these numbers, on paper
abbrev pub paper_stepped : (place : ℕ) → (kept : List ℕ) → Result (Option Accepted) Refusal → Step
paper_stepped place os (Ok (Some a)) = goes (seen place a.depth (tag_of a.tag)) a.next (opened a.blocks os)
paper_stepped place os (Ok None) = ends passed
paper_stepped place os (Err r) = ends (stopped (table r).number (table r).carries)
