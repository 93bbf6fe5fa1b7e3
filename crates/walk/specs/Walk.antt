-- The strict walk (document 01, "Bodies"), by steps: from a place to the buffer's end, the tags accepted and how it ends.
-- Assumes nothing.
use Rattle.std.specs.Prelude.{ℕ, zero, suc, List, [], ◌∷◌, length, ltb, eqb, Result, Ok, Err}
use Rattle.types.specs.Choice.{if}
use Rattle.types.specs.Tag.{Number, application, context, opening, closing, Tag}
use Rattle.types.specs.Refusal.{amount, table}
use Rattle.types.specs.Answer.{Answer, accepted, refused, Outcome, passed, stopped}
use Rattle.walk.specs.Tag.{item_from}
use Rattle.types.specs.declared.counted.CountedRefusal.{CountedRefusal}

-- a tag that was accepted: its place, its depth (the blocks open around it), and the tag
pub record Seen : Type 0 where
  pub place : ℕ
  pub depth : ℕ
  pub tag : Tag

abbrev pub seen : (place depth : ℕ) → Tag → Seen
seen place depth t = record { place = place; depth = depth; tag = t }

-- what a walk gives: the tags accepted, in order, and the outcome (passed, or a refusal's number and what it carries)
pub record Walk : Type 0 where
  pub tags : List Seen
  pub outcome : Outcome

abbrev pub walked : List Seen → Outcome → Walk
walked ts o = record { tags = ts; outcome = o }

abbrev pub ended : Outcome → Walk
ended o = walked [] o

abbrev pub more : Seen → Walk → Walk
more t w = walked (t ∷ w.tags) w.outcome

-- a step: the walk ends; or a tag is accepted, and the walk goes on at a place with the numbers of the blocks then open, innermost first
pub data Step : Type 0 where
  ends : Outcome → Step
  goes : Seen → (next : ℕ) → (blocks : List ℕ) → Step

-- a closing tag closes the innermost open block, which has its number: else 15, with the tag's place
abbrev pub closing_step : (place : ℕ) → (blocks : List ℕ) → (n : ℕ) → Tag → (next : ℕ) → Step
closing_step place [] n t next = ends (stopped 15 (amount place))
closing_step place (m ∷ ns) n t next =
    if (eqb n m) (goes (seen place (length ns) t) next ns)
    (ends (stopped 15 (amount place)))

-- by the tag's class; an opening tag opens a block, where fewer than sixteen are open: else 16, with the tag's place
abbrev pub step_by : (place : ℕ) → (blocks : List ℕ) → Number → Tag → (next : ℕ) → Step
step_by place ns (application n) t next = goes (seen place (length ns) t) next ns
step_by place ns (context n) t next = goes (seen place (length ns) t) next ns
step_by place ns (opening n) t next =
    if (ltb (length ns) 16) (goes (seen place (length ns) t) next (n ∷ ns))
    (ends (stopped 16 (amount place)))
step_by place ns (closing n) t next = closing_step place ns n t next

-- by the item at the place
abbrev pub step_of : (place : ℕ) → (blocks : List ℕ) → Answer Tag → Step
step_of place ns (accepted t next) = step_by place ns t.number t next
step_of place ns (refused n c) = ends (stopped n c)

-- at the buffer's end the walk passes, unless a block is still open: then 3, with the end
abbrev pub at_end : List ℕ → (blocks : List ℕ) → Outcome
at_end xs [] = passed
at_end xs (n ∷ ns) = stopped 3 (amount (length xs))

unfoldable pub step_from : List ℕ → (place : ℕ) → (blocks : List ℕ) → Step
step_from xs place ns = if (ltb place (length xs)) (step_of place ns (item_from xs place)) (ends (at_end xs ns))

-- what a step leads to
abbrev pub turn : Step → ((place : ℕ) → (blocks : List ℕ) → Walk) → Walk
turn (ends o) on = ended o
turn (goes t next ns) on = more t (on next ns)

-- at most so many steps; where none is left, 0, which is no refusal's number, so that no program could answer it
unfoldable pub walk_for : (steps : ℕ) → List ℕ → (place : ℕ) → (blocks : List ℕ) → Walk
walk_for zero xs place ns = ended (stopped 0 (amount 0))
walk_for (suc steps) xs place ns = turn (step_from xs place ns) (walk_for steps xs)

-- the walk from a place on, where blocks of these numbers are open, innermost first: a tag has a byte at least, so a step for each byte, and one for the end, are enough.
-- The law `unfolds` says so: the walk is its first step, and the walk from where that leads
unfoldable pub walk_on : List ℕ → (place : ℕ) → (blocks : List ℕ) → Walk
walk_on xs = walk_for (suc (length xs)) xs

-- the walk of a buffer, from a place to its end
unfoldable pub walk_from : List ℕ → (place : ℕ) → Walk
walk_from xs place =
    if (ltb 65535 (length xs)) (ended (stopped 1 (amount (length xs))))
    (if (ltb (length xs) place) (ended (stopped 2 (amount place)))
    (walk_on xs place []))

-- a report: how many tags were accepted, and the outcome
pub record Report : Type 0 where
  pub tags : ℕ
  pub outcome : Outcome

abbrev pub report : ℕ → Outcome → Report
report k o = record { tags = k; outcome = o }

-- what is reported of a walk: the number of its tags, and its outcome
abbrev pub reported : Walk → Report
reported w = report (length w.tags) w.outcome

abbrev pub paper_walked : Result ℕ CountedRefusal → Report
paper_walked (Ok tags) = report tags passed
paper_walked (Err r) = report r.tags (stopped (table r.refusal).number (table r.refusal).carries)
