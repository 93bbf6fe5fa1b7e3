-- No two answers of `walk`, of `tag_at` or of `step` are the same on paper, so each promise admits a single one.
-- Assumes nothing.
use mathlib.Core.Path.{◌≡◌, refl, ap, ap₂}
use Prim.Native.Nat.{ℕ}
use mathlib.Core.List.{List}
use lib.ListN.{length}
use Rattle.std.specs.declared.option.Option.{Option}
use Rattle.std.specs.declared.option.Option.TheVariants.{Some, None}
use Rattle.std.specs.declared.result.Result.{Result}
use Rattle.std.specs.declared.result.Result.TheVariants.{Ok, Err}
use Rattle.types.specs.Refusal.{row}
use Rattle.types.specs.Answer.{Answer, accepted, refused, Outcome, passed, stopped}
use Rattle.types.specs.declared.tag.Tag as program
use Rattle.types.specs.declared.refusal.Refusal.{Refusal}
use Rattle.types.specs.declared.counted.CountedRefusal.{CountedRefusal}
use Rattle.types.proofs.Single.{told_apart, program_tag, tag_back, program_refusal, refusal_back}
use Rattle.walk.specs.Tag.{Standing, paper_tag_at}
use Rattle.walk.specs.Walk.{Step, ends, goes, Report, paper_walked}
use Rattle.walk.specs.Step.{paper_stepped}
use Rattle.walk.specs.declared.tag.Accepted.{Accepted}
use Rattle.walk.proofs.Fitting.{opened_length}

abbrev accepted_tag : program.Tag → (depth next blocks : ℕ) → Accepted
accepted_tag t depth next blocks = record { tag = t; depth = depth; next = next; blocks = blocks }

abbrev back : Answer Standing → Result Accepted Refusal
back (accepted s next) = Ok (accepted_tag (program_tag s.tag) s.depth next s.blocks)
back (refused k c) = Err (program_refusal (row k c))

back_again : (x : Result Accepted Refusal) → back (paper_tag_at x) ≡ x
back_again (Ok a) = ap (λ (t : program.Tag). Ok (accepted_tag t a.depth a.next a.blocks)) (tag_back a.tag)
back_again (Err r) = ap Err (refusal_back r)

-- no two answers of `tag_at` are the same on paper
pub single_tag_at : (x y : Result Accepted Refusal) → paper_tag_at x ≡ paper_tag_at y → x ≡ y
single_tag_at = told_apart paper_tag_at back back_again

-- no two answers of `step` at one place are the same on paper, with the numbers that it leaves (for which its promise has an equation)
abbrev step_back : Step → Result (Option Accepted) Refusal
step_back (goes t next ns) = Ok (Some (accepted_tag (program_tag t.tag) t.depth next (length ns)))
step_back (ends passed) = Ok None
step_back (ends (stopped k c)) = Err (program_refusal (row k c))

step_again : (place : ℕ) (kept : List ℕ) (x : Result (Option Accepted) Refusal) → step_back (paper_stepped place kept x) ≡ x
step_again place kept (Ok (Some a)) =
    ap₂ (λ (t : program.Tag) (k : ℕ). Ok (Some (accepted_tag t a.depth a.next k))) (tag_back a.tag) (opened_length a.blocks kept)
step_again place kept (Ok None) = refl
step_again place kept (Err r) = ap Err (refusal_back r)

pub single_stepped : (place : ℕ) (kept : List ℕ) (x y : Result (Option Accepted) Refusal) → paper_stepped place kept x ≡ paper_stepped place kept y → x ≡ y
single_stepped place kept = told_apart (paper_stepped place kept) step_back (step_again place kept)

-- no two answers of `walk` are the same on paper
abbrev walk_back : ℕ → Outcome → Result ℕ CountedRefusal
walk_back tags passed = Ok tags
walk_back tags (stopped k c) = Err (record { refusal = program_refusal (row k c); tags = tags })

walk_again : (x : Result ℕ CountedRefusal) → walk_back (paper_walked x).tags (paper_walked x).outcome ≡ x
walk_again (Ok tags) = refl
walk_again (Err r) = ap (λ (y : Refusal). Err (record { refusal = y; tags = r.tags })) (refusal_back r.refusal)

pub single_walked : (x y : Result ℕ CountedRefusal) → paper_walked x ≡ paper_walked y → x ≡ y
single_walked = told_apart paper_walked (λ (r : Report). walk_back r.tags r.outcome) walk_again
