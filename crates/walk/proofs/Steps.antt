-- A caller that steps from a place until the walk ends has the whole walk: what is left of it before a step is the step's tag and what is left after it.
-- Assumes nothing.
use mathlib.Core.Path.{◌≡◌, refl, ◌∙◌, ap, sym, subst}
use Prim.Native.Nat.{ℕ, suc, ◌+◌, ◌≤◌, ◌<◌}
use native.Mathlib.Nat.{zero-add}
use native.Mathlib.Omega.{arith}
use mathlib.Core.Bool.{Bool, true, false}
use mathlib.Core.List.{List, []}
use lib.Dec.{ltb}
use lib.ListN.{length}
use borrow.Author.Tests.{ltb-false}
use Rattle.std.specs.declared.option.Option.{Option}
use Rattle.std.specs.declared.option.Option.TheVariants.{Some, None}
use Rattle.std.specs.declared.result.Result.{Result}
use Rattle.std.specs.declared.result.Result.TheVariants.{Ok, Err}
use Rattle.types.specs.Choice.{if}
use Rattle.types.specs.Tag.{tag_of}
use Rattle.types.specs.Refusal.{amount}
use Rattle.types.specs.Answer.{Outcome, passed, stopped, paper_outcome}
use Rattle.types.specs.declared.refusal.Refusal.{Refusal}
use Rattle.types.proofs.Choices.{either}
use Rattle.walk.specs.Tag.{standing}
use Rattle.walk.specs.Walk.{Seen, seen, Walk, ended, more, Step, ends, goes, step_from, turn, walk_on, walk_from, report, reported}
use Rattle.walk.specs.Nested.{report_after, refused_by}
use Rattle.walk.specs.Step.{opened, step_at, paper_stepped}
use Rattle.walk.specs.Steps.{Steps}
use Rattle.walk.specs.Steps.Steps.{last, one}
use Rattle.walk.specs.declared.tag.Accepted.{Accepted}
use Rattle.walk.proofs.Unfolds.{unfolds}
use Rattle.walk.proofs.Standing.{tag_at_bounds}
use Rattle.walk.proofs.Counted.{Sees, sees}
use Rattle.walk.proofs.Fitting.{opened_length, unguarded_step}

-- a step that goes on goes ahead, inside a buffer that is not too long; and where at most sixteen blocks are open, no more are open around its tag or after it
abbrev Inside : List ℕ → ℕ → List ℕ → Step → Type 0
Inside xs place ns (ends o) = Unit {0}
Inside xs place ns (goes t next ms) = (length xs ≤ 65535) × (place < next) × (next ≤ length xs) × (length ns ≤ 16 → (t.depth ≤ 16) × (length ms ≤ 16))

seen_inside : (xs : List ℕ) (place : ℕ) (ns : List ℕ) (s : Step) → length xs ≤ 65535 → Sees xs place ns s → Inside xs place ns s
seen_inside xs place ns (ends o) small w = tt
seen_inside xs place ns (goes t next ms) small w =
    let b = tag_at_bounds xs place (length ns) (standing t.tag t.depth (length ms)) next w.0 in
    (small, b.0, b.1, b.2)

inside : (xs : List ℕ) (place : ℕ) (ns : List ℕ) → Inside xs place ns (step_at xs place ns)
unfolding step_at
inside xs place ns =
    either (Inside xs place ns) (ltb 65535 (length xs)) (λ u. tt) (λ u.
    either (Inside xs place ns) (ltb (length xs) place) (λ v. tt) (λ v.
    seen_inside xs place ns (step_from xs place ns) (ltb-false 65535 (length xs) u) (sees xs place ns)))

-- what is left of the walk from a place on, where so many blocks are open whose numbers are kept
unfoldable pub walk_left : List ℕ → (place blocks : ℕ) → (kept : List ℕ) → Walk
walk_left xs place blocks os = turn (step_at xs place (opened blocks os)) (walk_on xs)

-- inside a buffer that is not too long it is the walk of these blocks
pub left_inside : (xs : List ℕ) (place blocks : ℕ) (os : List ℕ) → length xs ≤ 65535 → place ≤ length xs → walk_on xs place (opened blocks os) ≡ walk_left xs place blocks os
unfolding walk_left
left_inside xs place blocks os small l =
    unfolds xs place (opened blocks os) ∙ ap (λ (s : Step). turn s (walk_on xs)) (sym (unguarded_step xs place (opened blocks os) small l))

-- where a walk begins, with no block open, all of it is left, whatever numbers are kept
pub left_first : (xs : List ℕ) (place : ℕ) (os : List ℕ) → walk_from xs place ≡ walk_left xs place 0 os
unfolding walk_from walk_left step_at
left_first xs place os =
    ap (λ (w : Walk). if (ltb 65535 (length xs)) (ended (stopped 1 (amount (length xs)))) (if (ltb (length xs) place) (ended (stopped 2 (amount place))) w)) (unfolds xs place [])
    ∙ by (ltb 65535 (length xs)) (ltb (length xs) place)
  where
    by : (a b : Bool) → if a (ended (stopped 1 (amount (length xs)))) (if b (ended (stopped 2 (amount place))) (turn (step_from xs place []) (walk_on xs)))
        ≡ turn (if a (ends (stopped 1 (amount (length xs)))) (if b (ends (stopped 2 (amount place))) (step_from xs place []))) (walk_on xs)
    by true b = refl
    by false true = refl
    by false false = refl

-- the count and the outcome of a walk, one tag at a time
pub report_more : (k : ℕ) (t : Seen) (w : Walk) → report_after k (more t w) ≡ report_after (k + 1) w
report_more k t w = ap (λ (j : ℕ). report j w.outcome) (let z : k + suc (length w.tags) ≡ k + 1 + length w.tags = omega arith in z)

pub report_ended : (k : ℕ) (o : Outcome) → report_after k (ended o) ≡ report k o
report_ended k o = ap (λ (j : ℕ). report j o) (let z : k + 0 ≡ k = omega arith in z)

pub report_first : (xs : List ℕ) (place : ℕ) (os : List ℕ) → reported (walk_from xs place) ≡ report_after 0 (walk_left xs place 0 os)
report_first xs place os =
    let w : Walk = walk_left xs place 0 os in
    ap reported (left_first xs place os) ∙ ap (λ (j : ℕ). report j w.outcome) (sym (zero-add (length w.tags)))

-- before a step that goes on, its tag is left, and what is left after it; before one that ends, nothing
module _ (xs : List ℕ) (place blocks : ℕ) (os : List ℕ) where
  goes_inside : (t : Seen) (next : ℕ) (ms : List ℕ) → step_at xs place (opened blocks os) ≡ goes t next ms → Inside xs place (opened blocks os) (goes t next ms)
  goes_inside t next ms e = subst (Inside xs place (opened blocks os)) e (inside xs place (opened blocks os))

  goes_left : (t : Seen) (next after : ℕ) (left : List ℕ) → step_at xs place (opened blocks os) ≡ goes t next (opened after left) → walk_left xs place blocks os ≡ more t (walk_left xs next after left)
  unfolding walk_left
  goes_left t next after left e =
      let w : Inside xs place (opened blocks os) (goes t next (opened after left)) = goes_inside t next (opened after left) e in
      ap (λ (s : Step). turn s (walk_on xs)) e ∙ ap (more t) (left_inside xs next after left w.0 w.2)

  ends_left : (o : Outcome) → step_at xs place (opened blocks os) ≡ ends o → walk_left xs place blocks os ≡ ended o
  unfolding walk_left
  ends_left o e = ap (λ (s : Step). turn s (walk_on xs)) e

-- what a call of `step` answers where the walk ends: no tag, or the refusal
abbrev pub ending : Result (Unit {0}) Refusal → Result (Option Accepted) Refusal
ending (Ok u) = Ok None
ending (Err f) = Err f

-- a call of `step`: what it answers, and the numbers that it leaves
module _ (xs : List ℕ) (place blocks : ℕ) (os left : List ℕ) (r : Result (Option Accepted) Refusal) (told : paper_stepped place left r ≡ step_at xs place (opened blocks os)) where
  was : {q : Result (Option Accepted) Refusal} → r ≡ q → step_at xs place (opened blocks os) ≡ paper_stepped place left q
  was e = sym told ∙ ap (paper_stepped place left) e

  module _ {a : Accepted} (is : r ≡ Ok (Some a)) where
    bounds : Inside xs place (opened blocks os) (goes (seen place a.depth (tag_of a.tag)) a.next (opened a.blocks left))
    bounds = goes_inside xs place blocks os (seen place a.depth (tag_of a.tag)) a.next (opened a.blocks left) (was is)

    -- a tag that is accepted ends after its place, inside a buffer that is not too long
    pub step_inside : (length xs ≤ 65535) × (place < a.next) × (a.next ≤ length xs)
    step_inside = (bounds.0, bounds.1, bounds.2)

    -- and no more than sixteen blocks are open around it or after it, where that holds before it
    pub step_few : blocks ≤ 16 → (a.depth ≤ 16) × (a.blocks ≤ 16)
    step_few h =
        let l : length (opened blocks os) ≤ 16 = omega (arith, opened_length blocks os) in
        let f : (a.depth ≤ 16) × (length (opened a.blocks left) ≤ 16) = bounds.3 l in
        (f.0, omega (arith, f.1, opened_length a.blocks left))

    -- it is the first of the tags that are left, and counts as one
    pub left_goes : walk_left xs place blocks os ≡ more (seen place a.depth (tag_of a.tag)) (walk_left xs a.next a.blocks left)
    left_goes = goes_left xs place blocks os (seen place a.depth (tag_of a.tag)) a.next a.blocks left (was is)

    pub report_goes : (k : ℕ) → report_after k (walk_left xs place blocks os) ≡ report_after (k + 1) (walk_left xs a.next a.blocks left)
    report_goes k = ap (report_after k) left_goes ∙ report_more k (seen place a.depth (tag_of a.tag)) (walk_left xs a.next a.blocks left)

  -- where the walk ends none is left: it passes, or is refused
  ended_by : {o : Outcome} → step_at xs place (opened blocks os) ≡ ends o → (k : ℕ) → report_after k (walk_left xs place blocks os) ≡ report k o
  ended_by {o} e k = ap (report_after k) (ends_left xs place blocks os o e) ∙ report_ended k o

  module _ (is : r ≡ Ok None) where
    pub left_passes : walk_left xs place blocks os ≡ ended passed
    left_passes = ends_left xs place blocks os passed (was is)

    pub report_passes : (k : ℕ) → report_after k (walk_left xs place blocks os) ≡ report k passed
    report_passes k = ended_by (was is) k

  module _ {f : Refusal} (is : r ≡ Err f) where
    pub left_refused : walk_left xs place blocks os ≡ ended (refused_by f)
    left_refused = ends_left xs place blocks os (refused_by f) (was is)

    pub report_refused : (k : ℕ) → report_after k (walk_left xs place blocks os) ≡ report k (refused_by f)
    report_refused k = ended_by (was is) k

  -- whichever of the two it is
  pub left_ends : (o : Result (Unit {0}) Refusal) → r ≡ ending o → walk_left xs place blocks os ≡ ended (paper_outcome o)
  left_ends (Ok u) is = left_passes is
  left_ends (Err f) is = left_refused is

  pub report_ends : (o : Result (Unit {0}) Refusal) → r ≡ ending o → (k : ℕ) → report_after k (walk_left xs place blocks os) ≡ report k (paper_outcome o)
  report_ends (Ok u) is k = report_passes is k
  report_ends (Err f) is k = report_refused is k

-- all the steps, until the walk ends
through : (xs : List ℕ) {place blocks : ℕ} {os : List ℕ} {w : Walk} → Steps xs place blocks os w → walk_left xs place blocks os ≡ w
through xs (last {place} {blocks} {kept} {o} e) = ends_left xs place blocks kept o e
through xs (one {place} {blocks} {kept} {left} {t} {next} {after} e s) = goes_left xs place blocks kept t next after left e ∙ ap (more t) (through xs s)

-- with no block open at first, whatever numbers are kept, they are the walk: its tags in order, and its outcome
pub stepped_through : (xs : List ℕ) (place : ℕ) (os : List ℕ) (w : Walk) → Steps xs place 0 os w → walk_from xs place ≡ w
stepped_through xs place os w s = left_first xs place os ∙ through xs s
