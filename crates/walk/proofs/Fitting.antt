-- A step of the walk is what the tag at the place says by the number of open blocks, and whether it fits the numbers that are kept for them.
-- Assumes nothing.
use mathlib.Core.Path.{◌≡◌, refl, ◌∙◌, ap, ap₂, sym, subst}
use Prim.Native.Nat.{ℕ, zero, suc, ◌≤◌, ◌<◌}
use native.Mathlib.Omega.{arith}
use mathlib.Core.Bool.{Bool, true, false}
use mathlib.Core.List.{List, ◌∷◌}
use lib.Dec.{ltb, eqb}
use lib.ListN.{length, get_or, set}
use lib.Seq.{get_or-set_same, get_or-set_other}
use borrow.Author.Tests.{ltb-true, ltb-false, eqb-true, eqb-false, le-ltb}
use Rattle.types.specs.Choice.{if}
use Rattle.types.specs.Tag.{Number, application, context, opening, closing, tag}
use Rattle.types.specs.Refusal.{Carried, amount}
use Rattle.types.specs.Answer.{Answer, accepted, refused, Outcome, passed, stopped}
use Rattle.types.proofs.Choices.{either, read_on}
use Rattle.tags.proofs.Refusals.{too_long, past_end, at_the_end}
use Rattle.walk.specs.Tag.{item_from, Standing, stands_by, stands_at, tag_at}
use Rattle.walk.specs.Walk.{seen, Step, ends, goes, closing_step, at_end, step_from}
use Rattle.walk.specs.Step.{opened, step_at, open_after}
use Rattle.walk.specs.Fitting.{fits_by, Keepable}
use Rattle.walk.proofs.Unfolds.{end_step}
use Rattle.walk.proofs.Standing.{Goes, Agree, agrees, tag_at_bounds}

-- so many blocks have so many numbers
pub opened_length : (blocks : ℕ) (os : List ℕ) → length (opened blocks os) ≡ blocks
opened_length zero os = refl
opened_length (suc blocks) os = ap suc (opened_length blocks os)

-- the number kept at a depth changes none of the blocks around it
around : (blocks depth n : ℕ) (os : List ℕ) → blocks ≤ depth → opened blocks (set os depth n) ≡ opened blocks os
around zero depth n os h = refl
around (suc blocks) depth n os h = ap₂ ◌∷◌ (get_or-set_other os depth blocks n 0 (λ e. omega arith)) (around blocks depth n os (omega arith))

-- past the two tests a step is the walk's
pub unguarded_step : (xs : List ℕ) (place : ℕ) (ns : List ℕ) → length xs ≤ 65535 → place ≤ length xs → step_at xs place ns ≡ step_from xs place ns
unfolding step_at
unguarded_step xs place ns small inside = simp (le-ltb 65535 (length xs) small, le-ltb (length xs) place inside)

-- the tag in a buffer that is too long, past the end, and at the end
tag_long : (xs : List ℕ) (place blocks : ℕ) → 65535 < length xs → tag_at xs place blocks ≡ refused 1 (amount (length xs))
unfolding tag_at item_from
tag_long xs place blocks h = simp (too_long xs place h)

tag_past : (xs : List ℕ) (place blocks : ℕ) → length xs ≤ 65535 → length xs < place → tag_at xs place blocks ≡ refused 2 (amount place)
unfolding tag_at item_from
tag_past xs place blocks small h = simp (past_end xs place small h)

tag_at_end : (xs : List ℕ) (place blocks : ℕ) → length xs ≤ 65535 → place ≡ length xs → tag_at xs place blocks ≡ refused 3 (amount (length xs))
unfolding tag_at item_from
tag_at_end xs place blocks small e = simp (at_the_end xs place small e)

-- a tag that is accepted stands in a buffer that is not too long
abbrev Given : Answer Standing → Type 0
Given (accepted s next) = Unit {0}
Given (refused n c) = ⊥

small_buffer : (xs : List ℕ) (place blocks : ℕ) → Given (tag_at xs place blocks) → length xs ≤ 65535
small_buffer xs place blocks g =
    either (λ (y : ℕ). length xs ≤ 65535) (ltb 65535 (length xs)) {a = 0} {b = 0} (λ u. absurd (subst Given (tag_long xs place blocks (ltb-true 65535 (length xs) u)) g)) (λ u. ltb-false 65535 (length xs) u)

-- and where it opens a block there is a place for its number
abbrev Kept : Answer Standing → Type 0
Kept (accepted s next) = Keepable s.tag.number s.depth 16
Kept (refused n c) = Unit {0}

by_kept : (place blocks : ℕ) (k : Number) (v next : ℕ) → Kept (stands_by place blocks k (tag k v) next)
by_kept place blocks (application n) v next = tt
by_kept place blocks (context n) v next = tt
by_kept place blocks (opening n) v next = either Kept (ltb blocks 16) (λ e. ltb-true blocks 16 e) (λ e. tt)
by_kept place blocks (closing n) v next = either Kept (eqb blocks 0) (λ e. tt) (λ e. tt)

pub keepable : (xs : List ℕ) (place blocks : ℕ) (s : Standing) (next : ℕ) → tag_at xs place blocks ≡ accepted s next → Keepable s.tag.number s.depth 16
unfolding tag_at stands_at
keepable xs place blocks s next e = subst Kept e (read_on Kept (item_from xs place) (λ t q g. by_kept place blocks t.number t.value q) (λ n c g. tt))

-- the tag at a place where so many blocks are open and their numbers are kept
module _ (xs : List ℕ) (place blocks : ℕ) (os : List ℕ) where
  agreed : (a : Answer Standing) → place < length xs → tag_at xs place blocks ≡ a → Agree place (opened blocks os) a (step_from xs place (opened blocks os))
  agreed a h e =
      let ns : List ℕ = opened blocks os in
      subst (λ (y : Answer Standing). Agree place ns y (step_from xs place ns)) (ap (tag_at xs place) (opened_length blocks os) ∙ e) (agrees xs place ns h)

  -- one that is accepted
  module _ (s : Standing) (next : ℕ) where
    -- where it fits it is the walk's, and the numbers kept are those of the blocks open then; where it does not, the walk ends with 15
    abbrev by_fit : Number → ℕ → Bool → Step
    by_fit k depth b = if b (goes (seen place depth s.tag) next (opened s.blocks (open_after k depth os))) (ends (stopped 15 (amount place)))

    abbrev Fitted : Number → ℕ → Step → Type 0
    Fitted k depth st = st ≡ by_fit k depth (fits_by k depth os)

    closing_fits : (n inner : ℕ) → blocks ≡ suc inner → s.blocks ≡ inner → closing_step place (opened blocks os) n s.tag next
        ≡ if (eqb n (get_or os inner 0)) (goes (seen place inner s.tag) next (opened s.blocks os)) (ends (stopped 15 (amount place)))
    closing_fits n inner e b = rw (e, b, opened_length inner os) refl

    opening_kept : (n depth : ℕ) → depth < length os → depth ≡ blocks → n ∷ opened blocks os ≡ opened (suc blocks) (set os depth n)
    opening_kept n depth l e = rw e (sym (ap₂ ◌∷◌ (get_or-set_same os blocks n 0 (omega arith)) (around blocks blocks n os (omega arith))))

    by_class : (k : Number) (st : Step) → length os ≡ 16 → Keepable k s.depth 16 → Goes place (opened blocks os) k s next st → Fitted k s.depth st
    by_class (application n) st l m g = g.0 ∙ ap (λ (j : ℕ). goes (seen place s.depth s.tag) next (opened j os)) (sym (g.1 ∙ opened_length blocks os))
    by_class (context n) st l m g = g.0 ∙ ap (λ (j : ℕ). goes (seen place s.depth s.tag) next (opened j os)) (sym (g.1 ∙ opened_length blocks os))
    by_class (opening n) st l m g =
        let b : s.blocks ≡ suc blocks = g.1 ∙ ap suc (opened_length blocks os) in
        g.0 ∙ rw b (ap (goes (seen place s.depth s.tag) next) (opening_kept n s.depth (omega arith) (g.2 ∙ opened_length blocks os)))
    by_class (closing n) st l m g =
        let b : blocks ≡ suc s.depth = sym (opened_length blocks os) ∙ g.1 ∙ ap suc (sym g.2) in
        g.0 ∙ closing_fits n s.depth b (sym g.2)

    fitted : tag_at xs place blocks ≡ accepted s next → length os ≡ 16 → Fitted s.tag.number s.depth (step_at xs place (opened blocks os))
    fitted e l =
        let w = tag_at_bounds xs place blocks s next e in
        let h : place < length xs = omega (arith, w.0, w.1) in
        unguarded_step xs place (opened blocks os) (small_buffer xs place blocks (subst Given (sym e) tt)) (omega (arith, h))
        ∙ by_class s.tag.number (step_from xs place (opened blocks os)) l (keepable xs place blocks s next e) (agreed (accepted s next) h e)

    -- a tag that is accepted and fits is the walk's next
    pub fitting_step : tag_at xs place blocks ≡ accepted s next → length os ≡ 16 → fits_by s.tag.number s.depth os ≡ true
        → step_at xs place (opened blocks os) ≡ goes (seen place s.depth s.tag) next (opened s.blocks (open_after s.tag.number s.depth os))
    fitting_step e l f = fitted e l ∙ ap (by_fit s.tag.number s.depth) f

    -- at one that does not fit the walk ends
    pub misfit_step : tag_at xs place blocks ≡ accepted s next → length os ≡ 16 → fits_by s.tag.number s.depth os ≡ false → step_at xs place (opened blocks os) ≡ ends (stopped 15 (amount place))
    misfit_step e l f = fitted e l ∙ ap (by_fit s.tag.number s.depth) f

  -- at the end of a buffer that is not too long the walk passes, where no block is open
  pub passing_step : place ≡ length xs → blocks ≡ 0 → length xs ≤ 65535 → step_at xs place (opened blocks os) ≡ ends passed
  passing_step z none small =
      unguarded_step xs place (opened blocks os) small (omega arith) ∙ end_step xs place (opened blocks os) (omega arith)
      ∙ ap (λ (b : ℕ). ends (at_end xs (opened b os))) none

  -- one that is refused elsewhere: the walk ends by that refusal
  unclosed : (b : ℕ) → (b ≡ 0 → ⊥) → at_end xs (opened b os) ≡ stopped 3 (amount (length xs))
  unclosed zero h = absurd (h refl)
  unclosed (suc b) h = refl

  module _ (n : ℕ) (c : Carried) (e : tag_at xs place blocks ≡ refused n c) (going : place ≡ length xs → blocks ≡ 0 → length xs ≤ 65535 → ⊥) where
    abbrev Ends : Step → Type 0
    Ends st = st ≡ ends (stopped n c)

    abbrev outcome : Answer Standing → Outcome
    outcome (accepted s next) = passed
    outcome (refused m d) = stopped m d

    -- the refusal is the one that is known there
    known : {m : ℕ} {d : Carried} → tag_at xs place blocks ≡ refused m d → stopped m d ≡ stopped n c
    known h = ap outcome (sym h ∙ e)

    ends_inside : length xs ≤ 65535 → place ≤ length xs → Ends (step_from xs place (opened blocks os))
    ends_inside small inside =
        either (λ (y : ℕ). Ends (step_from xs place (opened blocks os))) (eqb place (length xs)) {a = 0} {b = 0}
        (λ u.
        let z : place ≡ length xs = eqb-true place (length xs) u in
        end_step xs place (opened blocks os) (omega arith) ∙ ap ends (unclosed blocks (λ b. going z b small) ∙ known (tag_at_end xs place blocks small z)))
        (λ u.
        let z : place ≡ length xs → ⊥ = eqb-false place (length xs) u in
        agreed (refused n c) (omega arith) e)

    pub refused_step : Ends (step_at xs place (opened blocks os))
    unfolding step_at
    refused_step =
        either Ends (ltb 65535 (length xs)) (λ u. ap ends (known (tag_long xs place blocks (ltb-true 65535 (length xs) u)))) (λ u.
        let small : length xs ≤ 65535 = ltb-false 65535 (length xs) u in
        either Ends (ltb (length xs) place) (λ v. ap ends (known (tag_past xs place blocks small (ltb-true (length xs) place v)))) (λ v.
        ends_inside small (ltb-false (length xs) place v)))

-- what does not fit leaves the numbers as they were
abbrev Is : Bool → Type 0
Is true = Unit {0}
Is false = ⊥

pub misfit_kept : (k : Number) (depth : ℕ) (os : List ℕ) → fits_by k depth os ≡ false → open_after k depth os ≡ os
misfit_kept (application n) depth os e = refl
misfit_kept (context n) depth os e = refl
misfit_kept (opening n) depth os e = absurd (subst Is e tt)
misfit_kept (closing n) depth os e = refl
