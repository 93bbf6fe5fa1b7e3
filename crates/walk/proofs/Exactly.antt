-- The walk passes exactly on the grammar's strings, with the grammar's tags.
-- Assumes nothing.
use mathlib.Core.Path.{◌≡◌, refl, ◌∙◌, ap, sym, subst}
use Prim.Native.Nat.{ℕ, ◌+◌, ◌≤◌}
use native.Mathlib.Omega.{arith}
use mathlib.Core.Logic.{◌↔◌}
use mathlib.Core.List.{List, [], append-nil}
use lib.Dec.{ltb}
use lib.ListN.{length, drop, length-drop}
use borrow.Author.Tests.{ltb-false}
use Rattle.types.specs.Answer.{passed}
use Rattle.types.proofs.Choices.{either}
use Rattle.walk.specs.Walk.{Seen, Walk, walked, Step, turn, walk_on, walk_from}
use Rattle.walk.specs.Grammar.{Items}
use Rattle.walk.proofs.Unfolds.{end_step, unfolds}
use Rattle.walk.proofs.Nested.{unguarded}
use Rattle.walk.proofs.Along.{mores, along}
use Rattle.walk.proofs.Passing.{never, passing}

-- a string of the grammar is walked whole
pub walked_whole : (xs : List ℕ) (place : ℕ) {tags : List Seen} → length xs ≤ 65535 → place ≤ length xs → Items place 0 (drop place xs) tags → walk_from xs place ≡ walked tags passed
walked_whole xs place {tags} small inside x =
    let l : length xs ≤ place + length (drop place xs) = omega (arith, length-drop place xs) in
    unguarded xs place small inside
    ∙ along xs small x [] (sym (append-nil (drop place xs))) [] refl
    ∙ ap (mores tags) (unfolds xs (place + length (drop place xs)) [] ∙ ap (λ (s : Step). turn s (walk_on xs)) (end_step xs (place + length (drop place xs)) [] l))
    ∙ ap (λ (ts : List Seen). walked ts passed) (append-nil tags)

-- a walk that passes has passed the two guards
record Unguarded (xs : List ℕ) (place : ℕ) (tags : List Seen) : Type 0 where
  small : length xs ≤ 65535
  inside : place ≤ length xs
  same : walk_on xs place [] ≡ walked tags passed

abbrev Unless : List ℕ → ℕ → List Seen → Walk → Type 0
Unless xs place tags w = w ≡ walked tags passed → Unguarded xs place tags

past_guards : (xs : List ℕ) (place : ℕ) (tags : List Seen) → Unless xs place tags (walk_from xs place)
unfolding walk_from
past_guards xs place tags =
    either (Unless xs place tags) (ltb 65535 (length xs)) (λ u e. absurd (never (ap (λ (w : Walk). w.outcome) e))) (λ u.
    either (Unless xs place tags) (ltb (length xs) place) (λ v e. absurd (never (ap (λ (w : Walk). w.outcome) e))) (λ v e.
    record { small = ltb-false 65535 (length xs) u; inside = ltb-false (length xs) place v; same = e }))

-- the walk from a place passes with these tags exactly where the buffer is not too long, the place lies inside it, and the bytes from there on are a list of items of the grammar with these tags
pub exactly : (xs : List ℕ) (place : ℕ) (tags : List Seen) → (walk_from xs place ≡ walked tags passed) ↔ ((length xs ≤ 65535) × (place ≤ length xs) × Items place 0 (drop place xs) tags)
exactly xs place tags = (
  (λ e.
      let g = past_guards xs place tags e in (
        g.small,
        g.inside,
        subst (Items place 0 (drop place xs)) (ap (λ (w : Walk). w.tags) g.same) (passing xs place (ap (λ (w : Walk). w.outcome) g.same)),
      )),
  (λ y. walked_whole xs place y.0 y.1 y.2),
)
