-- The walk is its first step and the walk from where that leads: its steps are always enough.
-- Assumes nothing.
use mathlib.Core.Path.{◌≡◌, refl, ap}
use Prim.Native.Nat.{ℕ, zero, suc, ◌+◌, ◌<◌, ◌≤◌}
use native.Mathlib.Omega.{arith}
use mathlib.Core.List.{List, [], ◌∷◌}
use lib.Dec.{ltb, eqb}
use lib.ListN.{length}
use borrow.Author.Tests.{lt-ltb, le-ltb}
use Rattle.types.specs.Tag.{Number, application, context, opening, closing, Tag}
use Rattle.types.specs.Answer.{Answer, accepted, refused}
use Rattle.types.proofs.Choices.{either}
use Rattle.walk.specs.Tag.{item_from}
use Rattle.walk.specs.Walk.{Walk, more, Step, ends, goes, closing_step, step_by, step_of, at_end, step_from, turn, walk_for, walk_on}
use Rattle.walk.proofs.Found.{item_moves_on}

-- a step that goes on goes ahead, inside the buffer
abbrev pub Onward : List ℕ → ℕ → Step → Type 0
Onward xs place (ends o) = Unit {0}
Onward xs place (goes t next ns) = (place < next) × (next ≤ length xs)

closing_onward : (xs : List ℕ) (place : ℕ) (ns : List ℕ) (n : ℕ) (t : Tag) (next : ℕ) → (place < next) × (next ≤ length xs) → Onward xs place (closing_step place ns n t next)
closing_onward xs place [] n t next h = tt
closing_onward xs place (m ∷ ns) n t next h = either (Onward xs place) (eqb n m) (λ e. h) (λ e. tt)

by_onward : (xs : List ℕ) (place : ℕ) (ns : List ℕ) (k : Number) (t : Tag) (next : ℕ) → (place < next) × (next ≤ length xs) → Onward xs place (step_by place ns k t next)
by_onward xs place ns (application n) t next h = h
by_onward xs place ns (context n) t next h = h
by_onward xs place ns (opening n) t next h = either (Onward xs place) (ltb (length ns) 16) (λ e. h) (λ e. tt)
by_onward xs place ns (closing n) t next h = closing_onward xs place ns n t next h

of_onward : (xs : List ℕ) (place : ℕ) (ns : List ℕ) (a : Answer Tag) → item_from xs place ≡ a → Onward xs place (step_of place ns a)
of_onward xs place ns (accepted t next) e = by_onward xs place ns t.number t next (item_moves_on xs place t next e)
of_onward xs place ns (refused n c) e = tt

pub onward : (xs : List ℕ) (place : ℕ) (ns : List ℕ) → Onward xs place (step_from xs place ns)
unfolding step_from
onward xs place ns = either (Onward xs place) (ltb place (length xs)) (λ e. of_onward xs place ns (item_from xs place) refl) (λ e. tt)

-- inside the buffer a step is the item's, and at its end the walk ends
pub inside_step : (xs : List ℕ) (place : ℕ) (ns : List ℕ) → place < length xs → step_from xs place ns ≡ step_of place ns (item_from xs place)
unfolding step_from
inside_step xs place ns h = simp (lt-ltb place (length xs) h)

pub end_step : (xs : List ℕ) (place : ℕ) (ns : List ℕ) → length xs ≤ place → step_from xs place ns ≡ ends (at_end xs ns)
unfolding step_from
end_step xs place ns h = simp (le-ltb place (length xs) h)

same_turn : (xs : List ℕ) (place : ℕ) (f g : ℕ → List ℕ → Walk) → ((next : ℕ) (ns : List ℕ) → place < next → next ≤ length xs → f next ns ≡ g next ns) → (s : Step) → Onward xs place s → turn s f ≡ turn s g
same_turn xs place f g h (ends o) w = refl
same_turn xs place f g h (goes t next ns) w = ap (more t) (h next ns w.0 w.1)

-- as many steps as there are bytes from the place on, and one more, are as good as any number above
enough : (f g : ℕ) (xs : List ℕ) (place : ℕ) (ns : List ℕ) → place ≤ length xs → length xs < f + place → length xs < g + place → walk_for f xs place ns ≡ walk_for g xs place ns
unfolding walk_for
enough zero g xs place ns l h k = absurd (omega arith)
enough (suc f) zero xs place ns l h k = absurd (omega arith)
enough (suc f) (suc g) xs place ns l h k =
    same_turn xs place (walk_for f xs) (walk_for g xs) (λ next ms a b. enough f g xs next ms b (omega arith) (omega arith)) (step_from xs place ns) (onward xs place ns)

-- the walk is its first step, and then the walk from where that leads
pub unfolds : (xs : List ℕ) (place : ℕ) (ns : List ℕ) → walk_on xs place ns ≡ turn (step_from xs place ns) (walk_on xs)
unfolding walk_on walk_for
unfolds xs place ns =
    same_turn xs place (walk_for (length xs) xs) (walk_for (suc (length xs)) xs) (λ next ms a b. enough (length xs) (suc (length xs)) xs next ms b (omega arith) (omega arith)) (step_from xs place ns) (onward xs place ns)

-- each tag has a byte at least
few_turn : (xs : List ℕ) (place : ℕ) (on : ℕ → List ℕ → Walk) → ((next : ℕ) (ns : List ℕ) → next ≤ length xs → length (on next ns).tags + next ≤ length xs) → place ≤ length xs → (s : Step) → Onward xs place s
    → length (turn s on).tags + place ≤ length xs
few_turn xs place on h l (ends o) w = omega arith
few_turn xs place on h l (goes t next ns) w = omega (arith, h next ns w.1)

few : (f : ℕ) (xs : List ℕ) (place : ℕ) (ns : List ℕ) → place ≤ length xs → length (walk_for f xs place ns).tags + place ≤ length xs
unfolding walk_for
few zero xs place ns l = omega arith
few (suc f) xs place ns l = few_turn xs place (walk_for f xs) (λ next ms m. few f xs next ms m) l (step_from xs place ns) (onward xs place ns)

-- the tags of a walk, and the place that it began at, are no more than the bytes
pub a_byte_a_tag : (xs : List ℕ) (place : ℕ) (ns : List ℕ) → place ≤ length xs → length (walk_on xs place ns).tags + place ≤ length xs
unfolding walk_on
a_byte_a_tag xs place ns l = few (suc (length xs)) xs place ns l
