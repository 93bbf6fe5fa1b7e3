-- A step of the walk is what the tag at the place says by the number of open blocks alone; only which block a closing tag closes is left to their numbers.
-- Assumes nothing.
use mathlib.Core.Path.{◌≡◌, refl, sym, subst}
use Prim.Native.Nat.{ℕ, suc, ◌+◌, ◌<◌, ◌≤◌}
use native.Mathlib.Omega.{arith}
use mathlib.Core.Bool.{Bool, true, false}
use mathlib.Core.List.{List, [], ◌∷◌}
use lib.Dec.{ltb, eqb}
use lib.ListN.{length}
use borrow.Author.Tests.{ltb-true, eqb-true}
use Rattle.types.specs.Choice.{if}
use Rattle.types.specs.Tag.{Number, application, context, opening, closing, Tag, tag}
use Rattle.types.specs.Refusal.{amount}
use Rattle.types.specs.Answer.{Answer, accepted, refused, then, stopped}
use Rattle.types.proofs.Choices.{either, read_on}
use Rattle.walk.specs.Tag.{item_from, Standing, standing, stands_by, stands_at, tag_at}
use Rattle.walk.specs.Walk.{seen, Step, ends, goes, closing_step, step_by, step_of, step_from}
use Rattle.walk.proofs.Found.{item_moves_on}
use Rattle.walk.proofs.Unfolds.{inside_step}

-- the step where the tag is accepted, by its class; an opening's depth is that of the block it opens, a closing's that of the block it closes
abbrev pub Goes : ℕ → List ℕ → Number → Standing → ℕ → Step → Type 0
Goes place ns (application n) s next st = (st ≡ goes (seen place s.depth s.tag) next ns) × (s.blocks ≡ length ns)
Goes place ns (context n) s next st = (st ≡ goes (seen place s.depth s.tag) next ns) × (s.blocks ≡ length ns)
Goes place ns (opening n) s next st = (st ≡ goes (seen place s.depth s.tag) next (n ∷ ns)) × (s.blocks ≡ suc (length ns)) × (s.depth ≡ length ns)
Goes place ns (closing n) s next st = (st ≡ closing_step place ns n s.tag next) × (length ns ≡ suc s.blocks) × (s.depth ≡ s.blocks)

abbrev pub Agree : ℕ → List ℕ → Answer Standing → Step → Type 0
Agree place ns (accepted s next) st = Goes place ns s.tag.number s next st
Agree place ns (refused n c) st = st ≡ ends (stopped n c)

closing_agrees : (place : ℕ) (ns : List ℕ) (n v next : ℕ) → Agree place ns (stands_by place (length ns) (closing n) (tag (closing n) v) next) (closing_step place ns n (tag (closing n) v) next)
closing_agrees place [] n v next = refl
closing_agrees place (m ∷ ns) n v next =
    either (λ a. Agree place (m ∷ ns) a (closing_step place (m ∷ ns) n (tag (closing n) v) next)) (eqb (suc (length ns)) 0)
    (λ e. let z : suc (length ns) ≡ 0 = eqb-true (suc (length ns)) 0 e in absurd (omega arith))
    (λ e. (refl, omega arith, refl))

by_agrees : (place : ℕ) (ns : List ℕ) (k : Number) (v next : ℕ) → Agree place ns (stands_by place (length ns) k (tag k v) next) (step_by place ns k (tag k v) next)
by_agrees place ns (application n) v next = (refl, refl)
by_agrees place ns (context n) v next = (refl, refl)
by_agrees place ns (opening n) v next = by (ltb (length ns) 16)
  where
    by : (b : Bool) → Agree place ns (if b (accepted (standing (tag (opening n) v) (length ns) (length ns + 1)) next) (refused 16 (amount place))) (if b (goes (seen place (length ns) (tag (opening n) v)) next (n ∷ ns)) (ends (stopped 16 (amount place))))
    by true = (refl, omega arith, refl)
    by false = refl
by_agrees place ns (closing n) v next = closing_agrees place ns n v next

of_agrees : (place : ℕ) (ns : List ℕ) (a : Answer Tag) → Agree place ns (then a (λ t next. stands_at place (length ns) t next)) (step_of place ns a)
unfolding stands_at
of_agrees place ns (accepted t next) = by_agrees place ns t.number t.value next
of_agrees place ns (refused n c) = refl

pub agrees : (xs : List ℕ) (place : ℕ) (ns : List ℕ) → place < length xs → Agree place ns (tag_at xs place (length ns)) (step_from xs place ns)
unfolding tag_at
agrees xs place ns h = subst (Agree place ns (tag_at xs place (length ns))) (sym (inside_step xs place ns h)) (of_agrees place ns (item_from xs place))

-- a tag that is accepted ends after its place, inside the buffer; and no more than sixteen blocks are open around it or after it
abbrev In : List ℕ → ℕ → ℕ → Answer Standing → Type 0
In xs place blocks (accepted s next) = (place < next) × (next ≤ length xs) × (blocks ≤ 16 → (s.depth ≤ 16) × (s.blocks ≤ 16))
In xs place blocks (refused n c) = Unit {0}

by_in : (xs : List ℕ) (place blocks : ℕ) (k : Number) (t : Tag) (next : ℕ) → (place < next) × (next ≤ length xs) → In xs place blocks (stands_by place blocks k t next)
by_in xs place blocks (application n) t next h = (h.0, h.1, λ l. (l, l))
by_in xs place blocks (context n) t next h = (h.0, h.1, λ l. (l, l))
by_in xs place blocks (opening n) t next h =
    either (In xs place blocks) (ltb blocks 16) (λ e. let w : blocks < 16 = ltb-true blocks 16 e in (h.0, h.1, λ l. (l, omega arith))) (λ e. tt)
by_in xs place blocks (closing n) t next h =
    either (In xs place blocks) (eqb blocks 0) (λ e. tt) (λ e. (h.0, h.1, λ l. (omega arith, omega arith)))

pub tag_at_bounds : (xs : List ℕ) (place blocks : ℕ) (s : Standing) (next : ℕ) → tag_at xs place blocks ≡ accepted s next → (place < next) × (next ≤ length xs) × (blocks ≤ 16 → (s.depth ≤ 16) × (s.blocks ≤ 16))
unfolding tag_at stands_at
tag_at_bounds xs place blocks s next e =
    subst (In xs place blocks) e
    (read_on (In xs place blocks) (item_from xs place) (λ t q g. by_in xs place blocks t.number t q (item_moves_on xs place t q g)) (λ n c g. tt))
