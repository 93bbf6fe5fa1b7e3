-- The count and the outcome tell the whole walk: its tags are those that so many calls of `tag_at` list.
-- Assumes nothing.
use mathlib.Core.Path.{◌≡◌, refl, ◌∙◌, ap, ap₂, sym}
use Prim.Native.Nat.{ℕ, zero, suc, ◌+◌, ◌-◌, ◌≤◌}
use native.Mathlib.Omega.{arith}
use mathlib.Core.List.{List, [], ◌∷◌}
use lib.Dec.{ltb, eqb}
use lib.ListN.{length}
use borrow.Author.Tests.{ltb-false, ne_eqb}
use Rattle.types.specs.Tag.{Number, application, context, opening, closing, Tag, tag}
use Rattle.types.specs.Refusal.{amount}
use Rattle.types.specs.Answer.{Answer, accepted, refused, Outcome, stopped}
use Rattle.types.proofs.Choices.{either}
use Rattle.walk.specs.Tag.{item_from, Standing, standing, stands_at, tag_at}
use Rattle.walk.specs.Walk.{Seen, seen, Walk, walked, ended, Step, ends, goes, closing_step, step_by, step_of, step_from, turn, walk_for, walk_on, walk_from, Report, report, reported}
use Rattle.walk.specs.Listing.{listed_by, listed}
use Rattle.walk.proofs.Unfolds.{a_byte_a_tag}

-- a step that goes on is what `tag_at` answers by the number of open blocks
abbrev pub Sees : List ℕ → ℕ → List ℕ → Step → Type 0
Sees xs place ns (ends o) = Unit {0}
Sees xs place ns (goes t next ms) = (tag_at xs place (length ns) ≡ accepted (standing t.tag t.depth (length ms)) next) × (seen place t.depth t.tag ≡ t)

module _ (xs : List ℕ) (place : ℕ) where
  sees_closing : (ns : List ℕ) (n v next : ℕ) → item_from xs place ≡ accepted (tag (closing n) v) next → Sees xs place ns (closing_step place ns n (tag (closing n) v) next)
  unfolding tag_at stands_at
  sees_closing [] n v next g = tt
  sees_closing (m ∷ ns) n v next g =
      let w : eqb (suc (length ns)) 0 ≡ _ = ne_eqb (suc (length ns)) 0 (λ e. omega arith) in
      let z : suc (length ns) - 1 ≡ length ns = omega arith in
      either (Sees xs place (m ∷ ns)) (eqb n m) (λ u. (simp (g, w) (ap (λ (j : ℕ). accepted (standing (tag (closing n) v) j j) next) z), refl)) (λ u. tt)

  sees_by : (ns : List ℕ) (k : Number) (v next : ℕ) → item_from xs place ≡ accepted (tag k v) next → Sees xs place ns (step_by place ns k (tag k v) next)
  unfolding tag_at stands_at
  sees_by ns (application n) v next g = (simp g, refl)
  sees_by ns (context n) v next g = (simp g, refl)
  sees_by ns (opening n) v next g =
      let z : length ns + 1 ≡ suc (length ns) = omega arith in
      either (Sees xs place ns) (ltb (length ns) 16) (λ u. (simp (g, u) (ap (λ (j : ℕ). accepted (standing (tag (opening n) v) (length ns) j) next) z), refl)) (λ u. tt)
  sees_by ns (closing n) v next g = sees_closing ns n v next g

  sees_of : (ns : List ℕ) (a : Answer Tag) → item_from xs place ≡ a → Sees xs place ns (step_of place ns a)
  sees_of ns (accepted t next) g = sees_by ns t.number t.value next g
  sees_of ns (refused k c) g = tt

  pub sees : (ns : List ℕ) → Sees xs place ns (step_from xs place ns)
  unfolding step_from
  sees ns = either (Sees xs place ns) (ltb place (length xs)) (λ u. sees_of ns (item_from xs place) refl) (λ u. tt)

-- a walk's tags are what a listing of as many finds
abbrev Lists : List ℕ → ℕ → ℕ → Walk → Type 0
Lists xs place blocks w = listed (length w.tags) xs place blocks ≡ w.tags

lists_none : (xs : List ℕ) (place blocks : ℕ) (o : Outcome) → Lists xs place blocks (ended o)
unfolding listed
lists_none xs place blocks o = refl

lists_turn : (xs : List ℕ) (on : ℕ → List ℕ → Walk) (place : ℕ) (ns : List ℕ) → ((next : ℕ) (ms : List ℕ) → Lists xs next (length ms) (on next ms)) → (s : Step) → Sees xs place ns s → Lists xs place (length ns) (turn s on)
unfolding listed
lists_turn xs on place ns h (ends o) w = refl
lists_turn xs on place ns h (goes t next ms) w =
    let ts : List Seen = (on next ms).tags in
    ap (λ (a : Answer Standing). listed_by place a (listed (length ts) xs)) w.0 ∙ ap (λ (us : List Seen). seen place t.depth t.tag ∷ us) (h next ms) ∙ ap (λ (u : Seen). u ∷ ts) w.1

lists_for : (f : ℕ) (xs : List ℕ) (place : ℕ) (ns : List ℕ) → Lists xs place (length ns) (walk_for f xs place ns)
unfolding walk_for
lists_for zero xs place ns = lists_none xs place (length ns) (stopped 0 (amount 0))
lists_for (suc f) xs place ns = lists_turn xs (walk_for f xs) place ns (λ next ms. lists_for f xs next ms) (step_from xs place ns) (sees xs place ns)

-- the tags of a walk are what a listing of as many from its place on, with no block open, finds
pub lists : (xs : List ℕ) (place : ℕ) → listed (length (walk_from xs place).tags) xs place 0 ≡ (walk_from xs place).tags
unfolding walk_from walk_on
lists xs place =
    either (Lists xs place 0) (ltb 65535 (length xs)) (λ u. lists_none xs place 0 (stopped 1 (amount (length xs)))) (λ u.
    either (Lists xs place 0) (ltb (length xs) place) (λ v. lists_none xs place 0 (stopped 2 (amount place))) (λ v.
    lists_for (suc (length xs)) xs place []))

-- the count and the outcome that are reported determine the walk: its tags are those of a listing of so many, refusals included
pub counted : (xs : List ℕ) (place count : ℕ) (o : Outcome) → reported (walk_from xs place) ≡ report count o → walk_from xs place ≡ walked (listed count xs place 0) o
counted xs place count o e =
    let c : length (walk_from xs place).tags ≡ count = ap (λ (r : Report). r.tags) e in
    ap₂ (λ (ts : List Seen) (p : Outcome). walked ts p) (sym (lists xs place) ∙ ap (λ (j : ℕ). listed j xs place 0) c) (ap (λ (r : Report). r.outcome) e)

-- so each of those calls is accepted
pub all_accepted : (xs : List ℕ) (place count : ℕ) (o : Outcome) → reported (walk_from xs place) ≡ report count o → length (listed count xs place 0) ≡ count
all_accepted xs place count o e = sym (ap (λ (w : Walk). length w.tags) (counted xs place count o e)) ∙ ap (λ (r : Report). r.tags) e

-- no more tags are accepted than there are bytes from the place on
abbrev Few : List ℕ → ℕ → Walk → Type 0
Few xs place w = length w.tags ≤ length xs - place

pub few_tags : (xs : List ℕ) (place : ℕ) → length (walk_from xs place).tags ≤ length xs - place
unfolding walk_from
few_tags xs place =
    either (Few xs place) (ltb 65535 (length xs)) (λ u. omega arith) (λ u.
    either (Few xs place) (ltb (length xs) place) (λ v. omega arith) (λ v.
    let l : place ≤ length xs = ltb-false (length xs) place v in
    omega (arith, a_byte_a_tag xs place [] l)))
