-- What the answers for an item and for a list say of the walk, whatever blocks are open.
-- Assumes nothing.
use mathlib.Core.Path.{◌≡◌, refl, ◌∙◌, ap, sym, subst}
use Prim.Native.Nat.{ℕ, suc, ◌+◌, ◌^◌, ◌<◌, ◌≤◌}
use native.Mathlib.Omega.{arith}
use mathlib.Core.Logic.{◌⊎◌, ⊎_elim}
use mathlib.Core.Bool.{Bool, true, false}
use mathlib.Core.List.{List, [], ◌∷◌}
use lib.Dec.{eqb}
use lib.ListN.{length}
use borrow.Author.Tests.{lt-ltb, le-ltb}
use Rattle.types.specs.Choice.{if}
use Rattle.std.specs.Prelude.{IsErrAnd}
use Rattle.std.specs.declared.result.Result.{Result}
use Rattle.std.specs.declared.result.Result.TheVariants.{Ok, Err}
use Rattle.types.specs.Tag.{Number, application, context, opening, closing, Tag, number_of}
use Rattle.types.specs.Refusal.{amount}
use Rattle.types.specs.Answer.{Answer, accepted, refusal, stopped}
use Rattle.types.specs.declared.tag.ApplicationTagNumber.{ApplicationTagNumber}
use Rattle.types.specs.declared.tag.TagNumber.{TagNumber}
use Rattle.types.specs.declared.tag.TagNumber.TheVariants as n
use Rattle.types.specs.declared.refusal.Refusal.{Refusal}
use Rattle.types.specs.declared.refusal.Refusal.TheVariants as x
use Rattle.types.specs.declared.counted.CountedRefusal.{CountedRefusal}
use Rattle.walk.specs.declared.walking.ItemEnd.TheVariants as i
use Rattle.walk.specs.declared.walking.ListEnd.{ListEnd}
use Rattle.walk.specs.declared.walking.ListEnd.TheVariants as l
use Rattle.walk.specs.Tag.{Standing, standing, tag_at}
use Rattle.walk.specs.Walk.{seen, Step, ends, goes, closing_step, step_from, turn, walk_on, walk_from, Report, report, reported}
use Rattle.walk.specs.Nested.{report_after, on, at_closing, after_list, ItemSays, ListSays, Countable, close_block}
use Rattle.walk.specs.Grammar.{Plain}
use Rattle.walk.proofs.Unfolds.{unfolds, end_step}
use Rattle.walk.proofs.Standing.{Goes, Agree, agrees, tag_at_bounds}

-- the report, one tag at a time
abbrev pub on_step : List ℕ → ℕ → Step → Report
on_step xs k (ends o) = report k o
on_step xs k (goes t next ns) = on xs next ns (k + 1)

turn_step : (xs : List ℕ) (k : ℕ) (s : Step) → report_after k (turn s (walk_on xs)) ≡ on_step xs k s
unfolding on
turn_step xs k (ends o) = ap (λ (j : ℕ). report j o) (let z : k + 0 ≡ k = omega arith in z)
turn_step xs k (goes t next ns) = ap (λ (j : ℕ). report j (walk_on xs next ns).outcome) (let z : k + suc (length (walk_on xs next ns).tags) ≡ k + 1 + length (walk_on xs next ns).tags = omega arith in z)

pub on_step_lem : (xs : List ℕ) (place : ℕ) (ns : List ℕ) (k : ℕ) {s : Step} → step_from xs place ns ≡ s → on xs place ns k ≡ on_step xs k s
unfolding on
on_step_lem xs place ns k {s} e = ap (report_after k) (unfolds xs place ns ∙ ap (λ (s : Step). turn s (walk_on xs)) e) ∙ turn_step xs k s

pub closing_step_lem : (xs : List ℕ) (place : ℕ) (ns : List ℕ) (n : ℕ) (t : Tag) (next k : ℕ) → on_step xs k (closing_step place ns n t next) ≡ at_closing xs place ns n next k
closing_step_lem xs place [] n t next k = refl
closing_step_lem xs place (m ∷ ns) n t next k = by (eqb n m)
  where
    by : (b : Bool) → on_step xs k (if b (goes (seen place (length ns) t) next ns) (ends (stopped 15 (amount place)))) ≡ if b (on xs next ns (k + 1)) (report k (stopped 15 (amount place)))
    by true = refl
    by false = refl

-- a tag that neither opens nor closes, by its two kinds
pub plain_kind : {u : TagNumber} → ((y : ApplicationTagNumber) × (u ≡ n.Application y)) ⊎ ((y : ℕ) × (u ≡ n.ContextSpecific y)) → Plain (number_of u)
plain_kind w = ⊎_elim (λ p. subst (λ (v : TagNumber). Plain (number_of v)) (sym p.1) tt) (λ p. subst (λ (v : TagNumber). Plain (number_of v)) (sym p.1) tt) w

plain_goes : (place : ℕ) (ns : List ℕ) (m : Number) (s : Standing) (next : ℕ) {st : Step} → Plain m → Goes place ns m s next st → st ≡ goes (seen place s.depth s.tag) next ns
plain_goes place ns (application y) s next p g = g.0
plain_goes place ns (context y) s next p g = g.0
plain_goes place ns (opening y) s next p g = absurd p
plain_goes place ns (closing y) s next p g = absurd p

-- the item at a place, with so many blocks open and k tags before
module _ (xs : List ℕ) (place blocks k : ℕ) (h : place < length xs) where
  -- what the tag there says of the step
  step_of : (a : Answer Standing) → tag_at xs place blocks ≡ a → (ns : List ℕ) → length ns ≡ blocks → Agree place ns a (step_from xs place ns)
  step_of a e ns z = subst (λ (y : Answer Standing). Agree place ns y (step_from xs place ns)) (ap (tag_at xs place) z ∙ e) (agrees xs place ns h)

  pub item_refused : {r : Refusal} → tag_at xs place blocks ≡ refusal r → ItemSays xs place blocks k (Err (record { refusal = r; tags = k }))
  item_refused {r} e = record { goes = λ ns z. on_step_lem xs place ns k (step_of (refusal r) e ns z); inside = tt }

  module _ {t : Tag} {depth inside next : ℕ} (is : tag_at xs place blocks ≡ accepted (standing t depth inside) next) where
    pub tag_inside : (place < next) × (next ≤ length xs)
    tag_inside = let w = tag_at_bounds xs place blocks (standing t depth inside) next is in (w.0, w.1)

    class : {m : Number} → t.number ≡ m → (ns : List ℕ) → length ns ≡ blocks → Goes place ns m (standing t depth inside) next (step_from xs place ns)
    class e ns z = subst (λ (y : Number). Goes place ns y (standing t depth inside) next (step_from xs place ns)) e (step_of (accepted (standing t depth inside) next) is ns z)

    pub item_plain : k ≤ place → Plain t.number → ItemSays xs place blocks k (Ok (i.Next next (k + 1)))
    item_plain few p =
        let w = tag_inside in
        record { goes = λ ns z. on_step_lem xs place ns k (plain_goes place ns t.number (standing t depth inside) next p (class refl ns z)); inside = (w.0, w.1, omega arith) }

    pub item_closing : {y : ℕ} → t.number ≡ closing y → ItemSays xs place blocks k (Ok (i.Closing y next))
    item_closing {y} e = record { goes = λ ns z. on_step_lem xs place ns k (class e ns z).0 ∙ closing_step_lem xs place ns y t next k; inside = tag_inside }

    module _ {y : ℕ} (e : t.number ≡ opening y) where
      into : {b : Result ListEnd CountedRefusal} → ListSays xs next inside (k + 1) b → (ns : List ℕ) → length ns ≡ blocks → on xs place ns k ≡ after_list xs (y ∷ ns) b
      into says ns z = let w = class e ns z in on_step_lem xs place ns k w.0 ∙ says.goes (y ∷ ns) (sym w.1)

      pub item_cut : {r : CountedRefusal} → ListSays xs next inside (k + 1) (Err r) → ItemSays xs place blocks k (Err r)
      item_cut says = record { goes = λ ns z. into says ns z; inside = tt }

      pub item_block : (b : ListEnd) → ListSays xs next inside (k + 1) (Ok b) → ItemSays xs place blocks k (close_block y (length xs) b)
      item_block (l.Buffer t) says = record { goes = λ ns z. into says ns z; inside = tt }
      item_block (l.Closing p m q t) says = by (eqb m y) (λ ns z. into says ns z)
        where
          by : (b : Bool) → ((ns : List ℕ) → length ns ≡ blocks → on xs place ns k ≡ if b (on xs q ns (t + 1)) (report t (stopped 15 (amount p))))
              → ItemSays xs place blocks k (if b (Ok (i.Next q (t + 1))) (Err (record { refusal = x.ClosingWithoutOpening p; tags = t })))
          by true f = let w = says.inside in let v = tag_inside in record { goes = f; inside = (omega arith, omega arith, omega arith) }
          by false f = record { goes = f; inside = tt }

-- a list's tags can be counted once more
pub countable : (xs : List ℕ) (start blocks k : ℕ) (b : ListEnd) → length xs < 2 ^ 64 → ListSays xs start blocks k (Ok b) → Countable b
countable xs start blocks k (l.Buffer t) small says = tt
countable xs start blocks k (l.Closing p m q t) small says = let w = says.inside in omega arith

-- the loop of a list that began at a start with b tags before, now at a place with k
pub record Now (xs : List ℕ) (start blocks b place k : ℕ) : Type 0 where
  pub low : start ≤ place
  pub high : place ≤ length xs
  pub few : k ≤ place
  pub same : (ns : List ℕ) → length ns ≡ blocks → on xs start ns b ≡ on xs place ns k

pub now_first : (xs : List ℕ) (start blocks b : ℕ) → start ≤ length xs → b ≤ start → Now xs start blocks b start b
now_first xs start blocks b h f = record { low = omega arith; high = h; few = f; same = λ ns z. refl }

module _ {xs : List ℕ} {start blocks b place k : ℕ} (is : Now xs start blocks b place k) where
  pub list_end : length xs ≤ place → ListSays xs start blocks b (Ok (l.Buffer k))
  list_end h = record { goes = λ ns z. is.same ns z ∙ on_step_lem xs place ns k (end_step xs place ns h); inside = tt }

  pub list_next : {q t : ℕ} → ItemSays xs place blocks k (Ok (i.Next q t)) → Now xs start blocks b q t
  list_next says = let w = says.inside in record { low = omega (arith, is.low); high = w.1; few = w.2; same = λ ns z. is.same ns z ∙ says.goes ns z }

  pub list_closing : {m q : ℕ} → ItemSays xs place blocks k (Ok (i.Closing m q)) → ListSays xs start blocks b (Ok (l.Closing place m q k))
  list_closing says = let w = says.inside in record { goes = λ ns z. is.same ns z ∙ says.goes ns z; inside = (is.low, w.0, w.1, is.few) }

  pub list_refused : {r : CountedRefusal} → ItemSays xs place blocks k (Err r) → ListSays xs start blocks b (Err r)
  list_refused says = record { goes = λ ns z. is.same ns z ∙ says.goes ns z; inside = tt }

-- what `?` passes on is the refusal that was answered
pub passed_on : {A : Type 0} (a : Result A CountedRefusal) (r : CountedRefusal) → IsErrAnd a (λ x. x ≡ r) → a ≡ Err r
passed_on (Ok x) r h = absurd h
passed_on (Err x) r h = ap Err h

-- the whole walk: its two guards, and what is past them
pub walk_long : (xs : List ℕ) (place : ℕ) → 65535 < length xs → report 0 (stopped 1 (amount (length xs))) ≡ reported (walk_from xs place)
unfolding walk_from
walk_long xs place h = simp (lt-ltb 65535 (length xs) h)

pub walk_past : (xs : List ℕ) (place : ℕ) → length xs ≤ 65535 → length xs < place → report 0 (stopped 2 (amount place)) ≡ reported (walk_from xs place)
unfolding walk_from
walk_past xs place small h = simp (le-ltb 65535 (length xs) small, lt-ltb (length xs) place h)

pub unguarded : (xs : List ℕ) (place : ℕ) → length xs ≤ 65535 → place ≤ length xs → walk_from xs place ≡ walk_on xs place []
unfolding walk_from
unguarded xs place small inside = simp (le-ltb 65535 (length xs) small, le-ltb (length xs) place inside)

from_start : (xs : List ℕ) (place : ℕ) → length xs ≤ 65535 → place ≤ length xs → reported (walk_from xs place) ≡ on xs place [] 0
unfolding on
from_start xs place small inside =
    ap reported (unguarded xs place small inside)
    ∙ ap (λ (j : ℕ). report j (walk_on xs place []).outcome) (let z : length (walk_on xs place []).tags ≡ 0 + length (walk_on xs place []).tags = omega arith in z)

pub walk_by : (xs : List ℕ) (place : ℕ) → length xs ≤ 65535 → place ≤ length xs → {b : Result ListEnd CountedRefusal} → ListSays xs place 0 0 b → after_list xs [] b ≡ reported (walk_from xs place)
walk_by xs place small inside says = sym (from_start xs place small inside ∙ says.goes [] refl)
