-- About the code alone: how the walk goes on from what `walk_list` and `walk_item` answer, whatever blocks are open. No promise to a caller cites this.
-- Assumes nothing.
use Rattle.std.specs.Prelude.{ℕ, ◌+◌, ◌^◌, ◌≤◌, ◌<◌, ◌≡◌, List, [], ◌∷◌, length, eqb, Result, Ok, Err}
use Rattle.types.specs.Choice.{if}
use Rattle.types.specs.Refusal.{amount, table}
use Rattle.types.specs.Answer.{Outcome, stopped}
use Rattle.types.specs.declared.refusal.Refusal.{Refusal}
use Rattle.types.specs.declared.refusal.Refusal.TheVariants as r
use Rattle.types.specs.declared.counted.CountedRefusal.{CountedRefusal}
use Rattle.walk.specs.declared.walking.ItemEnd.{ItemEnd}
use Rattle.walk.specs.declared.walking.ItemEnd.TheVariants as i
use Rattle.walk.specs.declared.walking.ListEnd.{ListEnd}
use Rattle.walk.specs.declared.walking.ListEnd.TheVariants as l
use Rattle.walk.specs.Walk.{Walk, at_end, walk_on, Report, report}

-- the report of a walk, with k tags before it
abbrev pub report_after : ℕ → Walk → Report
report_after k w = report (k + length w.tags) w.outcome

-- the report of the walk from a place on, with these blocks open and k tags before
unfoldable pub on : List ℕ → (place : ℕ) → (blocks : List ℕ) → (k : ℕ) → Report
on xs place ns k = report_after k (walk_on xs place ns)

abbrev pub refused_by : Refusal → Outcome
refused_by x = stopped (table x).number (table x).carries

-- at a closing tag of number n at a place, which ends at next
abbrev pub at_closing : List ℕ → (place : ℕ) → (blocks : List ℕ) → (n next k : ℕ) → Report
at_closing xs place [] n next k = report k (stopped 15 (amount place))
at_closing xs place (m ∷ ns) n next k = if (eqb n m) (on xs next ns (k + 1)) (report k (stopped 15 (amount place)))

-- what is reported of a walk that is refused
abbrev pub refused_after : CountedRefusal → Report
refused_after r = report r.tags (refused_by r.refusal)

-- how the walk goes on after the item at a place with k tags before, and after a list
abbrev pub after_item : List ℕ → (place k : ℕ) → (blocks : List ℕ) → Result ItemEnd CountedRefusal → Report
after_item xs place k ns (Ok (i.Next next t)) = on xs next ns t
after_item xs place k ns (Ok (i.Closing n next)) = at_closing xs place ns n next k
after_item xs place k ns (Err r) = refused_after r

abbrev pub after_list : List ℕ → (blocks : List ℕ) → Result ListEnd CountedRefusal → Report
after_list xs ns (Ok (l.Buffer t)) = report t (at_end xs ns)
after_list xs ns (Ok (l.Closing place n next t)) = at_closing xs place ns n next t
after_list xs ns (Err r) = refused_after r

-- the places lie inside the buffer, behind those before, and no more tags than bytes are counted
abbrev pub ItemIn : List ℕ → (place : ℕ) → Result ItemEnd CountedRefusal → Type 0
ItemIn xs place (Ok (i.Next next t)) = (place < next) × (next ≤ length xs) × (t ≤ next)
ItemIn xs place (Ok (i.Closing n next)) = (place < next) × (next ≤ length xs)
ItemIn xs place (Err r) = Unit {0}

abbrev pub ListIn : List ℕ → (start : ℕ) → Result ListEnd CountedRefusal → Type 0
ListIn xs start (Ok (l.Buffer t)) = Unit {0}
ListIn xs start (Ok (l.Closing place n next t)) = (start ≤ place) × (place < next) × (next ≤ length xs) × (t ≤ place)
ListIn xs start (Err r) = Unit {0}

-- whatever blocks are open, so many of them: the walk goes on from the item's answer, or from the list's
pub record ItemSays (xs : List ℕ) (place blocks k : ℕ) (a : Result ItemEnd CountedRefusal) : Type 0 where
  pub goes : (ns : List ℕ) → length ns ≡ blocks → on xs place ns k ≡ after_item xs place k ns a
  pub inside : ItemIn xs place a

pub record ListSays (xs : List ℕ) (start blocks k : ℕ) (a : Result ListEnd CountedRefusal) : Type 0 where
  pub goes : (ns : List ℕ) → length ns ≡ blocks → on xs start ns k ≡ after_list xs ns a
  pub inside : ListIn xs start a

-- the tags of a list's end can be counted once more
abbrev pub Countable : ListEnd → Type 0
Countable (l.Buffer t) = Unit {0}
Countable (l.Closing place n next t) = t + 1 < 2 ^ 64

-- what a block of number n comes to, by where the list behind its opening tag ended
abbrev pub close_block : (n end : ℕ) → ListEnd → Result ItemEnd CountedRefusal
close_block n end (l.Buffer t) = Err (record { refusal = r.BytesRunOut end; tags = t })
close_block n end (l.Closing place m next t) = if (eqb m n) (Ok (i.Next next (t + 1))) (Err (record { refusal = r.ClosingWithoutOpening place; tags = t }))
