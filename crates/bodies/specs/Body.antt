-- What a tagged body is (ASHRAE 135, 20.2.1.3.2; the third demand of document 01, in its words), on bytes alone. Nothing here scans.
-- Assumes nothing.
use Rattle.std.specs.Prelude.{ℕ, ◌+◌, ◌≤◌, ◌≡◌, List, [], ◌∷◌, ◌++◌, length, take, eqb}
use Rattle.types.specs.Choice.{if}
use Rattle.types.specs.Tag.{Number, application, context, opening, closing, tag}
use Rattle.tags.specs.Header.{IsTag}
use Rattle.bodies.specs.Item.{content_length, Item}

-- bytes that split into whole items, one behind the other: each is the bytes of one tag, and as much content as the tag says
pub data Split : List ℕ → List Item → Type 0 where
  none : Split [] []
  item : (i : Item) {rest : List ℕ} {items : List Item} → IsTag i.tag i.header → length i.content ≡ content_length i.tag → Split rest items
      → Split (i.header ++ (i.content ++ rest)) (i ∷ items)

-- 1 for an opening of n, 0 for any other tag
abbrev pub opens : ℕ → Number → ℕ
opens n (application m) = 0
opens n (context m) = 0
opens n (opening m) = if (eqb m n) 1 0
opens n (closing m) = 0

-- 1 for a closing of n, 0 for any other tag
abbrev pub closes : ℕ → Number → ℕ
closes n (application m) = 0
closes n (context m) = 0
closes n (opening m) = 0
closes n (closing m) = if (eqb m n) 1 0

-- the openings of n among items
abbrev pub openings : ℕ → List Item → ℕ
openings n [] = 0
openings n (i ∷ items) = opens n i.tag.number + openings n items

-- the closings of n among items
abbrev pub closings : ℕ → List Item → ℕ
closings n [] = 0
closings n (i ∷ items) = closes n i.tag.number + closings n items

-- at a place of the bytes xs there is a body of number n: an opening of n, the view, and a closing of n, with any bytes before and after;
-- the view splits into whole items, in which closings of n are never more than openings of n, however many items are taken, and equal in the end
pub record BodyAt (xs : List ℕ) (place n : ℕ) (view : List ℕ) (items : List Item) : Type 0 where
  pub before : List ℕ
  pub opener : List ℕ
  pub closer : List ℕ
  pub after : List ℕ
  pub bytes : xs ≡ before ++ (opener ++ (view ++ (closer ++ after)))
  pub at : length before ≡ place
  pub opened : IsTag (tag (opening n) 0) opener
  pub splits : Split view items
  pub never_more : (k : ℕ) → closings n (take k items) ≤ openings n (take k items)
  pub equal : closings n items ≡ openings n items
  pub closed : IsTag (tag (closing n) 0) closer
