-- The items whose tags are read from one place to another.
-- Assumes nothing.
use Prim.Native.Nat.{ℕ, ◌+◌, ◌-◌}
use mathlib.Core.Path.{◌≡◌}
use mathlib.Core.List.{List, [], ◌∷◌}
use lib.ListN.{length, take, drop}
use Rattle.types.specs.Tag.{Tag}
use Rattle.types.specs.Answer.{accepted}
use Rattle.tags.specs.Reading.{tag_from}
use Rattle.bodies.specs.Item.{content_length, Item}
use Rattle.bodies.specs.Count.{TagsRead, nothing, another}

-- the bytes from one place to another
abbrev pub part : List ℕ → (from to : ℕ) → List ℕ
part xs from to = take (to - from) (drop from xs)

-- the item of a tag that stands from one place to another
abbrev pub item_at : List ℕ → (place next : ℕ) → Tag → Item
item_at xs place next t = record { tag = t; header = part xs place next; content = part xs next (next + content_length t) }

-- tags are read as `TagsRead` says, and these are their items
pub data ItemsRead (xs : List ℕ) : (from to : ℕ) → List Item → Type 0 where
  none : {place : ℕ} → ItemsRead xs place place []
  item : {place next end : ℕ} {t : Tag} {items : List Item} → tag_from xs place ≡ accepted t next → ItemsRead xs (next + content_length t) end items → ItemsRead xs place end (item_at xs place next t ∷ items)

-- as many tags are read as there are items
pub tags_read : {xs : List ℕ} {place end : ℕ} {items : List Item} → ItemsRead xs place end items → TagsRead xs place end (length items)
tags_read none = nothing
tags_read (item e x) = another e (tags_read x)
