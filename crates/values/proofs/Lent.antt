-- An item whose lent bytes are not too many is written as if none were lent.
-- Assumes nothing.
use mathlib.Core.Path.{◌≡◌}
use Prim.Native.Nat.{ℕ, ◌≤◌}
use mathlib.Core.List.{List}
use borrow.Author.Tests.{le-ltb}
use Rattle.types.specs.Tag.{Number}
use Rattle.types.specs.Writing.{write_answer, writing}
use Rattle.tags.specs.Item.{item_lent_to, item_to}

pub lent_passed : (lent : ℕ) (n : Number) (content xs : List ℕ) (place : ℕ) → lent ≤ 65535 → item_lent_to lent n content xs place ≡ item_to n content xs place
unfolding item_lent_to item_to writing write_answer
lent_passed lent n content xs place h = simp (le-ltb 65535 lent h)
