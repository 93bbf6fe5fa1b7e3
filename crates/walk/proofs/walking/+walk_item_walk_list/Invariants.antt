-- `walk::walk_item` and `walk::walk_list` end: the remaining bytes fall, as an item is walked at the list's place, and a list behind the item's opening tag. The list's loop keeps `Now`.
-- Assumes nothing.
use Rattle.std.proofs.Common.{length, ◌-◌, ◌+◌, ◌*◌}
use Rattle.walk.proofs.Nested.{Now}
use Rattle.walk.proofs.walking.+walk_item_walk_list.Given as goal

abbrev pub decreases-walk_item : goal.decreases-walk_item
decreases-walk_item l = 2 * (length l.buf.now - l.place)

abbrev pub decreases-walk_list : goal.decreases-walk_list
decreases-walk_list l = 2 * (length l.buf.now - l.start) + 1

abbrev pub invariant-walk_list-loop-place : goal.invariant-walk_list-loop-place
invariant-walk_list-loop-place l = Now l.buf l.start l.blocks l.before l.place l.tags

abbrev pub decreases-walk_list-loop-place : goal.decreases-walk_list-loop-place
decreases-walk_list-loop-place l = length l.buf - l.place
