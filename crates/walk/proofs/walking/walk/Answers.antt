-- `walk::walk` meets its contract: the two guards are the definition's, and the walk of the list from the place, with no block open, is the whole walk.
-- Assumes nothing.
use Rattle.walk.proofs.Nested.{passed_on, walk_by}
use Rattle.walk.proofs.walking.walk.Goals as goal

pub returns-in-Closing : goal.returns-in-Closing
returns-in-Closing c =
    let says = rw c.in-Closing.is at c.in_ok-tags.ensures in
    walk_by _ _ c.if-buf-gt65535.false c.if-buf-place.false says

pub returns-in_err-tags : goal.returns-in_err-tags
returns-in_err-tags c =
    rw (passed_on _ _ c.from_residual.ensures.1) (walk_by _ _ c.if-buf-gt65535.false c.if-buf-place.false c.in_err-tags.ensures)
