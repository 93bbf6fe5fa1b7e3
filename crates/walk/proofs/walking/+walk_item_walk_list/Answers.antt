-- `walk::walk_item` and `walk::walk_list` meet their contracts: each answer says how the walk goes on, whatever blocks are open.
-- Assumes nothing.
use Rattle.std.proofs.Common.{sym, ap}
use Rattle.types.specs.Tag.{number_of}
use Rattle.walk.proofs.Nested.{plain_kind, item_refused, item_plain, item_closing, item_cut, item_block, list_end, passed_on}
use Rattle.walk.proofs.walking.+walk_item_walk_list.Goals as goal

pub walk_item-returns-in-Err : goal.walk_item-returns-in-Err
walk_item-returns-in-Err t c = item_refused _ _ _ _ c.requires.0 (sym c.in-Err.ensures)

pub walk_item-returns-in-Application : goal.walk_item-returns-in-Application
walk_item-returns-in-Application t c = item_plain _ _ _ _ c.requires.0 (sym c.in-Ok.ensures) c.requires.1 (plain_kind c.in-Application.is)

pub walk_item-returns-in-ContextSpecificClosing : goal.walk_item-returns-in-ContextSpecificClosing
walk_item-returns-in-ContextSpecificClosing t c = item_closing _ _ _ _ c.requires.0 (sym c.in-Ok.ensures) (ap number_of c.in-ContextSpecificClosing.is)

pub walk_item-returns-in_ok-list-in-ContextSpecificOpening : goal.walk_item-returns-in_ok-list-in-ContextSpecificOpening
walk_item-returns-in_ok-list-in-ContextSpecificOpening t c =
    let list = c.in_ok-list-in-ContextSpecificOpening in
    rw c.close_block.ensures
    (item_block _ _ _ _ c.requires.0 (sym c.in-Ok.ensures) (ap number_of c.in-ContextSpecificOpening.is) list.list list.ensures)

pub walk_item-returns-in_err-list-in-ContextSpecificOpening : goal.walk_item-returns-in_err-list-in-ContextSpecificOpening
walk_item-returns-in_err-list-in-ContextSpecificOpening t c =
    rw (passed_on _ _ c.from_residual.ensures.1)
    (item_cut _ _ _ _ c.requires.0 (sym c.in-Ok.ensures) (ap number_of c.in-ContextSpecificOpening.is) c.in_err-list-in-ContextSpecificOpening.ensures)

pub walk_list-returns : goal.walk_list-returns
walk_list-returns t c = list_end c.loop-place.invariant c.loop-place-test.false
