-- `bodies::scan` meets its contract. The loop's invariant: what is left of the allowance, from here on, answers what the whole answers from the start on.
-- Assumes nothing.
use native.Mathlib.Omega.{arith}
use mathlib.Core.Path.{sym}
use Rattle.bodies.proofs.Turns.{spent, turned, onward_moves}
use Rattle.bodies.proofs.scan.scan.Goals as goal

pub returns-in-Err : goal.returns-in-Err
returns-in-Err c = turned _ _ _ _ _ _ _ c.loop-tags.invariant.same (omega arith) (sym c.in-Err.ensures)

pub returns-in-Ok-Closed : goal.returns-in-Ok-Closed
returns-in-Ok-Closed c =
    let e = rw c.in-Ok-Closed.field-0-is at c.in-Ok-Closed.ensures in
    turned _ _ _ _ _ _ _ c.loop-tags.invariant.same (omega arith) (sym e)

pub loop-tags-preserved : goal.loop-tags-preserved
loop-tags-preserved c =
    let e = rw c.in-Ok-Onward.field-0-is at c.in-Ok-Onward.ensures in
    let moves = onward_moves _ _ _ _ (sym e) in
    record {
      few = omega (arith, moves);
      ahead = omega (arith, moves);
      same = sym (turned _ _ _ _ _ _ _ c.loop-tags.invariant.same (omega arith) (sym e));
    }

pub returns : goal.returns
returns c = spent _ _ _ _ _ _ _ c.loop-tags.invariant.same (omega arith) (omega arith) (omega arith)
