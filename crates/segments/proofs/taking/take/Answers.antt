-- `segments::take` meets its contract: the tests before it say which refusal comes first, if any, and then the frame is taken as its part is put behind the bytes held.
-- Assumes nothing.
use native.Mathlib.Omega.{arith}
use borrow.Author.Rules.{rules}
use Rattle.segments.specs.State.{state_of}
use Rattle.segments.specs.Put.{segment_bytes}
use Rattle.segments.proofs.Tested.{taken_as_put}
use Rattle.segments.proofs.taking.take.Goals as goal

pub returns-in_err-held : goal.returns-in_err-held
returns-in_err-held c =
    let w = taken_as_put (state_of c.args.state) c.args.frame.now (segment_bytes c.in_ok-segment.segment) c.args.buf.now c.if-state.false (omega arith) (omega arith) c.in_ok-segment.ensures c.in_ok-due.ensures _ _ (rw c.part.ensures at c.in_err-held.ensures) in
    search (rules, w)

pub returns : goal.returns
returns c =
    let w = taken_as_put (state_of c.args.state) c.args.frame.now (segment_bytes c.in_ok-segment.segment) c.args.buf.now c.if-state.false (omega arith) (omega arith) c.in_ok-segment.ensures c.in_ok-due.ensures _ _ (rw c.part.ensures at c.in_ok-held.ensures) in
    rw c.taken.ensures w
