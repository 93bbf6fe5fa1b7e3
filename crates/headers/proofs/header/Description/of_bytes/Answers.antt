-- `headers::of_bytes` meets its contract: each turn puts one byte more, and the rest are still 0.
-- Assumes nothing.
use Rattle.std.proofs.Common.{add-one, arith}
use Rattle.headers.proofs.Filled.{filled_further}
use Rattle.headers.proofs.header.Description.of_bytes.Goals as goal

pub loop-i-preserved : goal.loop-i-preserved
loop-i-preserved c = let h = filled_further 4 c.args.bytes.now c.loop-i.i (omega arith) (omega arith) in rw (c.loop-i.invariant, c.from.ensures, add-one) h
