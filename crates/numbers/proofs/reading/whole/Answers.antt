-- `numbers::whole` meets its contract. The loop's invariant: the value is the one that the bytes passed stand for.
-- Assumes nothing.
use native.Mathlib.Omega.{arith}
use Rattle.numbers.proofs.Value.{value_room}
use Rattle.numbers.proofs.reading.whole.Goals as goal

pub overflow_mul-value : goal.overflow_mul-value
overflow_mul-value c = omega (arith, value_room 7 c.args.bytes.now 0 c.loop-byte.byte-index (λ i. (c.type_inv.bytes i).fits) (omega arith))

pub overflow_add-value : goal.overflow_add-value
overflow_add-value c = omega (arith, value_room 7 c.args.bytes.now 0 c.loop-byte.byte-index (λ i. (c.type_inv.bytes i).fits) (omega arith))
