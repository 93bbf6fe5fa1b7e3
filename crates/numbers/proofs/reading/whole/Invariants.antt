-- `numbers::whole` meets its contract. The loop's invariant: the value is the one that the bytes passed stand for.
-- Assumes nothing.
use mathlib.Core.Path.{◌≡◌}
use lib.ListN.{take}
use Rattle.numbers.specs.Integer.{unsigned_value}
use Rattle.numbers.proofs.reading.whole.Given as goal

abbrev pub invariant-loop-byte : goal.invariant-loop-byte
invariant-loop-byte l = l.value ≡ unsigned_value (take l.byte-index l.bytes)
