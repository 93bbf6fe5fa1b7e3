-- `numbers::write_low_bytes` meets its contract. The loop's invariant: the last bytes are written, and the rest of the number is what stands above them.
-- Assumes nothing.
use mathlib.Core.Path.{◌≡◌}
use Prim.Native.Nat.{◌+◌, ◌-◌, ◌/◌, ◌^◌}
use mathlib.Core.List.{◌++◌}
use lib.ListN.{take, drop}
use Rattle.numbers.specs.Integer.{low_bytes}
use Rattle.numbers.proofs.writing.write_low_bytes.Given as goal

abbrev pub invariant-loop-i : goal.invariant-loop-i
invariant-loop-i l = (l.rest ≡ l.value / 256 ^ (l.count - l.i)) × (l.buf ≡ take (l.place + l.i) l.initial.buf ++ (low_bytes (l.count - l.i) l.value ++ drop (l.place + l.count) l.initial.buf))
