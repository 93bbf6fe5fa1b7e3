-- `lines::decode` meets its contract: each turn stores the byte of one pair more, and it ends where no pair follows or the frame is full.
-- Assumes nothing.
use Prim.Native.Nat.{◌+◌}
use lib.ListN.{length}
use mathlib.Core.Path.{◌≡◌}
use Rattle.lines.specs.Hexadecimal.{most_bytes}
use Rattle.lines.proofs.Decoding.{Decoding}
use Rattle.lines.proofs.hexadecimal.decode.Given as goal

abbrev pub invariant-loop-count : goal.invariant-loop-count
invariant-loop-count l = (length l.frame ≡ most_bytes) × Decoding l.digits 0 l.initial.frame l.frame l.count (l.count + l.count)
