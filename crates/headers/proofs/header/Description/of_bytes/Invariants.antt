-- `headers::of_bytes` meets its contract: each turn puts one byte more, and the rest are still 0.
-- Assumes nothing.
use Rattle.std.proofs.Common.{◌≡◌, take}
use Rattle.types.specs.Padded.{padded}
use Rattle.headers.proofs.header.Description.of_bytes.Given as goal

abbrev pub invariant-loop-i : goal.invariant-loop-i
invariant-loop-i l = l.fields ≡ padded 4 (take l.i l.bytes)
