-- `apdu_dump::run` is safe: each read numbers no more lines than it has bytes, and the reads are counted.
-- Assumes nothing.
use Rattle.std.proofs.Common.{◌+◌, ◌*◌, ◌≤◌}
use Rattle.apdu_dump.proofs.run.Given as goal

abbrev pub invariant-loop : goal.invariant-loop
invariant-loop l = l.on.number ≤ 1 + l.counter * 65536
