-- `apdu_dump::texts::Texts::put_lines` is safe, ends, and makes its calls as `Calls` has them: each text put leads to a later line, and a line is refused for want of room alone, so that text waits, which is written.
-- Assumes nothing.
use Rattle.std.proofs.Common.{◌+◌, ◌-◌, ◌≤◌, min, length}
use Rattle.apdu_dump.proofs.Led.{Leads}
use Rattle.apdu_dump.proofs.texts.Texts.put_lines.Given as goal

abbrev pub invariant-loop-start : goal.invariant-loop-start
invariant-loop-start l = (l.start ≤ length l.buf) × (l.number ≤ l.first + l.start) × Leads l.buf l.ended l.first l.start l.number

abbrev pub decreases-loop-start : goal.decreases-loop-start
decreases-loop-start l = length l.buf - l.start + (length l.buf - l.start) + min l.self.waiting 1
