-- `apdu_dump::texts::Texts::write` ends: each write takes one byte at least.
-- Assumes nothing.
use Rattle.std.specs.Prelude.{length}
use Rattle.apdu_dump.proofs.texts.Texts.write.Given as goal

abbrev pub decreases-loop-rest : goal.decreases-loop-rest
decreases-loop-rest l = length l.rest
