-- No two answers of the check are the same on paper, so its promise admits a single one.
-- Assumes nothing.
use Rattle.std.specs.Prelude.{◌≡◌, Result}
use Rattle.types.specs.declared.refusal.Refusal.{Refusal}
use Rattle.types.specs.Answer.{paper_outcome}
use Rattle.types.proofs.Single.{single_outcome}

-- two answers that say the same on paper are one: the promise admits a single answer
pub single_checked : (a b : Result (Unit {0}) Refusal) → paper_outcome a ≡ paper_outcome b → a ≡ b
single_checked = single_outcome
