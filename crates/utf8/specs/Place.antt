-- About the code alone: what the place that it finds, or none, says of the text. No promise to a caller cites this.
-- Assumes nothing.
use Rattle.std.specs.Prelude.{ℕ, Option, Some, None}
use Rattle.utf8.specs.Check.{Verdict, good, bad_at}

-- the check's answer, by the first bad place that there may be
abbrev pub verdict_of : Option ℕ → Verdict
verdict_of None = good
verdict_of (Some place) = bad_at place
