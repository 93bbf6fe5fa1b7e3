-- Document 01's number for each answer of the check, and what it carries.
-- Assumes nothing.
use Rattle.types.specs.Refusal.{amount}
use Rattle.types.specs.Answer.{Outcome, passed, stopped}
use Rattle.utf8.specs.Check.{Verdict, good, bad_at}

-- a text that is not UTF-8 is refused 10, carrying the first bad place
abbrev pub text_outcome : Verdict → Outcome
text_outcome good = passed
text_outcome (bad_at place) = stopped 10 (amount place)
