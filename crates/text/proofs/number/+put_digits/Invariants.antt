-- `text::put_digits` meets its contract: one digit, or the digits before the last and then the last. The number falls.
-- Assumes nothing.
use Rattle.text.proofs.number.+put_digits.Given as goal

abbrev pub decreases-put_digits : goal.decreases-put_digits
decreases-put_digits l = l.n
