-- `text::put_numbers` meets its contract: each turn puts one number more and a space, and the others are still to come.
-- Assumes nothing.
use native.Mathlib.Omega.{arith}
use Rattle.text.proofs.Words.{number_more, numbers_all}
use Rattle.text.proofs.line.put_numbers.Goals as goal

pub loop-number-preserved : goal.loop-number-preserved
loop-number-preserved c = let l = c.loop-number in (omega arith, omega arith, number_more c.args.numbers.now l.number-index l.invariant.2 (omega arith) c.put_number-next.ensures.wrote)

pub returns-clause-wrote : goal.returns-clause-wrote
returns-clause-wrote c = numbers_all c.args.numbers.now c.loop-number.number-index c.loop-number.invariant.2 (omega arith)
