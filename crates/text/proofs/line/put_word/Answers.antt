-- `text::put_word` meets its contract: the word is stored as a whole, and the space behind it.
-- Assumes nothing.
use native.Mathlib.Omega.{arith}
use mathlib.Core.Path.{refl}
use Rattle.text.proofs.Puts.{ended, whole}
use Rattle.text.proofs.line.put_word.Goals as goal

pub returns-clause-wrote : goal.returns-clause-wrote
returns-clause-wrote c = let a = c.args in ended _ 32 (whole a.word.now a.out.now a.place c.copy_from_slice.new.self (omega arith) c.copy_from_slice.ensures.after) refl refl
