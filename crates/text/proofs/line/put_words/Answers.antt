-- `text::put_words` meets its contract: the numbers, the word and the numbers are put with a space behind each, and the last space is made a newline; nothing is put unless all tests are passed.
-- Assumes nothing.
use native.Mathlib.Omega.{arith}
use Prim.Native.Nat.{◌-◌}
use mathlib.Core.Path.{refl}
use lib.ListN.{length}
use Rattle.text.specs.Text.{decimals}
use Rattle.text.proofs.Puts.{then}
use Rattle.text.proofs.Words.{line_in_two, newline, none_put, words_in_lem}
use Rattle.text.proofs.line.put_words.Goals as goal

pub returns-then-before-gt-MOST_NUMBERS-clause-wrote : goal.returns-then-before-gt-MOST_NUMBERS-clause-wrote
returns-then-before-gt-MOST_NUMBERS-clause-wrote c = let a = c.args in none_put a.before.now a.word.now a.after.now (λ few short behind room. grind arith)

pub returns-then-out-place-clause-wrote : goal.returns-then-out-place-clause-wrote
returns-then-out-place-clause-wrote c = let a = c.args in none_put a.before.now a.word.now a.after.now (λ few short behind room. grind arith)

pub returns-clause-wrote : goal.returns-clause-wrote
returns-clause-wrote c =
    let a = c.args in
    let next = c.put_numbers-next-2.result in
    let w = newline a.word.now (decimals a.after.now) (next - 1) (then c.put_word-next.ensures.wrote c.put_numbers-next-2.ensures.wrote) refl in
    rw (words_in_lem (length a.out.now) a.place a.before.now a.word.now a.after.now (omega arith) (omega arith) (omega arith) (omega arith), line_in_two (decimals a.before.now) a.word.now (decimals a.after.now)) (then c.put_numbers-next.ensures.wrote w)
