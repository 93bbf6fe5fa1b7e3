-- `text::put_number` meets its contract: the digits, one to four or as many as there are, and the byte behind them.
-- Assumes nothing.
use Rattle.text.proofs.Decimal.{decimal_one, decimal_two, decimal_three, decimal_four, decimal_most}
use Rattle.text.proofs.Puts.{then, one, two, ended}
use Rattle.text.specs.Text.{decimal}
use lib.ListN.{length, length-set}
use native.Mathlib.Omega.{arith}
use Prim.Native.Nat.{◌+◌, ◌/◌, ◌^◌, ◌<◌, ◌≤◌}
use mathlib.Core.Path.{refl}
use Rattle.text.proofs.number.put_number.Goals as goal

pub bounds-out-place-then-n-lt10 : goal.bounds-out-place-then-n-lt10
bounds-out-place-then-n-lt10 c = simp length-set (omega arith)

pub returns-then-n-lt10 : goal.returns-then-n-lt10
returns-then-n-lt10 c =
    let a = c.args in
    record { wrote = rw (decimal_one a.n c.if-n-lt10.true) (two a.out.now a.place (48 + a.n) 32); upper_bound = omega arith }

pub returns-then-n-lt100 : goal.returns-then-n-lt100
returns-then-n-lt100 c =
    let a = c.args in
    record { wrote = rw (decimal_two a.n c.if-n-lt10.false c.if-n-lt100.true) (ended (a.place + 2) 32 c.put_two.ensures refl (omega arith)); upper_bound = omega arith }

pub put_two-requires-then-n-lt1000 : goal.put_two-requires-then-n-lt1000
put_two-requires-then-n-lt1000 c = (simp length-set (omega arith), omega arith)

pub bounds-out-place-then-n-lt1000-2 : goal.bounds-out-place-then-n-lt1000-2
bounds-out-place-then-n-lt1000-2 c = let a = c.args in omega (arith, length-set a.out.now a.place (48 + a.n / 100))

pub returns-then-n-lt1000 : goal.returns-then-n-lt1000
returns-then-n-lt1000 c =
    let a = c.args in
    record { wrote = rw (decimal_three a.n c.if-n-lt100.false c.if-n-lt1000.true) (ended (a.place + 3) 32 (then (one a.out.now a.place (48 + a.n / 100) refl) c.put_two-then-n-lt1000.ensures) (omega arith) (omega arith)); upper_bound = omega arith }

pub returns-then-n-lt10000 : goal.returns-then-n-lt10000
returns-then-n-lt10000 c =
    let a = c.args in
    record { wrote = rw (decimal_four a.n c.if-n-lt1000.false c.if-n-lt10000.true) (ended (a.place + 4) 32 (then c.put_two-then-n-lt10000.ensures c.put_two-then-n-lt10000-2.ensures) (omega arith) (omega arith)); upper_bound = omega arith }

pub put_digits-next-requires : goal.put_digits-next-requires
put_digits-next-requires c =
    let most : length (decimal c.args.n) ≤ 20 = let h : c.args.n < 10 ^ 20 = omega arith in decimal_most 19 c.args.n h in
    omega (arith, most)

pub bounds-out-next : goal.bounds-out-next
bounds-out-next c =
    let most : length (decimal c.args.n) ≤ 20 = let h : c.args.n < 10 ^ 20 = omega arith in decimal_most 19 c.args.n h in
    omega (arith, most, c.put_digits-next.ensures.after)

pub overflow_add-result-2 : goal.overflow_add-result-2
overflow_add-result-2 c =
    let most : length (decimal c.args.n) ≤ 20 = let h : c.args.n < 10 ^ 20 = omega arith in decimal_most 19 c.args.n h in
    omega (arith, most, c.put_digits-next.ensures.after)

pub returns : goal.returns
returns c =
    let most : length (decimal c.args.n) ≤ 20 = let h : c.args.n < 10 ^ 20 = omega arith in decimal_most 19 c.args.n h in
    record { wrote = ended _ 32 c.put_digits-next.ensures refl refl; upper_bound = omega (arith, most, c.put_digits-next.ensures.after) }
