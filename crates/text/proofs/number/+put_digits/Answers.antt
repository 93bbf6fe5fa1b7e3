-- `text::put_digits` meets its contract: one digit, or the digits before the last and then the last. The number falls.
-- Assumes nothing.
use Rattle.text.proofs.Decimal.{decimal_one, decimal_more}
use Rattle.text.proofs.Puts.{then, one}
use Rattle.text.specs.Text.{decimal}
use lib.ListN.{length, length-append}
use native.Mathlib.Omega.{arith}
use Prim.Native.Nat.{◌+◌, ◌/◌, ◌%◌, ◌^◌, ◌<◌}
use mathlib.Core.List.{[], ◌∷◌}
use mathlib.Core.Path.{refl, ap}
use Rattle.text.proofs.number.+put_digits.Goals as goal

pub bounds-out-place : goal.bounds-out-place
bounds-out-place t c = omega (arith, c.requires, ap length (decimal_one c.args.n c.if-n-lt10.true))

pub returns-then-n-lt10 : goal.returns-then-n-lt10
returns-then-n-lt10 t c = let a = c.args in rw (decimal_one a.n c.if-n-lt10.true) (one a.out.now a.place (48 + a.n) refl)

pub put_digits-last-requires : goal.put_digits-last-requires
put_digits-last-requires t c =
    let a = c.args in
    let h : a.n < 10 ^ 20 = omega arith in
    let e = decimal_more a.n c.if-n-lt10.false h in
    (omega arith, omega (arith, c.requires, ap length e, length-append (decimal (a.n / 10)) ((48 + a.n % 10) ∷ [])))

pub bounds-out-last : goal.bounds-out-last
bounds-out-last t c =
    let a = c.args in
    let h : a.n < 10 ^ 20 = omega arith in
    let e = decimal_more a.n c.if-n-lt10.false h in
    omega (arith, c.requires, ap length e, length-append (decimal (a.n / 10)) ((48 + a.n % 10) ∷ []), c.put_digits-last.ensures.after)

pub overflow_add-result-2 : goal.overflow_add-result-2
overflow_add-result-2 t c =
    let a = c.args in
    let h : a.n < 10 ^ 20 = omega arith in
    let e = decimal_more a.n c.if-n-lt10.false h in
    omega (arith, c.requires, ap length e, length-append (decimal (a.n / 10)) ((48 + a.n % 10) ∷ []), c.put_digits-last.ensures.after)

pub returns : goal.returns
returns t c =
    let a = c.args in
    let h : a.n < 10 ^ 20 = omega arith in
    rw (decimal_more a.n c.if-n-lt10.false h) (then c.put_digits-last.ensures (one c.put_digits-last.new.out c.put_digits-last.result (48 + a.n % 10) refl))
