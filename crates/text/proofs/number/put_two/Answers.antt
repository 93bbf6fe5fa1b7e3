-- `text::put_two` meets its contract: a number below 100 has these two digits.
-- Assumes nothing.
use Rattle.text.proofs.Decimal.{two_digits}
use Rattle.text.proofs.Puts.{two}
use lib.ListN.{length-set}
use Prim.Native.Nat.{◌+◌, ◌/◌, ◌%◌}
use native.Mathlib.Omega.{arith}
use Rattle.text.proofs.number.put_two.Goals as goal

pub bounds-out-place-2 : goal.bounds-out-place-2
bounds-out-place-2 c = simp length-set (omega arith)

pub returns : goal.returns
returns c =
    let a = c.args in
    rw (two_digits a.n c.requires.1) (two a.out.now a.place (48 + a.n / 10) (48 + a.n % 10))
