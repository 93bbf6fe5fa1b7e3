-- `numbers::write_low_bytes` meets its contract. The loop's invariant: the last bytes are written, and the rest of the number is what stands above them.
-- Assumes nothing.
use native.Mathlib.Omega.{arith}
use mathlib.Core.Path.{◌≡◌, ap, ◌∙◌, sym}
use Prim.Native.Nat.{ℕ, ◌+◌, ◌-◌, ◌/◌}
use native.Mathlib.Nat.{div-one}
use lib.ListN.{drop}
use Rattle.types.specs.Writing.{can}
use Rattle.numbers.proofs.Inside.{room_inside}
use Rattle.numbers.proofs.Wrote.{accepted_stored}
use Rattle.numbers.proofs.Low.{low_bytes_length, rest_more}
use Rattle.numbers.proofs.Over.{none_written, byte_written, all_written}
use Rattle.numbers.proofs.writing.write_low_bytes.Goals as goal

pub loop-i-init : goal.loop-i-init
loop-i-init c =
    let a = c.args in
    let e : a.count - a.count ≡ 0 = omega arith in
    (rw e (sym (div-one a.value)), rw e (none_written a.buf.now (a.place + a.count)))

pub loop-i-preserved : goal.loop-i-preserved
loop-i-preserved c =
    let a = c.args in
    let l = c.loop-i in
    let h = room_inside 0 can _ _ _ _ c.in_ok-next.ensures in
    let k : ℕ = a.count - l.i in
    let e : a.place + l.i ≡ a.place + (l.i - 1) + 1 = omega arith in
    let f : a.count - (l.i - 1) ≡ k + 1 = omega arith in
    (rw f (ap (λ (x : ℕ). x / 256) l.invariant.0 ∙ rest_more k a.value), rw (l.invariant.1, l.invariant.0, f) (byte_written a.buf.now (a.place + l.i) (a.place + (l.i - 1)) k a.value (drop (a.place + a.count) a.buf.now) e (omega arith)))

pub returns : goal.returns
returns c =
    let a = c.args in
    let e : c.loop-i.i ≡ 0 = omega arith in
    let f : a.count - 0 ≡ a.count = omega arith in
    accepted_stored 0 can _ _ _ _ _ _ (sym c.in_ok-next.ensures) (low_bytes_length _ _) (rw (c.loop-i.invariant.1, e, f) (all_written a.buf.now a.place a.count a.value))
