-- `numbers::copy` meets its contract. The loop's invariant: the first bytes are pasted.
-- Assumes nothing.
use native.Mathlib.Omega.{arith}
use mathlib.Core.Path.{◌≡◌, ◌∙◌}
use native.Mathlib.Numerals.{add-one}
use lib.ListN.{length}
use lib.Seq.{paste-zero, paste-suc}
use Rattle.numbers.proofs.Over.{paste_all}
use Rattle.numbers.proofs.writing.copy.Goals as goal

pub loop-i-init : goal.loop-i-init
loop-i-init c =
    let a = c.args in
    paste-zero a.buf.now a.place a.src.now

pub loop-i-preserved : goal.loop-i-preserved
loop-i-preserved c =
    let a = c.args in
    let i = c.loop-i.i in
    cc (add-one i, paste-suc a.buf.now a.place a.src.now i 0 (omega arith) (omega arith), c.loop-i.invariant)

pub returns : goal.returns
returns c =
    let a = c.args in
    let e : c.loop-i.i ≡ length a.src.now = omega arith in
    rw e at c.loop-i.invariant ∙ paste_all a.buf.now a.place a.src.now
