-- `FrameText::put_walk` meets its contract: the lines of the tags are put, and behind them the line of how the walk ends.
-- Assumes nothing.
use native.Mathlib.Omega.{arith}
use mathlib.Core.Path.{refl}
use Rattle.dump.proofs.Puts.{puts_length, puts_then}
use Rattle.dump.proofs.frame_text.FrameText.put_walk.Goals as goal

pub put_ok-requires : goal.put_ok-requires
put_ok-requires c = let p = c.put_tags.ensures.lines in omega (arith, p.upper_bound, puts_length p)

pub put_refused-requires : goal.put_refused-requires
put_refused-requires c = let p = c.put_tags.ensures.lines in omega (arith, p.upper_bound, puts_length p)

pub returns-in-Ok : goal.returns-in-Ok
returns-in-Ok c =
    let p = c.put_tags.ensures.lines in
    let e = c.in-Ok.ensures.ends in
    puts_then p c.put_ok.ensures (rw (p.same_number, e.0, e.1) refl) (omega arith)

pub returns-in-Err : goal.returns-in-Err
returns-in-Err c =
    let p = c.put_tags.ensures.lines in
    puts_then p c.put_refused.ensures (rw (p.same_number, c.in-Err.ensures.ends) refl) (omega arith)
