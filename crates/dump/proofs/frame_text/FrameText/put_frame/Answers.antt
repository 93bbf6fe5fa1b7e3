-- `FrameText::put_frame` meets its contract: in each arm the header's answer is known; its line is put, and behind it the walk's text or that there are no tags.
-- Assumes nothing.
use native.Mathlib.Omega.{arith}
use mathlib.Core.Path.{refl, sym, ◌∙◌}
use Rattle.headers.specs.Header.{header_of}
use Rattle.headers.proofs.Exactly.{moves_on}
use Rattle.dump.specs.Frame.{frame_text}
use Rattle.dump.proofs.Puts.{puts_length, puts_then, puts_within}
use Rattle.dump.proofs.frame_text.FrameText.put_frame.Goals as goal

pub put_walk-requires : goal.put_walk-requires
put_walk-requires c =
    let g = c.in-Ok in
    let p = c.put_header.ensures in
    let m = moves_on c.args.frame.now 0 (header_of g.header) g.body (sym g.ensures) in
    (omega arith, m.1, omega (arith, p.upper_bound, puts_length p))

pub put_ok-requires : goal.put_ok-requires
put_ok-requires c = let p = c.put_header.ensures in omega (arith, p.upper_bound, puts_length p)

pub returns-then-has_tags : goal.returns-then-has_tags
unfolding frame_text
returns-then-has_tags c =
    let p = c.put_header.ensures in
    rw (sym c.in-Ok.ensures, sym c.has_tags.ensures ∙ c.if-has_tags.true) (puts_then p c.put_walk.ensures (rw p.same_number refl) (omega arith))

pub returns-else-has_tags : goal.returns-else-has_tags
unfolding frame_text
returns-else-has_tags c =
    let p = c.put_header.ensures in
    rw (sym c.in-Ok.ensures, sym c.has_tags.ensures ∙ c.if-has_tags.false) (puts_then p c.put_ok.ensures (rw p.same_number refl) (omega arith))

pub returns-in-Err : goal.returns-in-Err
unfolding frame_text
returns-in-Err c = rw (sym c.in-Err.ensures) (puts_within c.put_refused.ensures (omega arith))
