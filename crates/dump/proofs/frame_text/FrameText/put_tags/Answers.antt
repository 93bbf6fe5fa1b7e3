-- `FrameText::put_tags` meets its contract: each turn puts the line of the walk's next tag, and the lines of what is left are still to come.
-- Assumes nothing.
use native.Mathlib.Omega.{arith}
use mathlib.Core.Path.{refl, ◌∙◌, ap}
use Rattle.std.specs.Prelude.{Ok}
use Rattle.std.proofs.lemmas.Result.{err_from_is_err_and}
use Rattle.walk.proofs.Steps.{step_inside, step_few, left_goes, left_passes, left_refused}
use Rattle.dump.proofs.Puts.{puts_length}
use Rattle.dump.proofs.Walking.{begins, goes_on, all_lines, all_counted, ends_so}
use Rattle.dump.proofs.frame_text.FrameText.put_tags.Goals as goal

pub loop-accepted-init : goal.loop-accepted-init
loop-accepted-init c = (omega arith, omega arith, omega arith, refl, refl, refl, omega arith, begins _ _ _ _ _ _)

pub put_tag-requires : goal.put_tag-requires
put_tag-requires c =
    let l = c.loop-accepted in
    let s = c.step in
    let is = c.in_ok-accepted.was ∙ ap Ok c.in-Some.is in
    let i = step_inside c.args.frame.now l.start l.blocks l.numbers s.new.numbers s.result s.ensures.result_after is in
    let f = step_few c.args.frame.now l.start l.blocks l.numbers s.new.numbers s.result s.ensures.result_after is l.invariant.2 in
    (omega (arith, i.1, i.2), omega (arith, f.0), omega (arith, i.1, i.2))

pub loop-accepted-smaller : goal.loop-accepted-smaller
loop-accepted-smaller c =
    let l = c.loop-accepted in
    let s = c.step in
    let i = step_inside c.args.frame.now l.start l.blocks l.numbers s.new.numbers s.result s.ensures.result_after (c.in_ok-accepted.was ∙ ap Ok c.in-Some.is) in
    omega (arith, i.1, i.2)

pub loop-accepted-preserved : goal.loop-accepted-preserved
loop-accepted-preserved c =
    let bytes = c.args.frame.now in
    let l = c.loop-accepted in
    let s = c.step in
    let t = c.in-Some.accepted in
    let p = c.put_tag.ensures in
    let is = c.in_ok-accepted.was ∙ ap Ok c.in-Some.is in
    let i = step_inside bytes l.start l.blocks l.numbers s.new.numbers s.result s.ensures.result_after is in
    let f = step_few bytes l.start l.blocks l.numbers s.new.numbers s.result s.ensures.result_after is l.invariant.2 in
    let goes = left_goes bytes l.start l.blocks l.numbers s.new.numbers s.result s.ensures.result_after is in
    (i.2, omega (arith, i.1), f.1, p.same_number ∙ l.invariant.3, p.same_buffer ∙ l.invariant.4, puts_length p ∙ l.invariant.5, omega (arith, i.1, p.upper_bound), goes_on l.invariant.7 goes (rw l.invariant.3 at p.wrote))

pub returns-in_err-accepted : goal.returns-in_err-accepted
returns-in_err-accepted c =
    let l = c.loop-accepted in
    let s = c.step in
    let e = left_refused c.args.frame.now l.start l.blocks l.numbers s.new.numbers s.result s.ensures.result_after c.in_err-accepted.was in
    let p = err_from_is_err_and c.from_residual.result c.from_residual.ensures.1 in
    rw (p.1, p.2)
    (record {
      lines = record { wrote = all_lines l.invariant.7 e; upper_bound = omega arith; same_number = l.invariant.3; same_buffer = l.invariant.4 };
      ends = ends_so l.invariant.7 e;
    })

pub returns : goal.returns
returns c =
    let l = c.loop-accepted in
    let s = c.step in
    let e = left_passes c.args.frame.now l.start l.blocks l.numbers s.new.numbers s.result s.ensures.result_after (c.in_ok-accepted.was ∙ ap Ok c.in_default.is) in
    record {
      lines = record { wrote = all_lines l.invariant.7 e; upper_bound = omega arith; same_number = l.invariant.3; same_buffer = l.invariant.4 };
      ends = (all_counted l.invariant.7 e, ends_so l.invariant.7 e);
    }
