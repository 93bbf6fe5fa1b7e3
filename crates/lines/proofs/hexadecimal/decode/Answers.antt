-- `lines::decode` meets its contract: each turn stores the byte of one pair more, and it ends where no pair follows or the frame is full.
-- Assumes nothing.
use Rattle.std.proofs.Common.{◌≡◌, ◌+◌, ◌<◌, ◌∙◌, refl, sym, ap, arith, length-set}
use Rattle.std.proofs.lemmas.List.{length-take}
use Rattle.lines.specs.Hexadecimal.{pairs}
use Rattle.lines.proofs.Decoding.{one_more_decoded, no_pair_left, none_left, all_decoded, pair_taken}
use Rattle.lines.proofs.hexadecimal.decode.Goals as goal

pub returns-in_default : goal.returns-in_default
returns-in_default c =
    let digits = c.args.digits.now in
    let l = c.loop-count in
    let p = pair_taken digits c.as_chunks.result.0.now c.min-most.result l.count c.as_chunks.ensures.front c.loop-count-test.true in
    let w = all_decoded digits 0 c.args.frame.now l.frame l.count (l.count + l.count) l.invariant.1 (no_pair_left digits l.count (l.count + l.count) (c.in_default.ensures ∙ ap pairs p)) in
    record { value = w.0; frame_after = w.1.0; result_in_bounds = (omega arith, omega arith) }

pub loop-count-preserved : goal.loop-count-preserved
loop-count-preserved c =
    let digits = c.args.digits.now in
    let l = c.loop-count in
    let p = pair_taken digits c.as_chunks.result.0.now c.min-most.result l.count c.as_chunks.ensures.front c.loop-count-test.true in
    let few : l.count < c.min-most.result = omega (arith, length-take c.min-most.result c.as_chunks.result.0.now) in
    let next : l.count + l.count + 2 ≡ l.count + 1 + (l.count + 1) = omega arith in
    (simp length-set (omega arith), rw next at (one_more_decoded digits 0 c.args.frame.now l.frame l.count (l.count + l.count) c.in-Some.byte l.invariant.1 (omega arith) (omega arith) (c.in-Some.ensures ∙ ap pairs p)))

pub returns : goal.returns
returns c =
    let digits = c.args.digits.now in
    let l = c.loop-count in
    let all : l.count ≡ c.min-most.result = omega (arith, length-take c.min-most.result c.as_chunks.result.0.now) in
    let w = all_decoded digits 0 c.args.frame.now l.frame l.count (l.count + l.count) l.invariant.1 (none_left digits l.count (l.count + l.count) refl (omega arith)) in
    record { value = sym all ∙ w.0; frame_after = w.1.0; result_in_bounds = (omega arith, omega arith) }
