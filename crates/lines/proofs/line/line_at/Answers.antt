-- `lines::line_at` meets its contract: the digits from the place on are the line's, so it is a frame's exactly if it ends where they do.
-- Assumes nothing.
use native.Mathlib.Omega.{arith}
use mathlib.Core.Path.{◌≡◌, refl}
use Prim.Native.Nat.{◌+◌, ◌*◌}
use lib.ListN.{length}
use Rattle.lines.specs.Hexadecimal.{most_bytes}
use Rattle.lines.proofs.There.{behind_digits, frame_of_line, frame_there, other_there, past_end, none_there}
use Rattle.lines.proofs.line.line_at.Goals as goal

pub returns-then-buf-place : goal.returns-then-buf-place
returns-then-buf-place c = let a = c.args in record { result_value = past_end a.ended a.buf.now a.place (omega arith); frame_after = refl }

pub line_end-requires : goal.line_end-requires
line_end-requires c =
    let a = c.args in
    let d = c.decode-bytes in
    record { place_le_digits = (omega arith, omega arith); buf_value = behind_digits a.buf.now a.place (omega arith) a.frame.now d.new.frame d.result d.ensures.frame_after d.ensures.value (a.place + 2 * d.result) (omega arith) }

pub returns-then-end-digits : goal.returns-then-end-digits
returns-then-end-digits c =
    let a = c.args in
    let d = c.decode-bytes in
    let g = c.in-Some.field-0 in
    let room : length a.frame.now ≡ most_bytes = omega arith in
    record { result_value = frame_there a.buf.now a.place (omega arith) a.frame.now d.new.frame d.result d.ensures.frame_after d.ensures.value a.ended g.end g.next c.in-Some.ensures (omega arith); frame_after = frame_of_line a.buf.now a.place (omega arith) a.frame.now d.new.frame d.result d.ensures.frame_after d.ensures.value room }

pub returns-else-end-digits : goal.returns-else-end-digits
returns-else-end-digits c =
    let a = c.args in
    let d = c.decode-bytes in
    let g = c.in-Some.field-0 in
    let room : length a.frame.now ≡ most_bytes = omega arith in
    record { result_value = other_there a.buf.now a.place (omega arith) a.frame.now d.new.frame d.result d.ensures.frame_after d.ensures.value a.ended g.end g.next c.in-Some.ensures (λ k. omega arith); frame_after = frame_of_line a.buf.now a.place (omega arith) a.frame.now d.new.frame d.result d.ensures.frame_after d.ensures.value room }

pub returns-in_default : goal.returns-in_default
returns-in_default c =
    let a = c.args in
    let d = c.decode-bytes in
    let room : length a.frame.now ≡ most_bytes = omega arith in
    record { result_value = none_there a.ended a.buf.now a.place (omega arith) c.in_default.ensures; frame_after = frame_of_line a.buf.now a.place (omega arith) a.frame.now d.new.frame d.result d.ensures.frame_after d.ensures.value room }
