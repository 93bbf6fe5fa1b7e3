-- `dump::put_line` meets its contract: in each arm it is known what stands at the place, and with it which text is put.
-- Assumes nothing.
use Rattle.std.proofs.Common.{arith, rules}
use mathlib.Core.Path.{◌∙◌, ap}
use lib.ListN.{drop}
use Rattle.lines.specs.Lines.{until_newline}
use Rattle.lines.proofs.There.{frame_told, other_told, none_told, never_refused, told_few}
use Rattle.dump.specs.declared.frame_text.FrameText.{FrameText}
use Rattle.dump.specs.Put.{text_put, line_left}
use Rattle.dump.proofs.LineTexts.{left_so, start_past_end, place_past_end, no_room_lem, no_line_lem, line_put, frame_text_lem, other_text}
use Rattle.dump.proofs.line.put_line.Goals.{in-Some-bytes, in-None}
use Rattle.dump.proofs.line.put_line.Goals as goal

pub returns-then-buf-start-clause-out_after : goal.returns-then-buf-start-clause-out_after
returns-then-buf-start-clause-out_after c = let a = c.args in start_past_end a.ended a.number a.buf.now a.start a.out.now a.place (omega arith)

pub returns-then-out-place-clause-out_after : goal.returns-then-out-place-clause-out_after
returns-then-out-place-clause-out_after c = let a = c.args in place_past_end a.ended a.number a.buf.now a.start a.out.now a.place (omega arith) (omega arith)

pub returns-then-out-place-lt-TEXT_ROOM-clause-out_after : goal.returns-then-out-place-lt-TEXT_ROOM-clause-out_after
returns-then-out-place-lt-TEXT_ROOM-clause-out_after c = let a = c.args in no_room_lem a.ended a.number a.buf.now a.start a.out.now a.place (omega arith) (omega arith) (omega arith)

pub returns-in_err-line-clause-out_after : goal.returns-in_err-line-clause-out_after
returns-in_err-line-clause-out_after c = let a = c.args in absurd (never_refused a.ended a.buf.now a.start (omega arith) _ _ c.in_err-line.ensures.result_value)

pub returns-in_default-clause-out_after : goal.returns-in_default-clause-out_after
returns-in_default-clause-out_after c =
    let a = c.args in
    let e = rw c.in_default.is at c.in_ok-line.ensures.result_value in
    no_line_lem a.ended a.number a.buf.now a.start a.out.now a.place (omega arith) (omega arith) (none_told a.ended a.buf.now a.start (omega arith) e)

pub shared_ref_as_front-put_frame : goal.shared_ref_as_front-put_frame
shared_ref_as_front-put_frame c =
    let a = c.args in
    let e = rw (c.in-Some.is, c.in-Some-bytes.is) at c.in_ok-line.ensures.result_value in
    told_few a.ended a.buf.now a.start (omega arith) (frame_told a.ended a.buf.now a.start (omega arith) c.in-Some-bytes.bytes c.in-Some.line.next e)

pub returns : goal.returns
returns c =
    let a = c.args in
    let t = c.line_at in
    let line = c.in-Some.line in
    let l = until_newline (drop a.start a.buf.now) in
    elim c.match-line.branch [
      | in-Some-bytes w ↦
          let g = w.in-Some-bytes in
          let e = rw (c.in-Some.is, g.is) at c.in_ok-line.ensures.result_value in
          let f = rw (c.in-Some.is, g.is) at c.in_ok-line.ensures.frame_after in
          let told = frame_told a.ended a.buf.now a.start (omega arith) g.bytes line.next e in
          let is = frame_text_lem a.number l a.frame.now t.new.frame g.bytes told.good told.counted f in
          let p = w.put_frame.ensures in
          let put = line_put a.ended a.number a.buf.now a.start a.out.now a.place (omega arith) (omega arith) told.end line.next w.put_frame.new.self.place w.put_frame.new.self.out.now _ told.ending is p.wrote p.upper_bound in
          record { out_after = left_so (ap (λ (t : FrameText). line_left (text_put line.next t.place) t.out.now) w.text-is ∙ put) (search rules); frame_after = f }
      | in-None w ↦
          let e = rw (c.in-Some.is, w.in-None.is) at c.in_ok-line.ensures.result_value in
          let f = rw (c.in-Some.is, w.in-None.is) at c.in_ok-line.ensures.frame_after in
          let told = other_told a.ended a.buf.now a.start (omega arith) line.next e in
          let p = w.put_refused.ensures in
          let put = line_put a.ended a.number a.buf.now a.start a.out.now a.place (omega arith) (omega arith) told.end line.next w.put_refused.new.self.place w.put_refused.new.self.out.now _ told.ending (other_text a.number l told.good) p.wrote (omega (arith, p.upper_bound)) in
          record { out_after = left_so (ap (λ (t : FrameText). line_left (text_put line.next t.place) t.out.now) w.text-is ∙ put) (search rules); frame_after = f }
    ]
