-- `lines::keep` meets its contract: what is moved is the start of what stands behind the place, and what stands behind it at the buffer's start is not changed.
-- Assumes nothing.
use native.Mathlib.Omega.{arith}
use Rattle.lines.proofs.Moved.{kept_all, none_kept_past_the_end}
use Rattle.lines.proofs.kept.keep.Goals as goal

pub returns-then-buf-place : goal.returns-then-buf-place
returns-then-buf-place c = let a = c.args in let w = none_kept_past_the_end a.buf.now a.place (omega arith) in record { value = w.0; buf_after = w.1 }

pub returns : goal.returns
returns c = let a = c.args in let w = kept_all a.buf.now c.copy_within.new.self a.place c.min-count.result (omega arith) (omega arith) c.copy_within.ensures.after in record { value = w.0; buf_after = w.1 }
