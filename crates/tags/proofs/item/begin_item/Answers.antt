-- `tags::begin_item` meets its contract: where `begin` left room for them, the first bytes are written into the rest of the buffer, and header and bytes are one write.
-- Assumes nothing.
use mathlib.Core.Path.{◌≡◌, ◌∙◌, ap, sym}
use Prim.Native.Nat.{ℕ, ◌+◌, ◌-◌}
use lib.ListN.{length}
use borrow.Rule.Slice.PartMut.{put_mid}
use native.Mathlib.Omega.{arith}
use Rattle.std.proofs.lemmas.Result.{err_from_is_err_and}
use Rattle.types.specs.Tag.{number_of}
use Rattle.types.specs.Answer.{accepted}
use Rattle.types.specs.Writing.{left}
use Rattle.numbers.specs.Integer.{low_bytes}
use Rattle.numbers.proofs.Low.{low_bytes_length}
use Rattle.tags.proofs.ByParts.{behind, first_room, rest_ends, rest_not_refused, rest_written, before_by_parts}
use Rattle.tags.proofs.item.begin_item.Goals as goal

pub returns-in_err-next : goal.returns-in_err-next
returns-in_err-next c =
    let a = c.args in
    let p = err_from_is_err_and c.from_residual.result c.from_residual.ensures.1 in
    rw (p.1, p.2)
    (ap (behind (low_bytes a.count a.head)) c.in_err-next.ensures
    ∙ sym (before_by_parts a.more _ (number_of a.number) (low_bytes a.count a.head) a.buf.now a.place (omega (arith, low_bytes_length a.count a.head))))

pub slice_bounds-write_low_bytes-count : goal.slice_bounds-write_low_bytes-count
slice_bounds-write_low_bytes-count c = let r = first_room _ _ _ _ _ _ c.in_ok-next.ensures in omega arith

pub slice_bounds-write_low_bytes-start : goal.slice_bounds-write_low_bytes-start
slice_bounds-write_low_bytes-start c = let r = first_room _ _ _ _ _ _ c.in_ok-next.ensures in omega arith

pub returns-in_err-write_low_bytes : goal.returns-in_err-write_low_bytes
returns-in_err-write_low_bytes c =
    let a = c.args in
    let r = first_room _ _ _ _ _ _ c.in_ok-next.ensures in
    let l = low_bytes_length a.count a.head in
    absurd (rest_not_refused 0 (low_bytes a.count a.head) c.begin.new.buf c.in_ok-next.next (omega arith) (omega arith, r.1) _ _ _ c.in_err-write_low_bytes.ensures)

pub overflow_add-result : goal.overflow_add-result
overflow_add-result c = let r = first_room _ _ _ _ _ _ c.in_ok-next.ensures in omega arith

pub returns : goal.returns
returns c =
    let a = c.args in
    let first = low_bytes a.count a.head in
    let r = first_room _ _ _ _ _ _ c.in_ok-next.ensures in
    let l = low_bytes_length a.count a.head in
    let ys = c.begin.new.buf in
    let next = c.in_ok-next.next in
    let w = c.in_ok-write_low_bytes.ensures in
    let ends : a.count ≡ _ = sym l ∙ sym (rest_ends 0 first ys next (omega arith) (omega arith, r.1) _ _ w) in
    ap (λ (n : ℕ). left (accepted tt (next + n)) (put_mid next (length ys - next) ys c.write_low_bytes.new.buf)) ends
    ∙ rest_written 0 first ys next (omega arith) (omega arith, r.1) _ _ w
    ∙ ap (behind first) c.in_ok-next.ensures
    ∙ sym (before_by_parts a.more _ (number_of a.number) first a.buf.now a.place (omega (arith, l)))
