-- `tags::encode_item` meets its contract: where `begin_item` left room for them, the lent bytes are written into the rest of the buffer, and first and lent ones are one write.
-- Assumes nothing.
use mathlib.Core.Path.{◌∙◌, ap, sym}
use Prim.Native.Nat.{ℕ, ◌+◌, ◌-◌}
use borrow.Rule.Slice.PartMut.{put_mid}
use native.Mathlib.Omega.{arith}
use lib.ListN.{length}
use Rattle.std.proofs.lemmas.Result.{err_from_is_err_and}
use Rattle.types.specs.Tag.{number_of}
use Rattle.types.specs.Answer.{accepted}
use Rattle.types.specs.Writing.{left}
use Rattle.numbers.specs.Integer.{low_bytes}
use Rattle.tags.proofs.ByParts.{behind, lent_room, rest_ends, rest_not_refused, rest_written, lent_by_parts}
use Rattle.tags.proofs.item.encode_item.Goals as goal

pub returns-in_err-next : goal.returns-in_err-next
returns-in_err-next c =
    let a = c.args in
    let p = err_from_is_err_and c.from_residual.result c.from_residual.ensures.1 in
    rw (p.1, p.2)
    (ap (behind a.lent.now) c.in_err-next.ensures
    ∙ sym (lent_by_parts (number_of a.number) (low_bytes a.count a.head) a.lent.now a.buf.now a.place c.if-lent-gt65535.false))

pub slice_bounds-extend_from_slice-count : goal.slice_bounds-extend_from_slice-count
slice_bounds-extend_from_slice-count c = let r = lent_room _ _ _ _ _ _ _ c.in_ok-next.ensures in omega arith

pub slice_bounds-extend_from_slice-start : goal.slice_bounds-extend_from_slice-start
slice_bounds-extend_from_slice-start c = let r = lent_room _ _ _ _ _ _ _ c.in_ok-next.ensures in omega arith

pub returns-in_err-extend_from_slice : goal.returns-in_err-extend_from_slice
returns-in_err-extend_from_slice c =
    let lent = c.args.lent.now in
    absurd (rest_not_refused (length lent) lent _ c.in_ok-next.next c.if-lent-gt65535.false (lent_room _ _ _ _ _ _ _ c.in_ok-next.ensures) _ _ _ c.in_err-extend_from_slice.ensures)

pub overflow_add-result : goal.overflow_add-result
overflow_add-result c = let r = lent_room _ _ _ _ _ _ _ c.in_ok-next.ensures in omega arith

pub returns : goal.returns
returns c =
    let a = c.args in
    let small = c.if-lent-gt65535.false in
    let room = lent_room _ _ _ _ _ _ _ c.in_ok-next.ensures in
    let ys = c.begin_item.new.buf in
    let next = c.in_ok-next.next in
    let w = c.in_ok-extend_from_slice.ensures in
    ap (λ (n : ℕ). left (accepted tt (next + n)) (put_mid next (length ys - next) ys c.extend_from_slice.new.buf)) (sym (rest_ends (length a.lent.now) a.lent.now ys next small room _ _ w))
    ∙ rest_written (length a.lent.now) a.lent.now ys next small room _ _ w
    ∙ ap (behind a.lent.now) c.in_ok-next.ensures
    ∙ sym (lent_by_parts (number_of a.number) (low_bytes a.count a.head) a.lent.now a.buf.now a.place small)
