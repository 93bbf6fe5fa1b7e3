-- `headers::error`, which writes one, meets its contract: room is tested for all of it, and then the fixed bytes, the class and the code are written one behind the other.
-- Assumes nothing.
use native.Mathlib.Omega.{arith}
use borrow.Author.Rules.{rules}
use mathlib.Core.Path.{◌≡◌}
use Prim.Native.Nat.{◌+◌}
use Rattle.numbers.specs.Integer.{unsigned_length}
use Rattle.headers.proofs.Errors.{error_no_room, fixed_not_refused, class_not_refused, error_written}
use Rattle.headers.proofs.writing.error.Goals as goal

pub returns-in_err-room : goal.returns-in_err-room
returns-in_err-room c =
    let a = c.args in
    let l : 5 + c.unsigned_length.result + c.unsigned_length-2.result ≡ 5 + unsigned_length a.class + unsigned_length a.code = cc in
    let h = error_no_room a.id a.choice a.class a.code a.buf.now a.place c.requires (omega arith) (omega arith) _ l _ _ c.in_err-room.ensures in
    search (rules, h)

pub returns-in_err-behind : goal.returns-in_err-behind
returns-in_err-behind c =
    let a = c.args in
    let l : 5 + c.unsigned_length.result + c.unsigned_length-2.result ≡ 5 + unsigned_length a.class + unsigned_length a.code = cc in
    absurd (fixed_not_refused a.id a.choice a.class a.code a.buf.now a.place c.requires (omega arith) (omega arith) _ l _ c.in_ok-room.ensures _ _ _ (rw c.control.ensures.value at c.in_err-behind.ensures))

pub returns-in_err-next : goal.returns-in_err-next
returns-in_err-next c =
    let a = c.args in
    let l : 5 + c.unsigned_length.result + c.unsigned_length-2.result ≡ 5 + unsigned_length a.class + unsigned_length a.code = cc in
    absurd (class_not_refused a.id a.choice a.class a.code a.buf.now a.place c.requires (omega arith) (omega arith) _ l _ c.in_ok-room.ensures _ _ (rw c.control.ensures.value at c.in_ok-behind.ensures) _ _ _ c.in_err-next.ensures)

pub returns : goal.returns
returns c =
    let a = c.args in
    let l : 5 + c.unsigned_length.result + c.unsigned_length-2.result ≡ 5 + unsigned_length a.class + unsigned_length a.code = cc in
    error_written a.id a.choice a.class a.code a.buf.now a.place c.requires (omega arith) (omega arith) _ l _ c.in_ok-room.ensures _ _ (rw c.control.ensures.value at c.in_ok-behind.ensures) _ _ _ _ c.in_ok-next.ensures c.encode_application_enumerated-2.ensures
