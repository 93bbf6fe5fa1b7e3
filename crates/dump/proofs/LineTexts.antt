-- The text put for the line at a place, by what stands there, and the answers in their order.
-- Assumes nothing.
use mathlib.Core.Path.{◌≡◌, refl, ◌∙◌, ap, sym}
use mathlib.Core.Bool.{Bool, true, false}
use mathlib.Core.List.{List, append_assoc}
use Prim.Native.Nat.{ℕ, ◌+◌, ◌≤◌, ◌<◌}
use native.Mathlib.Omega.{arith}
use lib.ListN.{length, take, drop}
use lib.Seq.{sets-eq, take_at}
use borrow.Author.Tests.{lt-ltb, le-ltb}
use Rattle.types.specs.Refusal.{amount}
use Rattle.types.specs.Writing.{over}
use Rattle.lines.specs.Hexadecimal.{pairs, leading, is_frame}
use Rattle.lines.specs.Lines.{until_newline, line_ends, no_line, end_from}
use Rattle.lines.proofs.Digits.{frame_leading}
use Rattle.text.specs.Text.{Wrote}
use Rattle.dump.specs.Frame.{refused_line, frame_text}
use Rattle.dump.specs.Room.{text_room}
use Rattle.dump.specs.Put.{LineAnswer, LineLeft, text_of, text_put, none_ends, not_put, line_left, put_from}

-- the text of a frame's line is that of the bytes at the start of the lent frame
pub frame_text_lem : (number : ℕ) (l frame frame' : List ℕ) (bytes : ℕ) → is_frame l ≡ true → bytes ≡ length (pairs l) → frame' ≡ over frame 0 (leading l) → frame_text number (take bytes frame') ≡ text_of number l
unfolding text_of
frame_text_lem number l frame frame' bytes g n e =
    let b : leading l ≡ pairs l = frame_leading l g in
    let t : take bytes frame' ≡ pairs l = ap (take bytes) e ∙ take_at (leading l) (drop (0 + length (leading l)) frame) bytes (ap length b ∙ sym n) ∙ b in
    rw g (ap (frame_text number) t)

-- that of any other is 19
pub other_text : (number : ℕ) (l : List ℕ) → is_frame l ≡ false → refused_line number 19 ≡ text_of number l
unfolding text_of
other_text number l g = rw g refl

-- the answers, in their order
module _ (ended : Bool) (number : ℕ) (xs : List ℕ) (start : ℕ) (out : List ℕ) (place : ℕ) where
  pub start_past_end : length xs < start → line_left (not_put 2 (amount start)) out ≡ put_from ended number xs start out place
  unfolding put_from
  start_past_end h = simp (lt-ltb (length xs) start h)

  module _ (inside : start ≤ length xs) where
    pub place_past_end : length out < place → line_left (not_put 2 (amount place)) out ≡ put_from ended number xs start out place
    unfolding put_from
    place_past_end h = simp (le-ltb (length xs) start inside, lt-ltb (length out) place h)

    pub no_room_lem : place ≤ length out → length out < place + text_room → line_left (not_put 13 (amount text_room)) out ≡ put_from ended number xs start out place
    unfolding put_from
    no_room_lem h k = simp (le-ltb (length xs) start inside, le-ltb (length out) place h, lt-ltb (length out) (place + text_room) k)

    module _ (room : place + text_room ≤ length out) where
      pub no_line_lem : no_line ≡ end_from ended xs start → line_left none_ends out ≡ put_from ended number xs start out place
      unfolding put_from
      no_line_lem e = simp (le-ltb (length xs) start inside, le-ltb (length out) place (omega arith), le-ltb (length out) (place + text_room) room, sym e)

      pub line_put : (end next after : ℕ) (out' text : List ℕ) → line_ends end next ≡ end_from ended xs start → text ≡ text_of number (until_newline (drop start xs)) → Wrote out place text out' after → after ≤ place + text_room
          → line_left (text_put next after) out' ≡ put_from ended number xs start out place
      unfolding put_from
      line_put end next after out' text e is w h =
          let t : List ℕ = text_of number (until_newline (drop start xs)) in
          let n : after ≡ place + length t = w.after ∙ ap (λ (l : List ℕ). place + length l) is in
          let o : out' ≡ over out place t = w.buffer ∙ sets-eq text out place (omega (arith, w.after)) ∙ append_assoc (take place out) text (drop (place + length text) out) ∙ ap (over out place) is in
          simp (le-ltb (length xs) start inside, le-ltb (length out) place (omega arith), le-ltb (length out) (place + text_room) room, sym e, o, n)

-- the answer, where the buffer that is left is known
pub left_so : {a : LineAnswer} {xs ys : List ℕ} {l : LineLeft} → line_left a ys ≡ l → xs ≡ ys → line_left a xs ≡ l
left_so {a} e f = ap (line_left a) f ∙ e
