-- The text of a line: that of the frame whose bytes its digits spell, no more digits than a frame has; and 19 for any other line.
-- Assumes nothing.
use mathlib.Core.Path.{◌≡◌, refl}
use mathlib.Core.Bool.{Bool, true, false}
use mathlib.Core.List.{List}
use Prim.Native.Nat.{ℕ, ◌≤◌}
use lib.ListN.{length}
use Rattle.lines.specs.Hexadecimal.{most_digits, Spells, pairs, is_frame}
use Rattle.lines.proofs.Spelled.{frame_spelled, spelled_frame}
use Rattle.dump.specs.Frame.{refused_line, frame_text}
use Rattle.dump.specs.Put.{text_by, text_of}

-- the text of a line that spells a frame is that of the frame
pub text_of_frame : (number : ℕ) {l bytes : List ℕ} → length l ≤ most_digits → Spells l bytes → text_of number l ≡ frame_text number bytes
unfolding text_of
text_of_frame number h s = let w = spelled_frame h s in rw (w.0, w.1) refl

text_by_no_frame : (number : ℕ) (l : List ℕ) → ((bytes : List ℕ) → length l ≤ most_digits → Spells l bytes → ⊥) → (t : Bool) → is_frame l ≡ t → text_by t number (pairs l) ≡ refused_line number 19
text_by_no_frame number l never true e = let w = frame_spelled l e in absurd (never (pairs l) w.0 w.1)
text_by_no_frame number l never false e = refl

-- and any other line is refused 19
pub text_of_other : (number : ℕ) (l : List ℕ) → ((bytes : List ℕ) → length l ≤ most_digits → Spells l bytes → ⊥) → text_of number l ≡ refused_line number 19
unfolding text_of
text_of_other number l never = text_by_no_frame number l never (is_frame l) refl
