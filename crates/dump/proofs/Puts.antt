-- Parts of a frame's text put one behind the other.
-- Assumes nothing.
use mathlib.Core.Path.{◌≡◌, ◌∙◌, ap}
use mathlib.Core.List.{List, ◌++◌}
use Prim.Native.Nat.{ℕ, ◌+◌, ◌≤◌}
use native.Mathlib.Omega.{arith}
use lib.ListN.{length}
use lib.Seq.{length-sets}
use Rattle.text.proofs.Puts.{then}
use Rattle.dump.specs.declared.frame_text.FrameText.{FrameText}
use Rattle.dump.specs.Puts.{Puts}

-- the buffer keeps its length
pub puts_length : {old new : FrameText} {bytes : List ℕ} {room : ℕ} → Puts old new bytes room → length new.out.now ≡ length old.out.now
puts_length {old} {new} {bytes} p = ap length p.wrote.buffer ∙ length-sets old.out.now old.place bytes

-- one part, then another, which together are a text
pub puts_then : {old mid new : FrameText} {a b text : List ℕ} {m n room : ℕ} → Puts old mid a m → Puts mid new b n → a ++ b ≡ text → m + n ≤ room → Puts old new text room
puts_then p q e h = record { wrote = rw e at (then p.wrote q.wrote); upper_bound = omega (arith, p.upper_bound, q.upper_bound); same_number = q.same_number ∙ p.same_number; same_buffer = q.same_buffer ∙ p.same_buffer }

-- less than there is room for
pub puts_within : {old new : FrameText} {text : List ℕ} {n room : ℕ} → Puts old new text n → n ≤ room → Puts old new text room
puts_within p h = record { wrote = p.wrote; upper_bound = omega (arith, p.upper_bound); same_number = p.same_number; same_buffer = p.same_buffer }
