-- About the code alone: what putting a part of a frame's text leaves. No promise to a caller cites this.
-- Assumes nothing.
use Rattle.std.specs.Prelude.{◌≡◌, List, ℕ, ◌+◌, ◌≤◌, length, Result, Ok, Err}
use Rattle.types.specs.Refusal.{table}
use Rattle.types.specs.Answer.{passed, stopped}
use Rattle.types.specs.declared.refusal.Refusal.{Refusal}
use Rattle.walk.specs.Walk.{Walk}
use Rattle.text.specs.Text.{Wrote}
use Rattle.dump.specs.declared.frame_text.FrameText.{FrameText}
use Rattle.dump.specs.Frame.{tag_lines}

-- room for so many bytes behind what is put
abbrev pub HasRoom : FrameText → ℕ → Type 0
HasRoom text room = text.place + room ≤ length text.out.now

-- these bytes were put behind what was put before, no more than so many, into the same buffer and under the same number
pub record Puts (old new : FrameText) (bytes : List ℕ) (room : ℕ) : Type 0 where
  pub wrote : Wrote old.out.now old.place bytes new.out.now new.place
  pub upper_bound : new.place ≤ old.place + room
  pub same_number : new.number ≡ old.number
  pub same_buffer : new.out.ghost_name ≡ old.out.ghost_name

-- how a walk ends that has accepted so many tags
abbrev pub EndsSo : Result ℕ Refusal → Walk → Type 0
EndsSo (Ok tags) w = (tags ≡ length w.tags) × (w.outcome ≡ passed)
EndsSo (Err r) w = w.outcome ≡ stopped (table r).number (table r).carries

-- the lines of all its tags were put, and how it ends is told
pub record AllButOutcome (old new : FrameText) (w : Walk) (told : Result ℕ Refusal) (room : ℕ) : Type 0 where
  pub lines : Puts old new (tag_lines old.number w.tags) room
  pub ends : EndsSo told w
