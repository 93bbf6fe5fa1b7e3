-- About the code alone: the bytes of the struct that a frame is read into, and what putting its part leaves. No promise to a caller cites this.
-- Assumes nothing.
use Rattle.std.specs.Prelude.{ℕ, List, length, nat_lt}
use Rattle.types.specs.Choice.{if}
use Rattle.types.specs.Refusal.{amount}
use Rattle.types.specs.Answer.{refused}
use Rattle.types.specs.Writing.{Left, left, can, writing}
use Rattle.segments.specs.declared.segment.Segment.{Segment}

-- the bytes of the program's segment, the whole frame
abbrev pub segment_bytes : Segment → List ℕ
segment_bytes s = s.frame.now

-- a part put behind so many bytes held: where more are held than the buffer has there is no room, and else it is a write
abbrev pub put_into : (held : ℕ) → List ℕ → List ℕ → Left
put_into held part xs = if (nat_lt (length xs) held) (left (refused 13 (amount (length part))) xs) (writing (length part) can part xs held)
