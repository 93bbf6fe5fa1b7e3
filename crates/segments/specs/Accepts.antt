-- Which frames are to be accepted, said and not computed (document 02, K9; ASHRAE 135, 20.1.5).
-- Assumes nothing.
use Rattle.std.specs.Prelude.{◌≡◌, ℕ, ◌+◌, ◌/◌, ◌%◌, ◌≤◌, Bool, true, false, not, List, [], ◌∷◌, ◌++◌, length}
use Rattle.types.specs.Choice.{if}
use Rattle.types.specs.Writing.{over}
use Rattle.headers.specs.Header.{one_number, one_choice, number, choice, complex, row_of}
use Rattle.headers.specs.Bytes.{AreFields}
use Rattle.segments.specs.State.{State, state}
use Rattle.segments.specs.Taking.{TakeAnswer, more, finished, refused, After, after}

-- a segment: whether more follow, its invoke id, sequence number, window and service choice, and its part of the service's bytes
pub record Segment : Type 0 where
  pub follow : Bool
  pub id : ℕ
  pub sequence : ℕ
  pub window : ℕ
  pub service : ℕ
  pub part : List ℕ

-- a bit that says whether something is so
abbrev pub bit : Bool → ℕ
bit true = 1
bit false = 0

-- a segment's control byte: the type of a complex acknowledgement in its high nibble, bit 3 set, and bit 2 set where more follow
pub record TellsSegment (g : Segment) (control : ℕ) : Type 0 where
  pub of_type : control / 16 ≡ (row_of complex).pdu_type
  pub segmented : control / 8 % 2 ≡ 1
  pub follows : control / 4 % 2 ≡ bit g.follow

-- bytes that are one whole segment: a control byte, the four bytes behind it as a row of the table of headers has them, and the part
pub data IsSegment : Segment → List ℕ → Type 0 where
  of_bytes : {g : Segment} {control : ℕ} {bytes : List ℕ} → TellsSegment g control
      → AreFields (one_number ∷ one_number ∷ one_number ∷ one_choice ∷ []) (number g.id ∷ number g.sequence ∷ number g.window ∷ choice g.service ∷ []) bytes
      → 1 ≤ g.window → g.window ≤ 127
      → IsSegment g (control ∷ (bytes ++ g.part))

-- a segment goes on from a state: the last one was not taken, it is of the same answer as those before, and its sequence number is the one due
pub record GoesOn (s : State) (g : Segment) : Type 0 where
  pub unfinished : s.finished ≡ false
  pub same : s.begun ≡ true → (g.id ≡ s.id) × (g.service ≡ s.choice)
  pub due : g.sequence ≡ s.due

-- a frame that is to be accepted as this segment: neither it nor the buffer is too long (else 1), it is a segment (3, 17, 11, 24), which goes on from the state (27, 25, 26), and there is room for its part behind the bytes held (13)
pub record Takeable (s : State) (f xs : List ℕ) (g : Segment) : Type 0 where
  pub short : length xs ≤ 65535
  pub frame : length f ≤ 65535
  pub is_segment : IsSegment g f
  pub goes_on : GoesOn s g
  pub room : s.held + length g.part ≤ length xs

-- the state then: the next sequence number is due, after 255 it is 0, and the part is held too
abbrev pub state_after : State → Segment → State
state_after s g = state true (not g.follow) g.id g.service ((g.sequence + 1) % 256) (s.held + length g.part)

-- what is answered and left then
abbrev pub joined_to : State → Segment → List ℕ → After
joined_to s g xs = after (if g.follow (more (state_after s g)) (finished (state_after s g))) (over xs s.held g.part)

-- an answer that is no refusal
abbrev pub IsTaken : TakeAnswer → Type 0
IsTaken (more s) = Unit {0}
IsTaken (finished s) = Unit {0}
IsTaken (refused n c) = ⊥
