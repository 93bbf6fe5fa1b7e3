-- A segment of a complex acknowledgement (ASHRAE 135, 20.1.5, with segmented-message true): a control byte, then original-invokeID, sequence-number, proposed-window-size and service-ACK-choice, a byte each, and then its part of the service's bytes.
-- Assumes nothing.
use Rattle.std.specs.Prelude.{ℕ, ◌/◌, ◌%◌, Bool, false, List, drop, ◌==◌, slice_index}
use Rattle.types.specs.Choice.{if}
use Rattle.headers.specs.Header.{complex, row_of}

abbrev pub control_of : List ℕ → ℕ
control_of f = slice_index f 0

abbrev pub invoke_id_of : List ℕ → ℕ
invoke_id_of f = slice_index f 1

abbrev pub sequence_of : List ℕ → ℕ
sequence_of f = slice_index f 2

abbrev pub window_of : List ℕ → ℕ
window_of f = slice_index f 3

abbrev pub choice_of : List ℕ → ℕ
choice_of f = slice_index f 4

-- the service's bytes that the frame has
abbrev pub service_part : List ℕ → List ℕ
service_part f = drop 5 f

-- the control byte has the type of a complex acknowledgement, and its bit 3 says that this is a segment
abbrev pub tells_segment : ℕ → Bool
tells_segment control = if (control / 16 == (row_of complex).pdu_type) (control / 8 % 2 == 1) false

-- its bit 2: more segments follow (bits 1 and 0 are not read)
abbrev pub more_follow : List ℕ → Bool
more_follow f = control_of f / 4 % 2 == 1
