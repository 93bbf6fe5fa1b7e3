-- The headers of confirmed services (ASHRAE 135, 20.1.2 and 20.1.4 to 20.1.9, as 01 and request K2 restate them): a table with a row for each kind, and the map from the program's headers.
-- Assumes nothing.
use Rattle.std.specs.Prelude.{ℕ, ◌%◌, Bool, true, false, List, [], ◌∷◌, eqb}
use Rattle.types.specs.Choice.{if}
use Rattle.tags.specs.Item.{boolean_byte}
use Rattle.headers.specs.Words.{request_word, simple_word, complex_word, segment_word, error_word, reject_word, abort_word}
use Rattle.headers.specs.declared.header.Header as program
use Rattle.headers.specs.declared.header.Header.TheVariants as h
use Rattle.headers.specs.declared.kind.Kind as kind
use Rattle.headers.specs.declared.kind.Kind.TheVariants as k

-- the kinds of headers that are taken: document 01's four, and K2's three
pub data Kind : Type 0 where
  request : Kind
  simple : Kind
  complex : Kind
  segment : Kind
  error : Kind
  reject : Kind
  abort : Kind

-- a byte behind the control byte: two numbers of four bits, a number, or a service choice
pub data Field : Type 0 where
  two_nibbles : Field
  one_number : Field
  one_choice : Field

-- what a header carries: such a byte's two numbers, its number or its service choice; a flag, which is a bit of the control byte; an enumerated value, which stands behind those bytes under its own tag
pub data FieldValue : Type 0 where
  nibbles : ℕ → ℕ → FieldValue
  number : ℕ → FieldValue
  choice : ℕ → FieldValue
  flag : Bool → FieldValue
  enumeration : ℕ → FieldValue

-- a header: its kind, and what it carries, in the order of its bytes
pub record Header : Type 0 where
  pub kind : Kind
  pub fields : List FieldValue

abbrev pub header : Kind → List FieldValue → Header
header k vs = record { kind = k; fields = vs }

-- a row: the control byte's high nibble, whether its bit 3 says that the PDU is a segment, and what its low nibble carries; the bytes that follow, and how many enumerated values behind them;
-- the kind's word, and whether the tags of a body are walked (document 01, "The program")
pub record HeaderRow : Type 0 where
  pub pdu_type : ℕ
  pub segmentable : Bool
  pub held : ℕ → List FieldValue
  pub follow : List Field
  pub enumerations : ℕ
  pub word : List ℕ
  pub walks : Bool

abbrev pub header_row : ℕ → Bool → (ℕ → List FieldValue) → List Field → ℕ → List ℕ → Bool → HeaderRow
header_row t s h f n word walks = record { pdu_type = t; segmentable = s; held = h; follow = f; enumerations = n; word = word; walks = walks }

-- what a control byte carries: an abort's bit 0 says whether a server sent it (20.1.9), and no other kind's carries anything that is kept
abbrev pub holds_nothing : ℕ → List FieldValue
holds_nothing control = []

abbrev pub holds_server : ℕ → List FieldValue
holds_server control = flag (eqb (control % 2) 1) ∷ []

-- a request says by 2 that it accepts an answer in segments: not if its segments nibble is 0
abbrev pub accepting : ℕ → ℕ
accepting segments = if (eqb segments 0) 0 2

-- what a value puts into the low nibble of the control byte
abbrev pub low_for : FieldValue → ℕ
low_for (nibbles segments size) = accepting segments
low_for (number n) = 0
low_for (choice c) = 0
low_for (flag b) = boolean_byte b
low_for (enumeration x) = 0

-- the low nibble as it is written: what the first value puts there
abbrev pub low_nibble : List FieldValue → ℕ
low_nibble [] = 0
low_nibble (v ∷ vs) = low_for v

-- the table (20.1.2, 20.1.4 to 20.1.9): behind its control byte a request has max-segments-accepted and max-APDU-length-accepted in one byte, then invokeID and service-choice;
-- a simple and a complex acknowledgement have original-invokeID and service-ACK-choice; a segment acknowledgement has original-invokeID, sequence-number and actual-window-size;
-- an error has original-invokeID and error-choice, and behind them error-class and error-code, each enumerated under its application tag; a reject has original-invokeID and reject-reason, an abort original-invokeID and abort-reason
abbrev pub row_of : Kind → HeaderRow
row_of request = header_row 0 true holds_nothing (two_nibbles ∷ one_number ∷ one_choice ∷ []) 0 request_word true
row_of simple = header_row 2 false holds_nothing (one_number ∷ one_choice ∷ []) 0 simple_word false
row_of complex = header_row 3 true holds_nothing (one_number ∷ one_choice ∷ []) 0 complex_word true
row_of segment = header_row 4 false holds_nothing (one_number ∷ one_number ∷ one_number ∷ []) 0 segment_word false
row_of error = header_row 5 false holds_nothing (one_number ∷ one_choice ∷ []) 2 error_word false
row_of reject = header_row 6 false holds_nothing (one_number ∷ one_number ∷ []) 0 reject_word false
row_of abort = header_row 7 false holds_server (one_number ∷ one_number ∷ []) 0 abort_word false

-- all of them
abbrev pub kinds : List Kind
kinds = request ∷ simple ∷ complex ∷ segment ∷ error ∷ reject ∷ abort ∷ []

abbrev pub header_of : program.Header → Header
header_of (h.ConfirmedRequest segments size id c) = header request (nibbles segments size ∷ number id ∷ choice c ∷ [])
header_of (h.SimpleAck id c) = header simple (number id ∷ choice c ∷ [])
header_of (h.ComplexAck id c) = header complex (number id ∷ choice c ∷ [])
header_of (h.SegmentAck id sequence window) = header segment (number id ∷ number sequence ∷ number window ∷ [])
header_of (h.ConfirmedBacnetError id c class code) = header error (number id ∷ choice c ∷ enumeration class ∷ enumeration code ∷ [])
header_of (h.Reject id reason) = header reject (number id ∷ number reason ∷ [])
header_of (h.Abort server id reason) = header abort (flag server ∷ number id ∷ number reason ∷ [])

abbrev pub kind_of : kind.Kind → Kind
kind_of k.Request = request
kind_of k.Simple = simple
kind_of k.Complex = complex
kind_of k.Segment = segment
kind_of k.Error = error
kind_of k.Reject = reject
kind_of k.Abort = abort

-- the numbers of a header's fields, in their order
abbrev pub field_numbers : List FieldValue → List ℕ
field_numbers [] = []
field_numbers (nibbles a b ∷ vs) = a ∷ b ∷ field_numbers vs
field_numbers (number n ∷ vs) = n ∷ field_numbers vs
field_numbers (choice c ∷ vs) = c ∷ field_numbers vs
field_numbers (flag b ∷ vs) = boolean_byte b ∷ field_numbers vs
field_numbers (enumeration x ∷ vs) = x ∷ field_numbers vs
