-- Writing a value (ASHRAE 135, 20.2.3 to 20.2.14, with 01's rules): its bytes, and which values cannot be written, each case by its own file.
-- Assumes nothing.
use Rattle.std.specs.Prelude.{ℕ, List, ◌∷◌, length}
use Rattle.types.specs.Tag.{application, tag}
use Rattle.types.specs.Answer.{Outcome, passed, stopped}
use Rattle.types.specs.Writing.{Left, Writable, can, cannot, writing}
use Rattle.numbers.specs.Integer.{unsigned_bytes, signed_bytes}
use Rattle.tags.specs.Writing.{tag_bytes}
use Rattle.tags.specs.Item.{item_bytes, boolean_byte}
use Rattle.utf8.specs.Text.{Text}
use Rattle.values.specs.Enumerated.{enumerated_bytes}
use Rattle.values.specs.Real.{real_bytes, double_bytes}
use Rattle.values.specs.Text.{text_writable}
use Rattle.values.specs.Bits.{bits_writable, BitsWrite}
use Rattle.values.specs.Date.{date_bytes, date_writable, DateWrites}
use Rattle.values.specs.Time.{time_bytes}
use Rattle.values.specs.ObjectId.{identifier, object_id_bytes, object_id_writable, ObjectIdWrites}
use Rattle.values.specs.Value.{Value, boolean, real, double, on_date, at_time, object_id, character_string, octet_string, enumerated, bit_string, unsigned_int, signed_int}

-- a value's bytes, the lent bytes being the content of text, octets and bits: a Boolean is its tag alone; a Double stands under the Real tag, as 01 keeps it
abbrev pub bytes_of : Value → List ℕ → List ℕ
bytes_of (boolean b) lent = tag_bytes (tag (application 1) (boolean_byte b))
bytes_of (unsigned_int x) lent = item_bytes (application 2) (unsigned_bytes x)
bytes_of (signed_int x) lent = item_bytes (application 3) (signed_bytes x)
bytes_of (real x) lent = item_bytes (application 4) (real_bytes x)
bytes_of (double x) lent = item_bytes (application 4) (double_bytes x)
bytes_of (octet_string p) lent = item_bytes (application 6) lent
bytes_of (character_string p) lent = item_bytes (application 7) (0 ∷ lent)
bytes_of (bit_string unused p) lent = item_bytes (application 8) (unused ∷ lent)
bytes_of (enumerated x) lent = enumerated_bytes x
bytes_of (on_date d) lent = item_bytes (application 10) (date_bytes d)
bytes_of (at_time t) lent = item_bytes (application 11) (time_bytes t)
bytes_of (object_id n i) lent = item_bytes (application 12) (object_id_bytes (identifier n i))

-- a value's bytes
unfoldable pub value_bytes : Value → List ℕ → List ℕ
value_bytes v lent = bytes_of v lent

-- whether a value can be written at all
abbrev pub writable_by : Value → List ℕ → Writable
writable_by (boolean b) lent = can
writable_by (unsigned_int x) lent = can
writable_by (signed_int x) lent = can
writable_by (real x) lent = can
writable_by (double x) lent = can
writable_by (octet_string p) lent = can
writable_by (character_string p) lent = text_writable lent
writable_by (bit_string unused p) lent = bits_writable unused lent
writable_by (enumerated x) lent = can
writable_by (on_date d) lent = date_writable d
writable_by (at_time t) lent = can
writable_by (object_id n i) lent = object_id_writable (identifier n i)

-- the same, said and not computed (01, "Refused 12"; RFC 3629 for text)
abbrev pub Writes : Value → List ℕ → Type 0
Writes (boolean b) lent = Unit {0}
Writes (unsigned_int x) lent = Unit {0}
Writes (signed_int x) lent = Unit {0}
Writes (real x) lent = Unit {0}
Writes (double x) lent = Unit {0}
Writes (octet_string p) lent = Unit {0}
Writes (character_string p) lent = Text lent
Writes (bit_string unused p) lent = BitsWrite unused lent
Writes (enumerated x) lent = Unit {0}
Writes (on_date d) lent = DateWrites d
Writes (at_time t) lent = Unit {0}
Writes (object_id n i) lent = ObjectIdWrites (identifier n i)

-- whether a value can be written, else 12 or 10
unfoldable pub writable_value : Value → List ℕ → Writable
writable_value v lent = writable_by v lent

abbrev pub outcome_of : Writable → Outcome
outcome_of can = passed
outcome_of (cannot n c) = stopped n c

-- what writing a value at a place of a buffer answers and leaves
unfoldable pub value_to : Value → List ℕ → List ℕ → ℕ → Left
value_to v lent xs place = writing (length lent) (writable_value v lent) (value_bytes v lent) xs place
