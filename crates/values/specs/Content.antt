-- Which bytes are a value, said and not computed: a tag's content, where it begins, and the value that it is (ASHRAE 135, 20.2.3 to 20.2.14). What each case asks of its bytes stands in the case's own file.
-- Assumes nothing.
use Rattle.std.specs.Prelude.{ℕ, Bool, List, ℤ, Float}
use Rattle.std.specs.Float.{binary32, binary64}
use Rattle.types.specs.Tag.{application, Tag, tag}
use Rattle.numbers.specs.Integer.{unsigned_value, signed_value}
use Rattle.numbers.specs.Reading.{Part}
use Rattle.values.specs.Boolean.{IsBoolean}
use Rattle.values.specs.Integer.{IsInteger, IsEnumerated}
use Rattle.values.specs.Real.{IsFloat}
use Rattle.values.specs.Octets.{IsOctets}
use Rattle.values.specs.Text.{IsText}
use Rattle.values.specs.Bits.{Bits, IsBits}
use Rattle.values.specs.Date.{Date, IsDate}
use Rattle.values.specs.Time.{Time, IsTime}
use Rattle.values.specs.ObjectId.{ObjectId, IsObjectId}
use Rattle.values.specs.Value.{Value, boolean, real, double, on_date, at_time, object_id, character_string, octet_string, enumerated, bit_string, unsigned_int, signed_int}

-- under this tag, content that begins at this place and has these bytes is this value
pub data Content : Tag → ℕ → List ℕ → Value → Type 0 where
  of_boolean : {v place : ℕ} {bytes : List ℕ} {b : Bool} → IsBoolean v bytes b → Content (tag (application 1) v) place bytes (boolean b)
  of_unsigned : {len place : ℕ} {bytes : List ℕ} {x : ℕ} → IsInteger unsigned_value len bytes x → Content (tag (application 2) len) place bytes (unsigned_int x)
  of_signed : {len place : ℕ} {bytes : List ℕ} {x : ℤ} → IsInteger signed_value len bytes x → Content (tag (application 3) len) place bytes (signed_int x)
  of_real : {len place : ℕ} {bytes : List ℕ} {x : Float} → IsFloat binary32 4 len bytes x → Content (tag (application 4) len) place bytes (real x)
  of_double : {len place : ℕ} {bytes : List ℕ} {x : Float} → IsFloat binary64 8 len bytes x → Content (tag (application 4) len) place bytes (double x)
  of_octet_string : {len place : ℕ} {bytes : List ℕ} {p : Part} → IsOctets len place bytes p → Content (tag (application 6) len) place bytes (octet_string p)
  of_text : {len place : ℕ} {bytes : List ℕ} {p : Part} → IsText len place bytes p → Content (tag (application 7) len) place bytes (character_string p)
  of_bit_string : {len place : ℕ} {bytes : List ℕ} {b : Bits} → IsBits len place bytes b → Content (tag (application 8) len) place bytes (bit_string b.unused b.part)
  of_enumerated : {len place : ℕ} {bytes : List ℕ} {x : ℕ} → IsEnumerated len bytes x → Content (tag (application 9) len) place bytes (enumerated x)
  of_date : {len place : ℕ} {bytes : List ℕ} {d : Date} → IsDate len bytes d → Content (tag (application 10) len) place bytes (on_date d)
  of_time : {len place : ℕ} {bytes : List ℕ} {t : Time} → IsTime len bytes t → Content (tag (application 11) len) place bytes (at_time t)
  of_object_id : {len place : ℕ} {bytes : List ℕ} {o : ObjectId} → IsObjectId len bytes o → Content (tag (application 12) len) place bytes (object_id o.type o.instance)
