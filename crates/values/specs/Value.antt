-- A value on paper, case by case (document 01, "Values"; ASHRAE 135, 20.2.3 to 20.2.14), and the map from the program's values to it.
-- Assumes nothing.
use Rattle.std.specs.Prelude.{ℕ, Bool, ℤ, Float}
use Rattle.types.specs.Answer.{Answer, accepted, then}
use Rattle.numbers.specs.Reading.{Part, part_at}
use Rattle.values.specs.Date.{Date, date_of}
use Rattle.values.specs.Time.{Time, time_of}
use Rattle.values.specs.declared.value.ApplicationDataValue.{ApplicationDataValue}
use Rattle.values.specs.declared.value.ApplicationDataValue.TheVariants as v

-- 01's twelve cases; text, octets and bits are a part of the buffer
pub data Value : Type 0 where
  boolean : Bool → Value
  real : Float → Value
  double : Float → Value
  on_date : Date → Value
  at_time : Time → Value
  object_id : ℕ → ℕ → Value
  character_string : Part → Value
  octet_string : Part → Value
  enumerated : ℕ → Value
  bit_string : ℕ → Part → Value
  unsigned_int : ℕ → Value
  signed_int : ℤ → Value

-- what was read, as a case of a value
abbrev pub cased : {A : Type 0} → (A → Value) → Answer A → Answer Value
cased make a = then a (λ x next. accepted (make x) next)

abbrev pub value_of : ApplicationDataValue → Value
value_of (v.Boolean b) = boolean b
value_of (v.Real x) = real x
value_of (v.Double x) = double x
value_of (v.Date d) = on_date (date_of d)
value_of (v.Time t) = at_time (time_of t)
value_of (v.ObjectId i) = object_id i.object_type i.instance
value_of (v.CharacterString place len) = character_string (part_at place len)
value_of (v.OctetString place len) = octet_string (part_at place len)
value_of (v.Enumerated x) = enumerated x
value_of (v.BitString unused place len) = bit_string unused (part_at place len)
value_of (v.UnsignedInt x) = unsigned_int x
value_of (v.SignedInt x) = signed_int x
