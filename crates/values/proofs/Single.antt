-- No two answers of a reader of values are the same on paper, so each promise admits a single one.
-- Assumes nothing.
use mathlib.Core.Path.{◌≡◌, refl, ap}
use Prim.Native.Nat.{ℕ}
use Rattle.std.specs.declared.result.Result.{Result}
use Rattle.types.specs.declared.refusal.Refusal.{Refusal}
use Rattle.types.proofs.Single as types
use Rattle.types.proofs.Single.{told_apart, single_by}
use Rattle.values.specs.Value.{Value, boolean, real, double, on_date, at_time, object_id, character_string, octet_string, enumerated, bit_string, unsigned_int, signed_int, value_of}
use Rattle.values.specs.Reading.{paper_value}
use Rattle.values.specs.ObjectId.{identifier}
use Rattle.values.specs.Enumerated.{paper_enumerated}
use Rattle.values.specs.declared.value.ApplicationDataValue.{ApplicationDataValue}
use Rattle.values.specs.declared.value.ApplicationDataValue.TheVariants as v
use Rattle.values.proofs.Dates.{program_date, date_back}
use Rattle.values.proofs.Times.{program_time, time_back}
use Rattle.values.proofs.ObjectIds.{program_id, id_back}

abbrev pub program_value : Value → ApplicationDataValue
program_value (boolean b) = v.Boolean b
program_value (real x) = v.Real x
program_value (double x) = v.Double x
program_value (on_date d) = v.Date (program_date d)
program_value (at_time t) = v.Time (program_time t)
program_value (object_id n i) = v.ObjectId (program_id (identifier n i))
program_value (character_string p) = v.CharacterString p.start p.size
program_value (octet_string p) = v.OctetString p.start p.size
program_value (enumerated x) = v.Enumerated x
program_value (bit_string u p) = v.BitString u p.start p.size
program_value (unsigned_int x) = v.UnsignedInt x
program_value (signed_int x) = v.SignedInt x

pub value_back : (x : ApplicationDataValue) → program_value (value_of x) ≡ x
value_back (v.Boolean b) = refl
value_back (v.Real x) = refl
value_back (v.Double x) = refl
value_back (v.Date d) = ap v.Date (date_back d)
value_back (v.Time t) = ap v.Time (time_back t)
value_back (v.ObjectId i) = ap v.ObjectId (id_back i)
value_back (v.CharacterString p n) = refl
value_back (v.OctetString p n) = refl
value_back (v.Enumerated x) = refl
value_back (v.BitString u p n) = refl
value_back (v.UnsignedInt x) = refl
value_back (v.SignedInt x) = refl

-- no two values are the same on paper
pub single_value : (x y : ApplicationDataValue) → value_of x ≡ value_of y → x ≡ y
single_value = told_apart value_of program_value value_back

pub single_read : (x y : Result (ApplicationDataValue × ℕ) Refusal) → paper_value x ≡ paper_value y → x ≡ y
single_read = single_by value_of program_value value_back

-- nor are two of the reader of an enumerated value
pub single_enumerated : (x y : Result (ℕ × ℕ) Refusal) → paper_enumerated x ≡ paper_enumerated y → x ≡ y
single_enumerated = types.single_read
