-- Reading a value (ASHRAE 135, 20.2.3 to 20.2.14, with 01's rules): the tag says which case it is, and the case's own file how it is read.
-- Assumes nothing.
use Rattle.std.specs.Prelude.{ℕ, List, eqb, Result}
use Rattle.types.specs.Choice.{if}
use Rattle.types.specs.Tag.{Number, application, context, opening, closing, Tag}
use Rattle.types.specs.Refusal.{tag_found}
use Rattle.types.specs.Answer.{Answer, refused, then, paper_by}
use Rattle.numbers.specs.Reading.{slice_from, unsigned_from, signed_from}
use Rattle.tags.specs.Reading.{tag_from}
use Rattle.values.specs.Boolean.{boolean_under}
use Rattle.values.specs.Integer.{enumerated_under}
use Rattle.values.specs.Real.{real_under, double_under}
use Rattle.values.specs.Text.{text_under}
use Rattle.values.specs.Bits.{Bits, bits_under}
use Rattle.values.specs.Date.{date_under}
use Rattle.values.specs.Time.{time_under}
use Rattle.values.specs.ObjectId.{ObjectId, object_id_under}
use Rattle.values.specs.Value.{Value, boolean, real, double, on_date, at_time, object_id, character_string, octet_string, enumerated, bit_string, unsigned_int, signed_int, cased, value_of}
use Rattle.types.specs.declared.refusal.Refusal.{Refusal}
use Rattle.values.specs.declared.value.ApplicationDataValue.{ApplicationDataValue}

-- under the Real tag: a Real, or where the length is 8 a Double, which 01 keeps there
unfoldable pub real_or_double : ℕ → List ℕ → ℕ → Answer Value
real_or_double len xs place = if (eqb len 8) (cased double (double_under len xs place)) (cased real (real_under len xs place))

abbrev pub bits_case : Bits → Value
bits_case b = bit_string b.unused b.part

abbrev pub object_id_case : ObjectId → Value
object_id_case o = object_id o.type o.instance

-- by the application tag's number; Null, Double and the reserved ones are refused 8
unfoldable pub of_kind : ℕ → Tag → List ℕ → ℕ → Answer Value
of_kind n t xs place =
    if (eqb n 1) (cased boolean (boolean_under t.value place))
    (if (eqb n 2) (cased unsigned_int (unsigned_from t.value xs place))
    (if (eqb n 3) (cased signed_int (signed_from t.value xs place))
    (if (eqb n 4) (real_or_double t.value xs place)
    (if (eqb n 6) (cased octet_string (slice_from t.value xs place))
    (if (eqb n 7) (cased character_string (text_under t.value xs place))
    (if (eqb n 8) (cased bits_case (bits_under t.value xs place))
    (if (eqb n 9) (cased enumerated (enumerated_under t.value xs place))
    (if (eqb n 10) (cased on_date (date_under t.value xs place))
    (if (eqb n 11) (cased at_time (time_under t.value xs place))
    (if (eqb n 12) (cased object_id_case (object_id_under t.value xs place))
    (refused 8 (tag_found t))))))))))))

abbrev pub by_number : Number → Tag → List ℕ → ℕ → Answer Value
by_number (application n) t xs place = of_kind n t xs place
by_number (context n) t xs place = refused 8 (tag_found t)
by_number (opening n) t xs place = refused 8 (tag_found t)
by_number (closing n) t xs place = refused 8 (tag_found t)

-- the value under a tag
unfoldable pub under_tag : Tag → List ℕ → ℕ → Answer Value
under_tag t xs place = by_number t.number t xs place

-- the value at a place
unfoldable pub value_from : List ℕ → ℕ → Answer Value
value_from xs place = then (tag_from xs place) (λ t next. under_tag t xs next)

abbrev pub paper_value : Result (ApplicationDataValue × ℕ) Refusal → Answer Value
paper_value = paper_by value_of
