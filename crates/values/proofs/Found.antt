-- What is read under a tag is found: its content stands at the place, and is the value, each case by its own law.
-- Assumes nothing.
use mathlib.Core.Path.{◌≡◌, sym, subst}
use Prim.Native.Nat.{ℕ}
use mathlib.Core.Bool.{true}
use mathlib.Core.List.{List}
use lib.Dec.{eqb}
use lib.Ieee.{binary32, binary64}
use borrow.Author.Tests.{eqb-true}
use Rattle.types.specs.Tag.{Number, application, context, opening, closing, Tag, tag}
use Rattle.types.specs.Answer.{Answer, accepted, refused}
use Rattle.types.proofs.Choices.{either}
use Rattle.numbers.specs.Integer.{unsigned_value, signed_value}
use Rattle.numbers.specs.Reading.{slice_from, unsigned_from, signed_from}
use Rattle.values.specs.Boolean.{boolean_under, IsBoolean}
use Rattle.values.specs.Integer.{enumerated_under, IsInteger, IsEnumerated}
use Rattle.values.specs.Real.{real_under, double_under, IsFloat}
use Rattle.values.specs.Octets.{IsOctets}
use Rattle.values.specs.Text.{text_under, IsText}
use Rattle.values.specs.Bits.{bits_under, IsBits}
use Rattle.values.specs.Date.{date_under, IsDate}
use Rattle.values.specs.Time.{time_under, IsTime}
use Rattle.values.specs.ObjectId.{object_id_under, IsObjectId}
use Rattle.values.specs.Value.{Value, boolean, real, double, on_date, at_time, character_string, octet_string, enumerated, unsigned_int, signed_int, cased}
use Rattle.values.specs.Reading.{real_or_double, bits_case, object_id_case, of_kind, under_tag}
use Rattle.values.specs.Content.{Content, of_boolean, of_unsigned, of_signed, of_real, of_double, of_octet_string, of_text, of_bit_string, of_enumerated, of_date, of_time, of_object_id}
use Rattle.values.proofs.Standing.{StoodOr}
use Rattle.values.proofs.Booleans.{boolean_or}
use Rattle.values.proofs.Integers.{unsigned_or, signed_or, enumerated_or}
use Rattle.values.proofs.Reals.{float_or}
use Rattle.values.proofs.OctetStrings.{octets_or}
use Rattle.values.proofs.Texts.{text_or}
use Rattle.values.proofs.BitStrings.{bits_or}
use Rattle.values.proofs.Dates.{date_or}
use Rattle.values.proofs.Times.{time_or}
use Rattle.values.proofs.ObjectIds.{object_id_or}

-- of an answer: where a value was read, its content stood there
abbrev pub Or : Tag → List ℕ → ℕ → Answer Value → Type 0
Or t = StoodOr (Content t)

module _ (xs : List ℕ) (place : ℕ) where
  -- what stood there is content of its case
  as_case : {A : Type 0} (Is : ℕ → List ℕ → A → Type 0) (make : A → Value) (t : Tag) → ((p : ℕ) (bytes : List ℕ) (a : A) → Is p bytes a → Content t p bytes (make a)) → (r : Answer A) → StoodOr Is xs place r → Or t xs place (cased make r)
  as_case Is make t content (accepted a next) s = record { bytes = s.bytes; is = content place s.bytes a s.is; here = s.here; ends = s.ends }
  as_case Is make t content (refused n c) s = tt

  real_or_double_lem : (len : ℕ) → Or (tag (application 4) len) xs place (real_or_double len xs place)
  unfolding real_or_double
  real_or_double_lem len =
      either (Or (tag (application 4) len) xs place) (eqb len 8)
      (λ e. as_case (λ (p : ℕ). IsFloat binary64 8 len) double _ (λ p bytes x i. of_double i) (double_under len xs place) (float_or binary64 8 len xs place))
      (λ e. as_case (λ (p : ℕ). IsFloat binary32 4 len) real _ (λ p bytes x i. of_real i) (real_under len xs place) (float_or binary32 4 len xs place))

  -- by the tag's number
  kind_or : (n v : ℕ) → Or (tag (application n) v) xs place (of_kind n (tag (application n) v) xs place)
  unfolding of_kind
  kind_or n v =
      either (Or (tag (application n) v) xs place) (eqb n 1) (of 1 (cased boolean (boolean_under v place)) (as_case (λ (p : ℕ). IsBoolean v) boolean _ (λ p bytes b i. of_boolean i) (boolean_under v place) (boolean_or v xs place))) (λ _.
      either (Or (tag (application n) v) xs place) (eqb n 2) (of 2 (cased unsigned_int (unsigned_from v xs place)) (as_case (λ (p : ℕ). IsInteger unsigned_value v) unsigned_int _ (λ p bytes x i. of_unsigned i) (unsigned_from v xs place) (unsigned_or v xs place))) (λ _.
      either (Or (tag (application n) v) xs place) (eqb n 3) (of 3 (cased signed_int (signed_from v xs place)) (as_case (λ (p : ℕ). IsInteger signed_value v) signed_int _ (λ p bytes x i. of_signed i) (signed_from v xs place) (signed_or v xs place))) (λ _.
      either (Or (tag (application n) v) xs place) (eqb n 4) (of 4 (real_or_double v xs place) (real_or_double_lem v)) (λ _.
      either (Or (tag (application n) v) xs place) (eqb n 6) (of 6 (cased octet_string (slice_from v xs place)) (as_case (IsOctets v) octet_string _ (λ p bytes q i. of_octet_string i) (slice_from v xs place) (octets_or v xs place))) (λ _.
      either (Or (tag (application n) v) xs place) (eqb n 7) (of 7 (cased character_string (text_under v xs place)) (as_case (IsText v) character_string _ (λ p bytes q i. of_text i) (text_under v xs place) (text_or v xs place))) (λ _.
      either (Or (tag (application n) v) xs place) (eqb n 8) (of 8 (cased bits_case (bits_under v xs place)) (as_case (IsBits v) bits_case _ (λ p bytes b i. of_bit_string {b = b} i) (bits_under v xs place) (bits_or v xs place))) (λ _.
      either (Or (tag (application n) v) xs place) (eqb n 9) (of 9 (cased enumerated (enumerated_under v xs place)) (as_case (λ (p : ℕ). IsEnumerated v) enumerated _ (λ p bytes x i. of_enumerated i) (enumerated_under v xs place) (enumerated_or v xs place))) (λ _.
      either (Or (tag (application n) v) xs place) (eqb n 10) (of 10 (cased on_date (date_under v xs place)) (as_case (λ (p : ℕ). IsDate v) on_date _ (λ p bytes d i. of_date i) (date_under v xs place) (date_or v xs place))) (λ _.
      either (Or (tag (application n) v) xs place) (eqb n 11) (of 11 (cased at_time (time_under v xs place)) (as_case (λ (p : ℕ). IsTime v) at_time _ (λ p bytes t i. of_time i) (time_under v xs place) (time_or v xs place))) (λ _.
      either (Or (tag (application n) v) xs place) (eqb n 12) (of 12 (cased object_id_case (object_id_under v xs place)) (as_case (λ (p : ℕ). IsObjectId v) object_id_case _ (λ p bytes o i. of_object_id {o = o} i) (object_id_under v xs place) (object_id_or v xs place))) (λ _.
      tt)))))))))))
    where
      of : (k : ℕ) (a : Answer Value) → Or (tag (application k) v) xs place a → eqb n k ≡ true → Or (tag (application n) v) xs place a
      of k a h e = subst (λ (m : ℕ). Or (tag (application m) v) xs place a) (sym (eqb-true n k e)) h

  -- what is read under a tag was found
  pub under_or : (n : Number) (v : ℕ) → Or (tag n v) xs place (under_tag (tag n v) xs place)
  unfolding under_tag
  under_or (application n) v = kind_or n v
  under_or (context n) v = tt
  under_or (opening n) v = tt
  under_or (closing n) v = tt
