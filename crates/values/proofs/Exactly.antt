-- A value is read at a place exactly if its bytes stand there: the executable and the declarative definition agree.
-- Assumes nothing.
use mathlib.Core.Path.{◌≡◌, ◌∙◌, ap, sym, subst}
use mathlib.Core.Logic.{◌↔◌}
use Prim.Native.Nat.{ℕ, ◌+◌, ◌≤◌}
use native.Mathlib.Omega.{arith}
use mathlib.Core.List.{List, ◌++◌}
use lib.ListN.{length, drop, length-drop, length-append}
use lib.Ieee.{binary32, binary64}
use borrow.Author.Tests.{eq-eqb, ne_eqb}
use Rattle.types.specs.Tag.{Tag}
use Rattle.types.specs.Answer.{Answer, accepted, refused}
use Rattle.types.proofs.Choices.{read_on}
use Rattle.numbers.proofs.Found.{behind}
use Rattle.tags.specs.Reading.{tag_from}
use Rattle.tags.specs.Header.{IsTag}
use Rattle.tags.proofs.Exactly.{TagFound, tag_found_lem, tag_read, tag_length}
use Rattle.values.specs.Value.{Value}
use Rattle.values.specs.Reading.{real_or_double, of_kind, under_tag, value_from}
use Rattle.values.specs.Content.{Content, of_boolean, of_unsigned, of_signed, of_real, of_double, of_octet_string, of_text, of_bit_string, of_enumerated, of_date, of_time, of_object_id}
use Rattle.values.proofs.Booleans.{boolean_read}
use Rattle.values.proofs.Integers.{unsigned_read, signed_read, enumerated_read}
use Rattle.values.proofs.Reals.{float_read}
use Rattle.values.proofs.OctetStrings.{octets_read}
use Rattle.values.proofs.Texts.{text_read_lem}
use Rattle.values.proofs.BitStrings.{bits_read}
use Rattle.values.proofs.Dates.{date_read}
use Rattle.values.proofs.Times.{time_read}
use Rattle.values.proofs.ObjectIds.{object_id_read}
use Rattle.values.proofs.Found.{Or, under_or}

-- what stands at a place where a value is: one whole tag, and behind it content that is the value
pub record ValueAt (xs : List ℕ) (place : ℕ) (v : Value) (next : ℕ) : Type 0 where
  pub found : Tag
  pub header : List ℕ
  pub is_tag : IsTag found header
  pub content : List ℕ
  pub is : Content found (place + length header) content v
  pub rest : List ℕ
  pub here : drop place xs ≡ header ++ (content ++ rest)
  pub ends : next ≡ place + length header + length content

abbrev ValueOr : List ℕ → ℕ → Answer Value → Type 0
ValueOr xs place (accepted v next) = (length xs ≤ 65535) × ValueAt xs place v next
ValueOr xs place (refused n c) = Unit {0}

value_or : (xs : List ℕ) (place : ℕ) → ValueOr xs place (value_from xs place)
unfolding value_from
value_or xs place =
    read_on (ValueOr xs place) (tag_from xs place)
    (λ t after e.
    let f = tag_found_lem xs place t after e in
    go t after f (under_tag t xs after) (under_or xs after t.number t.value))
    (λ n c e. tt)
  where
    go : (t : Tag) (after : ℕ) → TagFound xs place t after → (a : Answer Value) → Or t xs after a → ValueOr xs place a
    go t after f (accepted v next) c = (
      f.small,
      record {
        found = t;
        header = f.bytes;
        is_tag = f.is_tag;
        content = c.bytes;
        is = subst (λ (p : ℕ). Content t p c.bytes v) f.ends c.is;
        rest = drop next xs;
        here = f.here ∙ ap (λ (l : List ℕ). f.bytes ++ l) c.here;
        ends = omega (arith, f.ends, c.ends);
      },
    )
    go t after f (refused n d) c = tt

-- content that stands at a place is read there, each case by its own law
module _ (xs : List ℕ) (small : length xs ≤ 65535) where
  content_read : {t : Tag} {place : ℕ} {bytes : List ℕ} {v : Value} → Content t place bytes v → (rest : List ℕ) → place ≤ length xs → drop place xs ≡ bytes ++ rest → under_tag t xs place ≡ accepted v (place + length bytes)
  unfolding under_tag of_kind real_or_double
  content_read (of_boolean {place = place} i) rest l e = simp (boolean_read i place)
  content_read (of_unsigned {place = place} {bytes = bytes} i) rest l e = simp (unsigned_read xs place bytes rest small e i)
  content_read (of_signed {place = place} {bytes = bytes} i) rest l e = simp (signed_read xs place bytes rest small e i)
  content_read (of_real {len} {place} {bytes} i) rest l e = simp (ne_eqb len 8 (λ q. omega (arith, i.of_length)), float_read binary32 4 xs place bytes rest small l e i)
  content_read (of_double {len} {place} {bytes} i) rest l e = simp (eq-eqb len 8 i.of_length, float_read binary64 8 xs place bytes rest small l e i)
  content_read (of_octet_string {place = place} {bytes = bytes} i) rest l e = simp (octets_read xs place bytes rest e i small l)
  content_read (of_text {place = place} {bytes = bytes} i) rest l e = simp (text_read_lem xs place bytes rest e i small)
  content_read (of_bit_string {place = place} {bytes = bytes} i) rest l e = simp (bits_read xs place bytes rest e i small)
  content_read (of_enumerated {place = place} {bytes = bytes} i) rest l e = simp (enumerated_read xs place bytes rest small e i)
  content_read (of_date {place = place} i) rest l e = simp (date_read xs place rest small l i e)
  content_read (of_time {place = place} i) rest l e = simp (time_read xs place rest i e l)
  content_read (of_object_id {place = place} {bytes = bytes} i) rest l e = simp (object_id_read xs place bytes rest small l e i)

  value_read : (place : ℕ) (v : Value) (next : ℕ) → ValueAt xs place v next → value_from xs place ≡ accepted v next
  unfolding value_from
  value_read place v next f =
      let r = tag_read xs small place f.found f.header (f.content ++ f.rest) f.here f.is_tag in
      let l : place + length f.header ≤ length xs = omega (arith, length-drop place xs, ap length f.here, length-append f.header (f.content ++ f.rest), (tag_length f.is_tag).0) in
      simp (r, content_read f.is f.rest l (behind xs place f.header (f.content ++ f.rest) f.here)) (ap (accepted v) (sym f.ends))

-- this value is read at this place exactly if these bytes stand there: one whole tag, and content that is the value, by the cases of `Content`
pub read_exactly : (xs : List ℕ) (place : ℕ) (v : Value) (next : ℕ) → (value_from xs place ≡ accepted v next) ↔ ((length xs ≤ 65535) × ValueAt xs place v next)
read_exactly xs place v next = (λ e. subst (ValueOr xs place) e (value_or xs place), λ f. value_read xs f.0 place v next f.1)
