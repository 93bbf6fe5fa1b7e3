-- The eight numbers that tell an answer. The first is 0 where it is accepted, else the refusal's number in 01; the second is the next place, or 0 where the answer has none.
-- Assumes nothing.
use Rattle.std.specs.Prelude.{ℕ, List, [], ◌∷◌, ℤ, get_or}
use Rattle.std.specs.Float.{binary32, binary64}
use Rattle.std.specs.Float.Ieee.{to_bits}
use Rattle.types.specs.Tag.{Tag, class_of, number_in}
use Rattle.types.specs.Refusal.{Carried, amount, tag_found}
use Rattle.types.specs.Answer.{Answer, accepted, refused, Outcome, passed, stopped}
use Rattle.numbers.specs.Integer.{pattern_of}
use Rattle.tags.specs.Item.{boolean_byte}
use Rattle.bodies.specs.Scan.{Body, Counted}
use Rattle.bodies.specs.Optional.{Absence, end_of_buffer, other_tag, Optional, body_or_refusal, absent}
use Rattle.walk.specs.Walk.{Report}
use Rattle.values.specs.Value as values
use Rattle.headers.specs.Header as headers

-- eight numbers
abbrev pub eight : ℕ → ℕ → ℕ → ℕ → ℕ → ℕ → ℕ → ℕ → List ℕ
eight a b c d e f g h = a ∷ b ∷ c ∷ d ∷ e ∷ f ∷ g ∷ h ∷ []

-- a refusal: its number; no place; what it carries, as 0 and an amount, or as the class, number and value of the tag found; and the count of tags, where there is one
abbrev pub told_refusal : ℕ → Carried → ℕ → List ℕ
told_refusal n (amount a) tags = eight n 0 0 a 0 tags 0 0
told_refusal n (tag_found t) tags = eight n 0 (class_of t.number) (number_in t.number) t.value tags 0 0

-- what a reader answers: what it accepted, told with the next place, or the refusal
abbrev pub told_read : {A : Type 0} → (A → ℕ → List ℕ) → Answer A → List ℕ
told_read telling (accepted a next) = telling a next
told_read telling (refused n c) = told_refusal n c 0

-- a tag: next place, class, number, value
abbrev pub tag_told : Tag → ℕ → List ℕ
tag_told t next = eight 0 next (class_of t.number) (number_in t.number) t.value 0 0 0

abbrev pub told_tag : Answer Tag → List ℕ
told_tag = told_read tag_told

-- an unsigned integer: next place, value
abbrev pub unsigned_told : ℕ → ℕ → List ℕ
unsigned_told v next = eight 0 next v 0 0 0 0 0

abbrev pub told_unsigned : Answer ℕ → List ℕ
told_unsigned = told_read unsigned_told

-- a signed integer: next place, its two's complement in 64 bits
abbrev pub signed_told : ℤ → ℕ → List ℕ
signed_told z next = eight 0 next (pattern_of 8 z) 0 0 0 0 0

abbrev pub told_signed : Answer ℤ → List ℕ
told_signed = told_read signed_told

-- a body: next place, where its view starts, the view's length, the body's number, the count of tags
abbrev pub body_told : Answer Body → ℕ → List ℕ
body_told (accepted b next) tags = eight 0 next b.start b.size b.number tags 0 0
body_told (refused n c) tags = told_refusal n c tags

abbrev pub told_body : Counted → List ℕ
told_body x = body_told x.answer x.tags

-- an optional body: where it is there, a body's numbers, and 1
abbrev pub present_told : Answer Body → ℕ → List ℕ
present_told (accepted b next) tags = eight 0 next b.start b.size b.number tags 1 0
present_told (refused n c) tags = told_refusal n c tags

-- where it is absent, the place that was asked for, as nothing was read; the class, number and value of the tag found, or class 0 at the buffer's end; and 2
abbrev pub absence_told : (place : ℕ) → Absence → List ℕ
absence_told place end_of_buffer = eight 0 place 0 0 0 0 2 0
absence_told place (other_tag t) = eight 0 place (class_of t.number) (number_in t.number) t.value 0 2 0

abbrev pub told_optional : (place : ℕ) → Optional → List ℕ
told_optional place (body_or_refusal x) = present_told x.answer x.tags
told_optional place (absent a) = absence_told place a

-- a walk, which has no next place: the count of tags
abbrev pub walk_told : Outcome → ℕ → List ℕ
walk_told passed tags = eight 0 0 tags 0 0 0 0 0
walk_told (stopped n c) tags = told_refusal n c tags

abbrev pub told_walk : Report → List ℕ
told_walk x = walk_told x.outcome x.tags

-- a value: next place, its case, the fields of the case; a float and a signed integer by their bits
abbrev pub value_told : values.Value → ℕ → List ℕ
value_told (values.boolean b) next = eight 0 next 1 (boolean_byte b) 0 0 0 0
value_told (values.real x) next = eight 0 next 2 (to_bits binary32 x) 0 0 0 0
value_told (values.double x) next = eight 0 next 3 (to_bits binary64 x) 0 0 0 0
value_told (values.on_date d) next = eight 0 next 4 d.year d.month d.day d.weekday 0
value_told (values.at_time t) next = eight 0 next 5 t.hour t.minute t.second t.hundredths 0
value_told (values.object_id n i) next = eight 0 next 6 n i 0 0 0
value_told (values.character_string p) next = eight 0 next 7 p.start p.size 0 0 0
value_told (values.octet_string p) next = eight 0 next 8 p.start p.size 0 0 0
value_told (values.bit_string u p) next = eight 0 next 9 u p.start p.size 0 0
value_told (values.enumerated x) next = eight 0 next 10 x 0 0 0 0
value_told (values.unsigned_int x) next = eight 0 next 11 x 0 0 0 0
value_told (values.signed_int z) next = eight 0 next 12 (pattern_of 8 z) 0 0 0 0

abbrev pub told_value : Answer values.Value → List ℕ
told_value = told_read value_told

-- a header: next place, its PDU type, its fields in their order, with 0 for those that it has not
abbrev pub header_told : headers.Header → ℕ → List ℕ
header_told h next =
    let ns = headers.field_numbers h.fields in
    eight 0 next (headers.row_of h.kind).pdu_type (get_or ns 0 0) (get_or ns 1 0) (get_or ns 2 0) (get_or ns 3 0) 0

abbrev pub told_header : Answer headers.Header → List ℕ
told_header = told_read header_told

-- a check of text, which has no next place
abbrev pub told_check : Outcome → List ℕ
told_check passed = eight 0 0 0 0 0 0 0 0
told_check (stopped n c) = told_refusal n c 0

-- a write: next place
abbrev pub told_write : Answer (Unit {0}) → List ℕ
told_write (accepted u next) = eight 0 next 0 0 0 0 0 0
told_write (refused n c) = told_refusal n c 0
