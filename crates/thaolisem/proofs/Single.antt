-- The eight numbers tell the answer: no two answers of a function are told by the same numbers. A value is one that the program can hold: integers of their widths, floats of their formats.
-- Assumes nothing.
use mathlib.Core.Path.{◌≡◌, refl, sym, ap, ◌∙◌}
use native.Mathlib.Omega.{arith}
use Prim.Native.Nat.{ℕ, ◌-◌, ◌*◌, ◌^◌, ◌<◌, ◌≤◌}
use mathlib.Core.Bool.{Bool, true, false, not}
use mathlib.Core.List.{List}
use borrow.Author.Tests.{lt-ltb, le-ltb, ne_eqb}
use lib.Dec.{eqb}
use lib.ListN.{get_or}
use lib.IntN.{ℤ, pos, negsuc}
use lib.Signed.{mag}
use lib.Ieee.{Float, binary32, binary64, of_bits}
use lib.Ieee.Bits.{of_bits-to_bits}
use Rattle.std.specs.declared.result.Result.{Result}
use Rattle.std.specs.declared.result.Result.TheVariants.{Ok, Err}
use Rattle.types.specs.Choice.{if}
use Rattle.types.specs.Tag.{Number, application, context, opening, closing, Tag, tag, tag_of}
use Rattle.types.specs.Refusal.{Carried, amount, tag_found, table}
use Rattle.types.specs.Answer.{Answer, accepted, refused, refusal, paper_by, paper_read, Outcome, passed, stopped, paper_outcome}
use Rattle.types.specs.Writing.{paper_written}
use Rattle.types.specs.declared.refusal.Refusal.{Refusal}
use Rattle.types.specs.declared.counted.CountedRefusal.{CountedRefusal}
use Rattle.types.specs.declared.tag.Tag as program-tag
use Rattle.types.proofs.Class.{of_class, class_back}
use Rattle.types.proofs.Numbered.{number_above_0}
use Rattle.types.proofs.Single.{single_written, single_outcome}
use Rattle.numbers.specs.Integer.{pattern_of, twos_complement}
use Rattle.numbers.specs.Reading.{part_at}
use Rattle.numbers.proofs.Single.{single_unsigned, single_signed}
use Rattle.tags.specs.Item.{boolean_byte}
use Rattle.tags.specs.Reading.{paper_tag}
use Rattle.tags.proofs.Single.{single_tag_read}
use Rattle.bodies.specs.Scan.{Body, body, Counted, counted, paper_body}
use Rattle.bodies.specs.declared.body.Body as program-body
use Rattle.bodies.specs.Optional.{Absence, end_of_buffer, other_tag, Optional, body_or_refusal, absent, paper_optional}
use Rattle.bodies.specs.declared.optional.OptionalBody.{OptionalBody}
use Rattle.bodies.specs.declared.optional.OptionalBody.TheVariants as o
use Rattle.bodies.proofs.Single.{single_body, single_optional}
use Rattle.walk.specs.Walk.{Report, report, paper_walked}
use Rattle.walk.proofs.Single.{single_walked}
use Rattle.values.specs.Date.{date}
use Rattle.values.specs.Time.{time}
use Rattle.values.specs.Value.{Value, boolean, real, double, on_date, at_time, object_id, character_string, octet_string, enumerated, bit_string, unsigned_int, signed_int, value_of}
use Rattle.values.specs.Reading.{paper_value}
use Rattle.values.specs.declared.value.ApplicationDataValue.{ApplicationDataValue}
use Rattle.values.proofs.Single.{single_read}
use Rattle.values.proofs.Back.{Held}
use Rattle.headers.specs.Header as headers
use Rattle.headers.specs.Reading.{paper_header}
use Rattle.headers.specs.declared.header.Header.{Header}
use Rattle.headers.proofs.Control.{of_type, type_back}
use Rattle.headers.proofs.Single.{of_fields, header_back_lem, single_header_read}
use Rattle.thaolisem.specs.Told.{told_refusal, told_read, tag_told, told_tag, unsigned_told, told_unsigned, signed_told, told_signed, told_body, absence_told, told_optional, told_walk, value_told, told_value, header_told, told_header, told_check, told_write}
use Rattle.segments.specs.State.{State, state_of}
use Rattle.segments.specs.Taking.{TakeAnswer, more, finished, paper_taken}
use Rattle.segments.specs.Taking as segments
use Rattle.segments.specs.declared.taking.Taken as program-taken
use Rattle.segments.specs.declared.taking.Taken.TheVariants as ta
use Rattle.segments.proofs.Single.{single_taken}
use Rattle.thaolisem.specs.Segment.{state_in, state_numbers, numbers_then, told_taken}

-- what can be told back from its numbers is told apart by them
apart : {A B : Type 0} (told : A → B) (back : B → A) (x y : A) → back (told x) ≡ x → back (told y) ≡ y → told x ≡ told y → x ≡ y
apart told back x y ex ey e = sym ex ∙ ap back e ∙ ey

-- the i-th of the eight
abbrev at : List ℕ → ℕ → ℕ
at l k = get_or l k 0

abbrev carried : List ℕ → Carried
carried l = if (eqb (at l 2) 0) (amount (at l 3)) (tag_found (tag (of_class (at l 2) (at l 3)) (at l 4)))

-- an answer from its eight numbers, where an accepted one is known from them
abbrev answer : {A : Type 0} → (List ℕ → Answer A) → List ℕ → Answer A
answer given l = if (eqb (at l 0) 0) (given l) (refused (at l 0) (carried l))

-- what was carried is known from the eight numbers of a refusal
carried_again : (n tags : ℕ) (c : Carried) → carried (told_refusal n c tags) ≡ c
carried_again n tags (amount a) = refl
carried_again n tags (tag_found t) = by_class t.number t.value
  where
    by_class : (x : Number) (v : ℕ) → carried (told_refusal n (tag_found (tag x v)) tags) ≡ tag_found (tag x v)
    by_class (application k) v = refl
    by_class (context k) v = refl
    by_class (opening k) v = refl
    by_class (closing k) v = refl

-- and so is the number, which is above 0
number_again : (n tags : ℕ) (c : Carried) → at (told_refusal n c tags) 0 ≡ n
number_again n tags (amount a) = refl
number_again n tags (tag_found t) = refl

refusal_again : {A : Type 0} (given : List ℕ → Answer A) (x : Refusal) (tags : ℕ) → answer given (told_refusal (table x).number (table x).carries tags) ≡ refusal x
refusal_again given x tags =
    let n = (table x).number in
    let above : 0 < n = number_above_0 x in
    simp (number_again n tags (table x).carries, ne_eqb n 0 (λ e. omega arith), carried_again n tags (table x).carries)

-- what is asked of the value that a reader accepted
abbrev pub OfValue : {A : Type 0} → (A → Type 0) → Result (A × ℕ) Refusal → Type 0
OfValue P (Ok read) = P read.0
OfValue P (Err x) = Unit {0}

-- an answer of a reader is known from its eight numbers, if each value that it may accept is known from those that tell it
module _ {A B : Type 0} (map : A → B) (telling : B → ℕ → List ℕ) (fields : List ℕ → B) (Good : A → Type 0)
    (again : (a : A) (next : ℕ) → Good a → answer (λ l. accepted (fields l) (at l 1)) (telling (map a) next) ≡ accepted (map a) next)
  where
    abbrev given : List ℕ → Answer B
    given l = accepted (fields l) (at l 1)

    read_again : (x : Result (A × ℕ) Refusal) → OfValue Good x → answer given (told_read telling (paper_by map x)) ≡ paper_by map x
    read_again (Ok read) good = again read.0 read.1 good
    read_again (Err x) good = refusal_again given x 0

    pub read_apart : (x y : Result (A × ℕ) Refusal) → OfValue Good x → OfValue Good y → told_read telling (paper_by map x) ≡ told_read telling (paper_by map y) → paper_by map x ≡ paper_by map y
    read_apart x y hx hy = apart (told_read telling) (answer given) (paper_by map x) (paper_by map y) (read_again x hx) (read_again y hy)

-- any value will do
any : {A : Type 0} (x : Result (A × ℕ) Refusal) → OfValue (λ a. Unit {0}) x
any (Ok read) = tt
any (Err x) = tt

abbrev tag_fields : List ℕ → Tag
tag_fields l = tag (of_class (at l 2) (at l 3)) (at l 4)

pub single_told_tag : (x y : Result (program-tag.Tag × ℕ) Refusal) → told_tag (paper_tag x) ≡ told_tag (paper_tag y) → x ≡ y
single_told_tag x y e = single_tag_read x y (read_apart tag_of tag_told tag_fields (λ a. Unit {0}) (λ a next h. ap (λ (k : Number). accepted (tag k a.value) next) (class_back (tag_of a).number)) x y (any x) (any y) e)

pub single_told_unsigned : (x y : Result (ℕ × ℕ) Refusal) → told_unsigned (paper_read x) ≡ told_unsigned (paper_read y) → x ≡ y
single_told_unsigned x y e = single_unsigned x y (read_apart (λ a. a) unsigned_told (λ l. at l 2) (λ a. Unit {0}) (λ a next h. refl) x y (any x) (any y) e)

-- a signed integer of 64 bits is known from its two's complement
pattern_again : (z : ℤ) → mag z < 2 ^ 63 → twos_complement 8 (pattern_of 8 z) ≡ z
pattern_again (pos k) h = let f : k * 2 < 256 ^ 8 = omega arith in simp (lt-ltb (k * 2) (256 ^ 8) f)
pattern_again (negsuc k) h =
    let n : ℕ = 256 ^ 8 - 1 - k in
    let f : 256 ^ 8 ≤ n * 2 = omega arith in
    let g : 256 ^ 8 - 1 - n ≡ k = omega arith in
    simp (le-ltb (n * 2) (256 ^ 8) f) (ap negsuc g)

-- an integer that 64 bits hold
abbrev pub Held64 : Result (ℤ × ℕ) Refusal → Type 0
Held64 = OfValue (λ z. mag z < 2 ^ 63)

pub single_told_signed : (x y : Result (ℤ × ℕ) Refusal) → Held64 x → Held64 y → told_signed (paper_read x) ≡ told_signed (paper_read y) → x ≡ y
single_told_signed x y hx hy e =
    single_signed x y (read_apart (λ z. z) signed_told (λ l. twos_complement 8 (at l 2)) (λ z. mag z < 2 ^ 63) (λ z next h. ap (λ (k : ℤ). accepted k next) (pattern_again z h)) x y hx hy e)

abbrev body_fields : List ℕ → Answer Body
body_fields l = accepted (body (at l 2) (at l 3) (at l 4)) (at l 1)

abbrev body_back : List ℕ → Counted
body_back l = counted (answer body_fields l) (at l 5)

tags_again : (x : Refusal) (tags : ℕ) → at (told_refusal (table x).number (table x).carries tags) 5 ≡ tags
tags_again x tags = by_carried (table x).number (table x).carries tags where
  by_carried : (n : ℕ) (c : Carried) (k : ℕ) → at (told_refusal n c k) 5 ≡ k
  by_carried n (amount a) k = refl
  by_carried n (tag_found a) k = refl

body_again : (x : Result program-body.Body CountedRefusal) → body_back (told_body (paper_body x)) ≡ paper_body x
body_again (Ok x) = refl
body_again (Err x) =
    ap (λ (k : ℕ). counted (answer body_fields (told_refusal (table x.refusal).number (table x.refusal).carries x.tags)) k) (tags_again x.refusal x.tags)
    ∙ ap (λ (a : Answer Body). counted a x.tags) (refusal_again body_fields x.refusal x.tags)

pub single_told_body : (x y : Result program-body.Body CountedRefusal) → told_body (paper_body x) ≡ told_body (paper_body y) → x ≡ y
single_told_body x y e = single_body x y (apart told_body body_back (paper_body x) (paper_body y) (body_again x) (body_again y) e)

-- what stands in the place of a body that is absent
abbrev absence_in : Carried → Absence
absence_in (amount k) = end_of_buffer
absence_in (tag_found t) = other_tag t

absence_again : (place : ℕ) (x : Absence) → absence_in (carried (absence_told place x)) ≡ x
absence_again place end_of_buffer = refl
absence_again place (other_tag t) = by_class t.number t.value
  where
    by_class : (x : Number) (v : ℕ) → absence_in (carried (absence_told place (other_tag (tag x v)))) ≡ other_tag (tag x v)
    by_class (application k) v = refl
    by_class (context k) v = refl
    by_class (opening k) v = refl
    by_class (closing k) v = refl

abbrev optional_back : List ℕ → Optional
optional_back l = if (eqb (at l 6) 2) (absent (absence_in (carried l))) (body_or_refusal (body_back l))

absent_again : (place : ℕ) (x : Absence) → optional_back (absence_told place x) ≡ absent (absence_in (carried (absence_told place x)))
absent_again place end_of_buffer = refl
absent_again place (other_tag t) = refl

-- a refusal has no seventh number
none_seventh : (n tags : ℕ) (c : Carried) → at (told_refusal n c tags) 6 ≡ 0
none_seventh n tags (amount k) = refl
none_seventh n tags (tag_found t) = refl

optional_again : (place : ℕ) (x : Result OptionalBody CountedRefusal) → optional_back (told_optional place (paper_optional x)) ≡ paper_optional x
optional_again place (Ok (o.Present x)) = refl
optional_again place (Ok o.AbsentAtEnd) = refl
optional_again place (Ok (o.AbsentAt t)) = absent_again place (other_tag (tag_of t)) ∙ ap absent (absence_again place (other_tag (tag_of t)))
optional_again place (Err x) = simp (none_seventh (table x.refusal).number x.tags (table x.refusal).carries) (ap body_or_refusal (body_again (Err x)))

-- no two answers to a call at one place are told by the same numbers
pub single_told_optional : (place : ℕ) (x y : Result OptionalBody CountedRefusal) → told_optional place (paper_optional x) ≡ told_optional place (paper_optional y) → x ≡ y
single_told_optional place x y e =
    single_optional x y (apart (told_optional place) optional_back (paper_optional x) (paper_optional y) (optional_again place x) (optional_again place y) e)

-- the count of a walk that passed, and of one that was refused
abbrev walk_in : Answer ℕ → ℕ → Report
walk_in (accepted tags next) k = report tags passed
walk_in (refused n c) k = report k (stopped n c)

abbrev walk_fields : List ℕ → Answer ℕ
walk_fields l = accepted (at l 2) 0

abbrev walk_back : List ℕ → Report
walk_back l = walk_in (answer walk_fields l) (at l 5)

walk_again : (x : Result ℕ CountedRefusal) → walk_back (told_walk (paper_walked x)) ≡ paper_walked x
walk_again (Ok tags) = refl
walk_again (Err x) =
    ap (walk_in (answer walk_fields (told_refusal (table x.refusal).number (table x.refusal).carries x.tags))) (tags_again x.refusal x.tags)
    ∙ ap (λ (a : Answer ℕ). walk_in a x.tags) (refusal_again walk_fields x.refusal x.tags)

pub single_told_walk : (x y : Result ℕ CountedRefusal) → told_walk (paper_walked x) ≡ told_walk (paper_walked y) → x ≡ y
single_told_walk x y e = single_walked x y (apart told_walk walk_back (paper_walked x) (paper_walked y) (walk_again x) (walk_again y) e)

abbrev value_in : List ℕ → Value
value_in l =
    if (eqb (at l 2) 1) (boolean (eqb (at l 3) 1))
    (if (eqb (at l 2) 2) (real (of_bits binary32 (at l 3)))
    (if (eqb (at l 2) 3) (double (of_bits binary64 (at l 3)))
    (if (eqb (at l 2) 4) (on_date (date (at l 3) (at l 4) (at l 5) (at l 6)))
    (if (eqb (at l 2) 5) (at_time (time (at l 3) (at l 4) (at l 5) (at l 6)))
    (if (eqb (at l 2) 6) (object_id (at l 3) (at l 4))
    (if (eqb (at l 2) 7) (character_string (part_at (at l 3) (at l 4)))
    (if (eqb (at l 2) 8) (octet_string (part_at (at l 3) (at l 4)))
    (if (eqb (at l 2) 9) (bit_string (at l 3) (part_at (at l 4) (at l 5)))
    (if (eqb (at l 2) 10) (enumerated (at l 3))
    (if (eqb (at l 2) 11) (unsigned_int (at l 3))
    (signed_int (twos_complement 8 (at l 3)))))))))))))

abbrev value_back : List ℕ → Answer Value
value_back = answer (λ l. accepted (value_in l) (at l 1))

case_again : (x : Value) (next : ℕ) → Held x → value_back (value_told x next) ≡ accepted x next
case_again (boolean true) next h = refl
case_again (boolean false) next h = refl
case_again (real x) next h = ap (λ (a : Float). accepted (real a) next) (of_bits-to_bits binary32 x h)
case_again (double x) next h = ap (λ (a : Float). accepted (double a) next) (of_bits-to_bits binary64 x h)
case_again (on_date d) next h = refl
case_again (at_time a) next h = refl
case_again (object_id n k) next h = refl
case_again (character_string p) next h = refl
case_again (octet_string p) next h = refl
case_again (enumerated x) next h = refl
case_again (bit_string k p) next h = refl
case_again (unsigned_int x) next h = refl
case_again (signed_int z) next h = ap (λ (a : ℤ). accepted (signed_int a) next) (pattern_again z h)

-- a value that the program can hold
abbrev pub HeldRead : Result (ApplicationDataValue × ℕ) Refusal → Type 0
HeldRead = OfValue (λ x. Held (value_of x))

pub single_told_value : (x y : Result (ApplicationDataValue × ℕ) Refusal) → HeldRead x → HeldRead y → told_value (paper_value x) ≡ told_value (paper_value y) → x ≡ y
single_told_value x y hx hy e = single_read x y (read_apart value_of value_told value_in (λ x. Held (value_of x)) (λ a next h. case_again (value_of a) next h) x y hx hy e)

abbrev header_fields : List ℕ → headers.Header
header_fields l = headers.header_of (of_fields (of_type (at l 2)) (at l 3) (at l 4) (at l 5) (at l 6))

abbrev header_back : List ℕ → Answer headers.Header
header_back = answer (λ l. accepted (header_fields l) (at l 1))

kind_again : (x : Header) (next : ℕ) → header_back (header_told (headers.header_of x) next) ≡ accepted (headers.header_of x) next
kind_again x next =
    let ns = headers.field_numbers (headers.header_of x).fields in
    ap (λ (k : headers.Kind). accepted (headers.header_of (of_fields k (at ns 0) (at ns 1) (at ns 2) (at ns 3))) next) (type_back (headers.header_of x).kind)
    ∙ ap (λ (y : Header). accepted (headers.header_of y) next) (header_back_lem x)

pub single_told_header : (x y : Result (Header × ℕ) Refusal) → told_header (paper_header x) ≡ told_header (paper_header y) → x ≡ y
single_told_header x y e = single_header_read x y (read_apart headers.header_of header_told header_fields (λ a. Unit {0}) (λ a next h. kind_again a next) x y (any x) (any y) e)

abbrev outcome_in : Answer (Unit {0}) → Outcome
outcome_in (accepted a next) = passed
outcome_in (refused n c) = stopped n c

abbrev no_fields : List ℕ → Answer (Unit {0})
no_fields l = accepted tt 0

abbrev check_back : List ℕ → Outcome
check_back l = outcome_in (answer no_fields l)

check_again : (x : Result (Unit {0}) Refusal) → check_back (told_check (paper_outcome x)) ≡ paper_outcome x
check_again (Ok u) = refl
check_again (Err x) = ap outcome_in (refusal_again no_fields x 0)

pub single_told_check : (x y : Result (Unit {0}) Refusal) → told_check (paper_outcome x) ≡ told_check (paper_outcome y) → x ≡ y
single_told_check x y e = single_outcome x y (apart told_check check_back (paper_outcome x) (paper_outcome y) (check_again x) (check_again y) e)

abbrev write_fields : List ℕ → Answer (Unit {0})
write_fields l = accepted tt (at l 1)

abbrev write_back : List ℕ → Answer (Unit {0})
write_back = answer write_fields

write_again : (x : Result ℕ Refusal) → write_back (told_write (paper_written x)) ≡ paper_written x
write_again (Ok next) = refl
write_again (Err x) = refusal_again write_fields x 0

pub single_told_write : (x y : Result ℕ Refusal) → told_write (paper_written x) ≡ told_write (paper_written y) → x ≡ y
single_told_write x y e = single_written x y (apart told_write write_back (paper_written x) (paper_written y) (write_again x) (write_again y) e)

-- a state is known from its numbers, so the next call goes on from the one that this call led to
pub state_again : (s : State) → state_in (state_numbers s) ≡ s
state_again s = simp (truth_again s.begun, truth_again s.finished)
  where
    truth_again : (b : Bool) → not (eqb (boolean_byte b) 0) ≡ b
    truth_again true = refl
    truth_again false = refl

-- what became of a frame, from its eight numbers and those of the state then
abbrev taken_in : Answer (Unit {0}) → (outcome : ℕ) → State → TakeAnswer
taken_in (accepted a next) outcome s = if (eqb outcome 1) (more s) (finished s)
taken_in (refused n c) outcome s = segments.refused n c

abbrev taken_back : (told numbers : List ℕ) → TakeAnswer
taken_back l ns = taken_in (answer no_fields l) (at l 2) (state_in ns)

taken_again : (ns : List ℕ) (x : Result program-taken.Taken Refusal) → taken_back (told_taken (paper_taken x)) (numbers_then ns (paper_taken x)) ≡ paper_taken x
taken_again ns (Ok (ta.More s)) = ap more (state_again (state_of s))
taken_again ns (Ok (ta.Finished s)) = ap finished (state_again (state_of s))
taken_again ns (Err x) = ap (λ (a : Answer (Unit {0})). taken_in a (at (told_taken (paper_taken (Err x))) 2) (state_in ns)) (refusal_again no_fields x 0)

-- no two answers are told by the same numbers, with the same numbers of a state then
pub single_told_taken : (ns : List ℕ) (x y : Result program-taken.Taken Refusal) → told_taken (paper_taken x) ≡ told_taken (paper_taken y) → numbers_then ns (paper_taken x) ≡ numbers_then ns (paper_taken y) → x ≡ y
single_told_taken ns x y told numbers = single_taken x y (sym (taken_again ns x) ∙ (λ i. taken_back (told i) (numbers i)) ∙ taken_again ns y)
