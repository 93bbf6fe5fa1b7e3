-- Reading a tag (ASHRAE 135, 20.2.1, as 01 restates it), and what is expected of one.
-- Assumes nothing.
use Rattle.std.specs.Prelude.{ℕ, Bool, false, List, ltb, eqb, Result}
use Rattle.types.specs.Choice.{if}
use Rattle.types.specs.Tag.{Number, application, context, opening, closing, class_of, number_in, Tag, tag, number_of, tag_of}
use Rattle.types.specs.Refusal.{tag_found}
use Rattle.types.specs.Answer.{Answer, accepted, refused, paper_by, then, Outcome, passed, stopped}
use Rattle.numbers.specs.Reading.{byte_from, fixed_from}
use Rattle.tags.specs.Header.{class_bit, number_field, low_bits}
use Rattle.types.specs.declared.tag.Tag as program
use Rattle.types.specs.declared.tag.TagNumber.{TagNumber}
use Rattle.types.specs.declared.refusal.Refusal.{Refusal}

-- the number that the first byte tells: its field, but in context class a field of 15 says that the next byte is the number (20.2.1.2)
abbrev pub number_told : (first : ℕ) → List ℕ → ℕ → Answer ℕ
number_told first xs place =
    if (eqb (class_bit first) 0) (accepted (number_field first) place)
    (if (ltb (number_field first) 15) (accepted (number_field first) place)
    (byte_from xs place))

-- the class and number of a tag in context class: low bits 6 open and 7 close a block, and any other are an ordinary tag's (20.2.1.3.2)
abbrev pub context_number : (low n : ℕ) → Number
context_number low n =
    if (eqb low 6) (opening n)
    (if (eqb low 7) (closing n)
    (context n))

-- the class and number of a tag whose first byte and number are known (20.2.1.1)
abbrev pub numbered : (first n : ℕ) → Number
numbered first n = if (eqb (class_bit first) 0) (application n) (context_number (low_bits first) n)

-- the class and number that the first byte tells
unfoldable pub number_from : ℕ → List ℕ → ℕ → Answer Number
number_from first xs place = then (number_told first xs place) (λ n next. accepted (numbered first n) next)

-- the value that the low bits tell: 0 to 4 are the value; 5 says that a byte follows, where 254 means two more bytes, 255 four more, and any other is the value; 6 and 7 give 0
unfoldable pub tag_value_from : ℕ → List ℕ → ℕ → Answer ℕ
tag_value_from low xs place =
    if (ltb low 5) (accepted low place)
    (if (eqb low 5)
    (then (byte_from xs place) (λ b next.
    if (eqb b 254) (fixed_from 2 xs next)
    (if (eqb b 255) (fixed_from 4 xs next)
    (accepted b next))))
    (accepted 0 place))

-- the tag whose first byte is known
unfoldable pub tag_after : ℕ → List ℕ → ℕ → Answer Tag
tag_after first xs place =
    then (number_from first xs place) (λ n after.
    then (tag_value_from (low_bits first) xs after) (λ v next.
    accepted (tag n v) next))

-- the tag at a place
unfoldable pub tag_from : List ℕ → ℕ → Answer Tag
tag_from xs place = then (byte_from xs place) (λ first next. tag_after first xs next)

-- one class and one number
abbrev pub same_number : Number → Number → Bool
same_number a b = if (eqb (class_of a) (class_of b)) (eqb (number_in a) (number_in b)) false

-- the tag at a place, which is to have the number expected
unfoldable pub expected_from : Number → List ℕ → ℕ → Answer Tag
expected_from expected xs place =
    then (tag_from xs place) (λ t next.
    if (same_number t.number expected) (accepted t next) (refused 4 (tag_found t)))

-- whether a tag has the number expected, else 4
unfoldable pub expected_number : Number → Tag → Outcome
expected_number expected t = if (same_number t.number expected) passed (stopped 4 (tag_found t))

-- whether it has the value expected, else 5
unfoldable pub expected_value : ℕ → Tag → Outcome
expected_value expected t = if (eqb t.value expected) passed (stopped 5 (tag_found t))

abbrev pub paper_tag : Result (program.Tag × ℕ) Refusal → Answer Tag
paper_tag = paper_by tag_of

abbrev pub paper_number : Result (TagNumber × ℕ) Refusal → Answer Number
paper_number = paper_by number_of
