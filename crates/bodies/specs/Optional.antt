-- What asking for an optional body, which its sender may leave out, answers on all inputs: the body of a number at a place if one stands there, with document 01's refusals in their order.
-- Assumes nothing.
use Rattle.std.specs.Prelude.{ℕ, List, length, ltb, eqb, Result, Ok, Err}
use Rattle.types.specs.Choice.{if}
use Rattle.types.specs.Tag.{opening, Tag, tag_of}
use Rattle.types.specs.Refusal.{amount}
use Rattle.types.specs.Answer.{Answer, accepted, refused}
use Rattle.tags.specs.Reading.{tag_from, same_number}
use Rattle.bodies.specs.Scan.{Counted, unread, scanned, counted_body, counted_refusal}
use Rattle.types.specs.declared.counted.CountedRefusal.{CountedRefusal}
use Rattle.bodies.specs.declared.optional.OptionalBody.{OptionalBody}
use Rattle.bodies.specs.declared.optional.OptionalBody.TheVariants as o

-- why a body is absent at a place: the buffer ends there, or another tag than the body's opening stands there
pub data Absence : Type 0 where
  end_of_buffer : Absence
  other_tag : Tag → Absence

-- a body or a refusal, with the count of tags; or that the body is absent
pub data Optional : Type 0 where
  body_or_refusal : Counted → Optional
  absent : Absence → Optional

-- by the tag at the place: behind the opening of the number expected the body is looked for; with any other tag it is absent
abbrev pub optional_of : (expected allowance : ℕ) → List ℕ → Answer Tag → Optional
optional_of expected allowance xs (accepted t next) =
    if (same_number t.number (opening expected)) (body_or_refusal (scanned allowance expected xs next))
    (absent (other_tag t))
optional_of expected allowance xs (refused k c) = body_or_refusal (unread k c)

-- the body of the number expected, if one stands at a place: the buffer's length and the place are tested; at the buffer's end it is absent; else the tag tells
unfoldable pub optional_from : (expected allowance : ℕ) → List ℕ → (place : ℕ) → Optional
optional_from expected allowance xs place =
    if (ltb 65535 (length xs)) (body_or_refusal (unread 1 (amount (length xs))))
    (if (ltb (length xs) place) (body_or_refusal (unread 2 (amount place)))
    (if (eqb place (length xs)) (absent end_of_buffer)
    (optional_of expected allowance xs (tag_from xs place))))

abbrev pub paper_optional : Result OptionalBody CountedRefusal → Optional
paper_optional (Ok (o.Present b)) = body_or_refusal (counted_body b)
paper_optional (Ok o.AbsentAtEnd) = absent end_of_buffer
paper_optional (Ok (o.AbsentAt t)) = absent (other_tag (tag_of t))
paper_optional (Err r) = body_or_refusal (counted_refusal r)
