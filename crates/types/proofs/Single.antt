-- The paper's answer tells the program's: no two tags, refusals, things carried or answers are the same on paper, so each promise admits a single one.
-- Assumes nothing.
use mathlib.Core.Path.{◌≡◌, refl, ◌∙◌, ap, sym}
use Prim.Native.Nat.{ℕ}
use lib.Dec.{eqb}
use Rattle.std.specs.declared.result.Result.{Result}
use Rattle.std.specs.declared.result.Result.TheVariants.{Ok, Err}
use Rattle.types.specs.Choice.{if}
use Rattle.types.specs.Tag.{Number, application, context, opening, closing, Tag, application_of, number_of, tag_of}
use Rattle.types.specs.Refusal.{Carried, amount, tag_found, Row, row, table, carried_of, paper_row}
use Rattle.types.specs.Answer.{Answer, accepted, refused, paper_by, paper_read, Outcome, passed, stopped, paper_outcome}
use Rattle.types.specs.Writing.{paper_written}
use Rattle.types.specs.declared.tag.ApplicationTagNumber.{ApplicationTagNumber}
use Rattle.types.specs.declared.tag.ApplicationTagNumber.TheVariants as a
use Rattle.types.specs.declared.tag.TagNumber.{TagNumber}
use Rattle.types.specs.declared.tag.TagNumber.TheVariants as n
use Rattle.types.specs.declared.tag.Tag as program
use Rattle.types.specs.declared.refusal.Refusal.{Refusal}
use Rattle.types.specs.declared.refusal.Refusal.TheVariants as r
use Rattle.types.specs.declared.carried.Carried as program-carried
use Rattle.types.specs.declared.carried.Carried.TheVariants as c
use Rattle.types.specs.declared.row.RefusalRow.{RefusalRow}

-- a map that can be undone tells its arguments apart
pub told_apart : {A B : Type 0} (map : A → B) (back : B → A) → ((x : A) → back (map x) ≡ x) → (x y : A) → map x ≡ map y → x ≡ y
told_apart map back undone x y e = sym (undone x) ∙ ap back e ∙ undone y

abbrev named : ℕ → ApplicationTagNumber
named k =
    if (eqb k 0) a.Null (if (eqb k 1) a.Boolean (if (eqb k 2) a.UnsignedInt (if (eqb k 3) a.SignedInt
    (if (eqb k 4) a.Real (if (eqb k 5) a.Double (if (eqb k 6) a.OctetString (if (eqb k 7) a.CharacterString
    (if (eqb k 8) a.BitString (if (eqb k 9) a.Enumerated (if (eqb k 10) a.Date (if (eqb k 11) a.Time
    (if (eqb k 12) a.ObjectId (if (eqb k 13) a.Reserve1 (if (eqb k 14) a.Reserve2 a.Reserve3))))))))))))))

-- each name is known by its number
pub named_back : (x : ApplicationTagNumber) → named (application_of x) ≡ x
named_back a.Null = refl
named_back a.Boolean = refl
named_back a.UnsignedInt = refl
named_back a.SignedInt = refl
named_back a.Real = refl
named_back a.Double = refl
named_back a.OctetString = refl
named_back a.CharacterString = refl
named_back a.BitString = refl
named_back a.Enumerated = refl
named_back a.Date = refl
named_back a.Time = refl
named_back a.ObjectId = refl
named_back a.Reserve1 = refl
named_back a.Reserve2 = refl
named_back a.Reserve3 = refl

abbrev pub program_number : Number → TagNumber
program_number (application k) = n.Application (named k)
program_number (context k) = n.ContextSpecific k
program_number (opening k) = n.ContextSpecificOpening k
program_number (closing k) = n.ContextSpecificClosing k

pub number_back : (x : TagNumber) → program_number (number_of x) ≡ x
number_back (n.Application x) = ap n.Application (named_back x)
number_back (n.ContextSpecific k) = refl
number_back (n.ContextSpecificOpening k) = refl
number_back (n.ContextSpecificClosing k) = refl

abbrev pub program_tag : Tag → program.Tag
program_tag t = record { number = program_number t.number; value = t.value }

pub tag_back : (x : program.Tag) → program_tag (tag_of x) ≡ x
tag_back x = ap (λ (k : TagNumber). record { number = k; value = x.value }) (number_back x.number)

-- no two tags are the same on paper
pub single_tag : (x y : program.Tag) → tag_of x ≡ tag_of y → x ≡ y
single_tag = told_apart tag_of program_tag tag_back

abbrev carried : Carried → program-carried.Carried
carried (amount n) = c.Amount n
carried (tag_found t) = c.TagFound (program_tag t)

carried_back : (x : program-carried.Carried) → carried (carried_of x) ≡ x
carried_back (c.Amount n) = refl
carried_back (c.TagFound t) = ap c.TagFound (tag_back t)

-- no two things that a refusal carries are the same on paper
pub single_carried : (x y : program-carried.Carried) → carried_of x ≡ carried_of y → x ≡ y
single_carried = told_apart carried_of carried carried_back

-- no two rows are the same on paper
pub single_row : (x y : RefusalRow) → paper_row x ≡ paper_row y → x ≡ y
single_row =
    told_apart paper_row (λ (x : Row). record { number = x.number; carried = carried x.carries })
    (λ (x : RefusalRow). ap (λ (c : program-carried.Carried). record { number = x.number; carried = c }) (carried_back x.carried))

abbrev by_amount : ℕ → ℕ → Refusal
by_amount k c =
    if (eqb k 1) (r.BufferTooLong c) (if (eqb k 2) (r.PlacePastEnd c) (if (eqb k 3) (r.BytesRunOut c)
    (if (eqb k 7) (r.LengthNotAllowed c) (if (eqb k 9) (r.OtherCharacterSet c) (if (eqb k 10) (r.TextNotUtf8 c)
    (if (eqb k 11) (r.ServiceChoiceTooLarge c) (if (eqb k 12) r.CannotBeWritten (if (eqb k 13) (r.NoRoom c)
    (if (eqb k 14) (r.AllowanceSpent c) (if (eqb k 15) (r.ClosingWithoutOpening c) (if (eqb k 16) (r.TooManyBlocksOpen c)
    (if (eqb k 17) (r.OtherPduType c) (if (eqb k 18) r.EnumeratedTooLarge
    (if (eqb k 19) r.LineNotHexadecimal (if (eqb k 24) r.WindowNotAllowed (if (eqb k 25) r.OtherIdOrChoice
    (if (eqb k 26) r.OtherSequence r.AlreadyFinished)))))))))))))))))

abbrev by_tag : ℕ → Tag → Refusal
by_tag k t =
    if (eqb k 4) (r.OtherTagNumber (program_tag t)) (if (eqb k 5) (r.OtherTagValue (program_tag t))
    (if (eqb k 6) (r.NoOpeningTag (program_tag t)) (r.NotAValueTag (program_tag t))))

abbrev by_carried : ℕ → Carried → Refusal
by_carried k (amount c) = by_amount k c
by_carried k (tag_found t) = by_tag k t

abbrev pub program_refusal : Row → Refusal
program_refusal x = by_carried x.number x.carries

pub refusal_back : (x : Refusal) → program_refusal (table x) ≡ x
refusal_back (r.BufferTooLong c) = refl
refusal_back (r.PlacePastEnd c) = refl
refusal_back (r.BytesRunOut c) = refl
refusal_back (r.OtherTagNumber t) = ap r.OtherTagNumber (tag_back t)
refusal_back (r.OtherTagValue t) = ap r.OtherTagValue (tag_back t)
refusal_back (r.NoOpeningTag t) = ap r.NoOpeningTag (tag_back t)
refusal_back (r.LengthNotAllowed c) = refl
refusal_back (r.NotAValueTag t) = ap r.NotAValueTag (tag_back t)
refusal_back (r.OtherCharacterSet c) = refl
refusal_back (r.TextNotUtf8 c) = refl
refusal_back (r.ServiceChoiceTooLarge c) = refl
refusal_back r.CannotBeWritten = refl
refusal_back (r.NoRoom c) = refl
refusal_back (r.AllowanceSpent c) = refl
refusal_back (r.ClosingWithoutOpening c) = refl
refusal_back (r.TooManyBlocksOpen c) = refl
refusal_back (r.OtherPduType c) = refl
refusal_back r.EnumeratedTooLarge = refl
refusal_back r.LineNotHexadecimal = refl
refusal_back r.WindowNotAllowed = refl
refusal_back r.OtherIdOrChoice = refl
refusal_back r.OtherSequence = refl
refusal_back r.AlreadyFinished = refl

-- no two refusals are the same on paper
pub single_refusal : (x y : Refusal) → table x ≡ table y → x ≡ y
single_refusal = told_apart table program_refusal refusal_back

-- no two answers of a reader are the same on paper, if no two values are
module _ {A B : Type 0} (map : A → B) (back : B → A) (undone : (x : A) → back (map x) ≡ x) where
  abbrev read : Answer B → Result (A × ℕ) Refusal
  read (accepted b next) = Ok (back b, next)
  read (refused k c) = Err (program_refusal (row k c))

  read_back : (x : Result (A × ℕ) Refusal) → read (paper_by map x) ≡ x
  read_back (Ok x) = ap (λ (a : A). Ok (a, x.1)) (undone x.0)
  read_back (Err x) = ap Err (refusal_back x)

  pub single_by : (x y : Result (A × ℕ) Refusal) → paper_by map x ≡ paper_by map y → x ≡ y
  single_by = told_apart (paper_by map) read read_back

pub single_read : {A : Type 0} (x y : Result (A × ℕ) Refusal) → paper_read x ≡ paper_read y → x ≡ y
single_read = single_by (λ x. x) (λ x. x) (λ x. refl)

abbrev written : Answer (Unit {0}) → Result ℕ Refusal
written (accepted u next) = Ok next
written (refused k c) = Err (program_refusal (row k c))

written_back : (x : Result ℕ Refusal) → written (paper_written x) ≡ x
written_back (Ok next) = refl
written_back (Err x) = ap Err (refusal_back x)

-- no two answers of a writer are the same on paper
pub single_written : (x y : Result ℕ Refusal) → paper_written x ≡ paper_written y → x ≡ y
single_written = told_apart paper_written written written_back

abbrev outcome : Outcome → Result (Unit {0}) Refusal
outcome passed = Ok tt
outcome (stopped k c) = Err (program_refusal (row k c))

outcome_back : (x : Result (Unit {0}) Refusal) → outcome (paper_outcome x) ≡ x
outcome_back (Ok u) = refl
outcome_back (Err x) = ap Err (refusal_back x)

-- no two outcomes are the same on paper
pub single_outcome : (x y : Result (Unit {0}) Refusal) → paper_outcome x ≡ paper_outcome y → x ≡ y
single_outcome = told_apart paper_outcome outcome outcome_back
