-- Reading a header (ASHRAE 135, 20.1, as 01 restates it): one rule for the fixed bytes of every row and one for the enumerated values behind them, and the maps from the program's answers.
-- Assumes nothing.
use Rattle.std.specs.Prelude.{ℕ, zero, suc, ◌/◌, ◌%◌, Bool, true, false, List, [], ◌∷◌, ◌++◌, ltb, eqb, Option, None, Some, Result}
use Rattle.types.specs.Choice.{if}
use Rattle.types.specs.Refusal.{amount}
use Rattle.types.specs.Answer.{Answer, accepted, refused, paper_by, then}
use Rattle.numbers.specs.Reading.{byte_from}
use Rattle.values.specs.Enumerated.{enumerated_from}
use Rattle.headers.specs.Header.{Kind, Field, two_nibbles, one_number, one_choice, FieldValue, nibbles, number, choice, enumeration, Header, header, HeaderRow, row_of, kinds, header_of}
use Rattle.headers.specs.declared.header.Header as program
use Rattle.types.specs.declared.refusal.Refusal.{Refusal}

-- what a byte carries; a service choice goes to 33
abbrev pub told : Field → ℕ → ℕ → Answer FieldValue
told two_nibbles b next = accepted (nibbles (b / 16) (b % 16)) next
told one_number b next = accepted (number b) next
told one_choice b next = if (ltb 33 b) (refused 11 (amount b)) (accepted (choice b) next)

-- what the bytes of a row carry, in their order
abbrev pub fields_from : List Field → List ℕ → ℕ → Answer (List FieldValue)
fields_from [] xs place = accepted [] place
fields_from (f ∷ fs) xs place =
    then (byte_from xs place) (λ b after.
    then (told f b after) (λ v behind.
    then (fields_from fs xs behind) (λ vs next.
    accepted (v ∷ vs) next)))

-- so many enumerated values, one behind the other
abbrev pub enumerations_from : ℕ → List ℕ → ℕ → Answer (List FieldValue)
enumerations_from zero xs place = accepted [] place
enumerations_from (suc n) xs place =
    then (enumerated_from xs place) (λ x behind.
    then (enumerations_from n xs behind) (λ vs next.
    accepted (enumeration x ∷ vs) next))

-- what stands behind the control byte: the bytes of a row, then its enumerated values
abbrev pub following_from : HeaderRow → List ℕ → ℕ → Answer (List FieldValue)
following_from r xs place =
    then (fields_from r.follow xs place) (λ vs behind.
    then (enumerations_from r.enumerations xs behind) (λ ws next.
    accepted (vs ++ ws) next))

-- the header of a kind, from behind its control byte on, which holds these
abbrev pub kind_from : Kind → List FieldValue → List ℕ → ℕ → Answer Header
kind_from k held xs place = then (following_from (row_of k) xs place) (λ vs next. accepted (header k (held ++ vs)) next)

-- whether a control byte has a row's type, and does not say that the PDU is a segment
abbrev pub tells : HeaderRow → ℕ → Bool
tells r control = if (eqb (control / 16) r.pdu_type) (if r.segmentable (eqb (control / 8 % 2) 0) true) false

-- the header of the first kind that the control byte tells; where it tells none, 17 carries it
abbrev pub first_of : List Kind → ℕ → List ℕ → ℕ → Answer Header
first_of [] control xs place = refused 17 (amount control)
first_of (k ∷ ks) control xs place = if (tells (row_of k) control) (kind_from k ((row_of k).held control) xs place) (first_of ks control xs place)

-- the first kind that a control byte tells, if it tells one
abbrev pub first_told : List Kind → ℕ → Option Kind
first_told [] control = None
first_told (k ∷ ks) control = if (tells (row_of k) control) (Some k) (first_told ks control)

unfoldable pub header_after : ℕ → List ℕ → ℕ → Answer Header
header_after control xs place = first_of kinds control xs place

-- the header at a place
unfoldable pub header_from : List ℕ → ℕ → Answer Header
header_from xs place = then (byte_from xs place) (λ control after. header_after control xs after)

abbrev pub paper_header : Result (program.Header × ℕ) Refusal → Answer Header
paper_header = paper_by header_of

abbrev pub paper_pair : Result ((ℕ × ℕ) × ℕ) Refusal → Answer (List FieldValue)
paper_pair = paper_by (λ p. number p.0 ∷ choice p.1 ∷ [])

abbrev pub paper_numbers : Result ((ℕ × ℕ) × ℕ) Refusal → Answer (List FieldValue)
paper_numbers = paper_by (λ p. number p.0 ∷ number p.1 ∷ [])
