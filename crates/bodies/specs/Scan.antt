-- What asking for a body answers, on all inputs (document 01, "Bodies"): the body is found tag by tag, with an allowance of tags.
-- Assumes nothing.
use Rattle.std.specs.Prelude.{ℕ, zero, suc, ◌+◌, ◌-◌, List, length, ltb, eqb, Result, Ok, Err}
use Rattle.types.specs.Choice.{if}
use Rattle.types.specs.Tag.{Number, application, context, opening, closing, Tag}
use Rattle.types.specs.Refusal.{Carried, amount, tag_found, table}
use Rattle.types.specs.Answer.{Answer, accepted, refused, refusal}
use Rattle.tags.specs.Reading.{tag_from, expected_from}
use Rattle.bodies.specs.Item.{content_length}
use Rattle.types.specs.declared.refusal.Refusal.{Refusal}
use Rattle.types.specs.declared.counted.CountedRefusal.{CountedRefusal}
use Rattle.bodies.specs.declared.body.Body as program-body
use Rattle.bodies.specs.declared.scan.Step as program
use Rattle.bodies.specs.declared.scan.Step.TheVariants as s

-- a body that is handed over: where its view starts, the view's length, and the body's number
pub record Body : Type 0 where
  pub start : ℕ
  pub size : ℕ
  pub number : ℕ

abbrev pub body : (start size n : ℕ) → Body
body start size n = record { start = start; size = size; number = n }

-- an answer with the number of tags that were wholly read after the opening
pub record Counted : Type 0 where
  pub answer : Answer Body
  pub tags : ℕ

abbrev pub counted : Answer Body → (read : ℕ) → Counted
counted a read = record { answer = a; tags = read }

-- a body, with the place after its closing tag and the count
abbrev pub handed : (start size n next read : ℕ) → Counted
handed start size n next read = counted (accepted (body start size n) next) read

-- a refusal before any tag was read after the opening
abbrev pub unread : ℕ → Carried → Counted
unread k c = counted (refused k c) 0

-- what the next tag means for a scan: a refusal; the closing tag of the body, with the place after it; or an item, with the openings of n that are unclosed so far and the place after it
pub data ScanStep : Type 0 where
  stops : ℕ → Carried → ScanStep
  body_closed : (next : ℕ) → ScanStep
  onward : (unclosed place : ℕ) → ScanStep

-- by the tag's number, where the tag ends at next and its content at a place: openings of n are counted as unclosed until their closing; a closing of n ends the body where none is
abbrev pub scan_step_by : (n unclosed : ℕ) → Number → (next place : ℕ) → ScanStep
scan_step_by n unclosed (opening m) next place = if (eqb m n) (onward (unclosed + 1) place) (onward unclosed place)
scan_step_by n unclosed (closing m) next place =
    if (eqb m n) (if (eqb unclosed 0) (body_closed next) (onward (unclosed - 1) place))
    (onward unclosed place)
scan_step_by n unclosed (application m) next place = onward unclosed place
scan_step_by n unclosed (context m) next place = onward unclosed place

-- by the tag, with the place after it
unfoldable pub scan_step_after : (n unclosed : ℕ) → Tag → (next : ℕ) → ScanStep
scan_step_after n unclosed t next = scan_step_by n unclosed t.number next (next + content_length t)

abbrev pub scan_step_of : (n unclosed : ℕ) → Answer Tag → ScanStep
scan_step_of n unclosed (accepted t next) = scan_step_after n unclosed t next
scan_step_of n unclosed (refused k c) = stops k c

-- by the tag at a place; where the content of the item before passed the end, 3 carries the buffer's length
unfoldable pub scan_step_from : (n unclosed : ℕ) → List ℕ → (place : ℕ) → ScanStep
scan_step_from n unclosed xs place =
    if (ltb (length xs) place) (stops 3 (amount (length xs)))
    (scan_step_of n unclosed (tag_from xs place))

-- what a step at a place leads to: an answer with the tags read so far, or with the closing tag one more, or what follows
abbrev pub scan_turn : (n start read place : ℕ) → ScanStep → ((unclosed place : ℕ) → Counted) → Counted
scan_turn n start read place (stops r c) on = counted (refused r c) read
scan_turn n start read place (body_closed next) on = handed start (place - start) n next (read + 1)
scan_turn n start read place (onward unclosed after) on = on unclosed after

-- a body of number n whose view starts at a place, with so many tags read and openings unclosed so far, from another place on: before each tag the allowance is tested, then the tag is read
unfoldable pub scan_from : (allowance n start read unclosed : ℕ) → List ℕ → (place : ℕ) → Counted
scan_from zero n start read unclosed xs place = counted (refused 14 (amount read)) read
scan_from (suc allowance) n start read unclosed xs place =
    scan_turn n start read place (scan_step_from n unclosed xs place) (λ d p. scan_from allowance n start (read + 1) d xs p)

-- a body whose opening tag ends at a place
abbrev pub scanned : (allowance n : ℕ) → List ℕ → (place : ℕ) → Counted
scanned allowance n xs place = scan_from allowance n place 0 0 xs place

-- by the number of the tag found, which is to be an opening
abbrev pub body_by : (allowance : ℕ) → Number → Tag → List ℕ → (next : ℕ) → Counted
body_by allowance (opening n) t xs next = scanned allowance n xs next
body_by allowance (closing n) t xs next = unread 6 (tag_found t)
body_by allowance (application n) t xs next = unread 6 (tag_found t)
body_by allowance (context n) t xs next = unread 6 (tag_found t)

abbrev pub body_of : (allowance : ℕ) → List ℕ → Answer Tag → Counted
body_of allowance xs (accepted t next) = body_by allowance t.number t xs next
body_of allowance xs (refused k c) = unread k c

-- the body whose opening tag is at a place
unfoldable pub body_from : (allowance : ℕ) → List ℕ → (place : ℕ) → Counted
body_from allowance xs place = body_of allowance xs (tag_from xs place)

abbrev pub body_for_of : (expected allowance : ℕ) → List ℕ → Answer Tag → Counted
body_for_of expected allowance xs (accepted t next) = scanned allowance expected xs next
body_for_of expected allowance xs (refused k c) = unread k c

-- the body whose opening tag, of the number expected, is at a place
unfoldable pub body_for_from : (expected allowance : ℕ) → List ℕ → (place : ℕ) → Counted
body_for_from expected allowance xs place = body_for_of expected allowance xs (expected_from (opening expected) xs place)

-- what the program answers, on paper
abbrev pub scan_step : program.Step → ScanStep
scan_step (s.Closed next) = body_closed next
scan_step (s.Onward unclosed place) = onward unclosed place

abbrev pub paper_step : Result program.Step Refusal → ScanStep
paper_step (Ok step) = scan_step step
paper_step (Err r) = stops (table r).number (table r).carries

abbrev pub counted_body : program-body.Body → Counted
counted_body b = handed b.start b.len b.number b.next b.tags

abbrev pub counted_refusal : CountedRefusal → Counted
counted_refusal r = counted (refusal r.refusal) r.tags

abbrev pub paper_body : Result program-body.Body CountedRefusal → Counted
paper_body (Ok b) = counted_body b
paper_body (Err r) = counted_refusal r
