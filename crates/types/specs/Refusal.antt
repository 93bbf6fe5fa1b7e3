-- Document 01, "Refusal numbers", and from 24 on document 02, K9: a row for each case, with its number and what it carries.
-- Assumes nothing.
use Rattle.std.specs.Prelude.{ℕ}
use Rattle.types.specs.Tag.{Tag, tag_of}
use Rattle.types.specs.declared.refusal.Refusal.{Refusal}
use Rattle.types.specs.declared.refusal.Refusal.TheVariants as r
use Rattle.types.specs.declared.carried.Carried as program
use Rattle.types.specs.declared.carried.Carried.TheVariants as c
use Rattle.types.specs.declared.row.RefusalRow.{RefusalRow}

-- what a refusal carries: a number, or the tag found
pub data Carried : Type 0 where
  amount : ℕ → Carried
  tag_found : Tag → Carried

pub record Row : Type 0 where
  pub number : ℕ
  pub carries : Carried

abbrev pub row : ℕ → Carried → Row
row n c = record { number = n; carries = c }

-- each refusal's number and what it carries
abbrev pub table : Refusal → Row
table (r.BufferTooLong length) = row 1 (amount length)
table (r.PlacePastEnd place) = row 2 (amount place)
table (r.BytesRunOut end) = row 3 (amount end)
table (r.OtherTagNumber found) = row 4 (tag_found (tag_of found))
table (r.OtherTagValue found) = row 5 (tag_found (tag_of found))
table (r.NoOpeningTag found) = row 6 (tag_found (tag_of found))
table (r.LengthNotAllowed length) = row 7 (amount length)
table (r.NotAValueTag found) = row 8 (tag_found (tag_of found))
table (r.OtherCharacterSet set) = row 9 (amount set)
table (r.TextNotUtf8 place) = row 10 (amount place)
table (r.ServiceChoiceTooLarge choice) = row 11 (amount choice)
table r.CannotBeWritten = row 12 (amount 0)
table (r.NoRoom length) = row 13 (amount length)
table (r.AllowanceSpent tags) = row 14 (amount tags)
table (r.ClosingWithoutOpening place) = row 15 (amount place)
table (r.TooManyBlocksOpen place) = row 16 (amount place)
table (r.OtherPduType control) = row 17 (amount control)
table r.EnumeratedTooLarge = row 18 (amount 0)
table r.LineNotHexadecimal = row 19 (amount 0)
table r.WindowNotAllowed = row 24 (amount 0)
table r.OtherIdOrChoice = row 25 (amount 0)
table r.OtherSequence = row 26 (amount 0)
table r.AlreadyFinished = row 27 (amount 0)

-- the program's enum for what a refusal carries
abbrev pub carried_of : program.Carried → Carried
carried_of (c.Amount n) = amount n
carried_of (c.TagFound t) = tag_found (tag_of t)

-- a row of the program, on paper
abbrev pub paper_row : RefusalRow → Row
paper_row x = row x.number (carried_of x.carried)
