-- Every refusal has a number above 0, which tells it from what is accepted.
-- Assumes nothing.
use Prim.Native.Nat.{◌<◌}
use lib.Dec.{lit<}
use Rattle.types.specs.Refusal.{table}
use Rattle.types.specs.declared.refusal.Refusal.{Refusal}
use Rattle.types.specs.declared.refusal.Refusal.TheVariants as r

pub number_above_0 : (x : Refusal) → 0 < (table x).number
number_above_0 (r.BufferTooLong c) = lit< tt
number_above_0 (r.PlacePastEnd c) = lit< tt
number_above_0 (r.BytesRunOut c) = lit< tt
number_above_0 (r.OtherTagNumber t) = lit< tt
number_above_0 (r.OtherTagValue t) = lit< tt
number_above_0 (r.NoOpeningTag t) = lit< tt
number_above_0 (r.LengthNotAllowed c) = lit< tt
number_above_0 (r.NotAValueTag t) = lit< tt
number_above_0 (r.OtherCharacterSet c) = lit< tt
number_above_0 (r.TextNotUtf8 c) = lit< tt
number_above_0 (r.ServiceChoiceTooLarge c) = lit< tt
number_above_0 r.CannotBeWritten = lit< tt
number_above_0 (r.NoRoom c) = lit< tt
number_above_0 (r.AllowanceSpent c) = lit< tt
number_above_0 (r.ClosingWithoutOpening c) = lit< tt
number_above_0 (r.TooManyBlocksOpen c) = lit< tt
number_above_0 (r.OtherPduType c) = lit< tt
number_above_0 r.EnumeratedTooLarge = lit< tt
number_above_0 r.LineNotHexadecimal = lit< tt
number_above_0 r.WindowNotAllowed = lit< tt
number_above_0 r.OtherIdOrChoice = lit< tt
number_above_0 r.OtherSequence = lit< tt
number_above_0 r.AlreadyFinished = lit< tt
