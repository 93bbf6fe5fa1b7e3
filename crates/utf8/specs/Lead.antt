-- About the code alone: what its answer on a first byte says of the table. No promise to a caller cites this.
-- Assumes nothing.
use Rattle.std.specs.Prelude.{cond, List, [], ◌∷◌, ℕ, zero, suc, Option as Answer, Some, None}
use Rattle.std.proofs.Math.Option.{Option, none, some}
use Rattle.utf8.specs.declared.lead.Follow.{Follow}
use Rattle.utf8.specs.Table.{%x, CharacterRow}
use Rattle.utf8.specs.Check.{within}

-- what follows the byte in the first of the rows whose first range has it
unfoldable pub tails_of : List CharacterRow → ℕ → Option CharacterRow
tails_of [] byte = none
tails_of ([] ∷ rows) byte = tails_of rows byte
tails_of ((%x low high ∷ row) ∷ rows) byte = cond (within low high byte) (some row) (tails_of rows byte)

-- so many ranges, of which the first is from low to high and the others are tails
unfoldable pub ranges : ℕ → ℕ → ℕ → CharacterRow
ranges zero low high = []
ranges (suc count) low high = %x low high ∷ ranges count 0x80 0xBF

-- what the code's answer says is to follow
unfoldable pub as_tails : Answer Follow → Option CharacterRow
as_tails (Some follow) = some (ranges follow.count follow.low follow.high)
as_tails None = none
