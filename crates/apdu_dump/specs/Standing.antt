-- About the code alone: where the work stands after the lines of a read, and between two reads. No promise to a caller cites this.
-- Assumes nothing.
use Rattle.std.specs.Prelude.{◌≡◌, Bool, false, List, ℕ, ◌+◌, ◌≤◌, length, Option, Some, None, Result, Ok, Err}
use Rattle.types.specs.Writing.{over}
use Rattle.lines.specs.Lines.{kept_of}
use Rattle.dump.specs.Stream.{Calls}
use Rattle.apdu_dump.specs.declared.failure.Failure.{Failure}
use Rattle.apdu_dump.specs.declared.texts.LinesPut.{LinesPut}
use Rattle.apdu_dump.specs.declared.texts.Standing.{Standing}

-- of so many bytes read, each line has one at least
abbrev pub Numbered : Result LinesPut Failure → ℕ → ℕ → Type 0
Numbered (Ok put) first read = put.number ≤ first + read
Numbered (Err e) first read = Unit {0}

-- a read has no more lines than bytes
abbrev pub Goes : Result (Option Standing) Failure → ℕ → ℕ → Type 0
Goes (Ok (Some on)) first read = on.number ≤ first + read
Goes (Ok None) first read = Unit {0}
Goes (Err e) first read = Unit {0}

-- calls of `put_line` as `Calls` has them, from the first line of what was read to a place and the number of the line there
pub record Made (xs : List ℕ) (ended : Bool) (first last count : ℕ) : Type 0 where
  pub text : List ℕ
  pub calls : Calls xs ended 0 first text last count

abbrev pub Makes : Result LinesPut Failure → List ℕ → Bool → ℕ → Type 0
Makes (Ok put) xs ended first = Made xs ended first put.start put.number
Makes (Err e) xs ended first = Unit {0}

-- such calls, and then `keep` on the same bytes from that place on, as `Reading` has it of a piece
pub record Taken (xs : List ℕ) (first kept count : ℕ) (ys : List ℕ) : Type 0 where
  pub last : ℕ
  pub made : Made xs false first last count
  pub many : kept ≡ length (kept_of xs last)
  pub bytes : ys ≡ over xs 0 (kept_of xs last)

abbrev pub Takes : Result (Option Standing) Failure → List ℕ → ℕ → List ℕ → Type 0
Takes (Ok (Some on)) xs first ys = Taken xs first on.kept on.number ys
Takes (Ok None) xs first ys = Unit {0}
Takes (Err e) xs first ys = Unit {0}
