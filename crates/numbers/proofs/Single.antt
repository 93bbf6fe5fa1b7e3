-- No two answers of a reader are the same on paper, so each promise admits a single one.
-- Assumes nothing.
use mathlib.Core.Path.{◌≡◌, refl, sym, ◌∙◌}
use Prim.Native.Nat.{ℕ}
use mathlib.Core.List.{List}
use lib.IntN.{ℤ}
use Rattle.std.specs.declared.result.Result.{Result}
use Rattle.std.specs.declared.result.Result.TheVariants.{Ok, Err}
use Rattle.types.specs.declared.refusal.Refusal.{Refusal}
use Rattle.types.specs.Answer.{paper_read}
use Rattle.types.proofs.Single.{single_by, single_read}
use Rattle.numbers.specs.Reading.{Part, slice_from, part_of, lies_at, paper_slice, paper_part, handed_over}
use Rattle.numbers.specs.declared.reading.Slice.{Slice}
use Rattle.numbers.specs.declared.reading.View.{View}

-- a byte, a number of two or four bytes and an unsigned integer are numbers on paper
pub single_byte : (x y : Result (ℕ × ℕ) Refusal) → paper_read x ≡ paper_read y → x ≡ y
single_byte = single_read

pub single_word : (x y : Result (ℕ × ℕ) Refusal) → paper_read x ≡ paper_read y → x ≡ y
single_word = single_read

pub single_unsigned : (x y : Result (ℕ × ℕ) Refusal) → paper_read x ≡ paper_read y → x ≡ y
single_unsigned = single_read

pub single_signed : (x y : Result (ℤ × ℕ) Refusal) → paper_read x ≡ paper_read y → x ≡ y
single_signed = single_read

abbrev slice : Part → Slice
slice p = record { start = p.start; len = p.size }

pub single_slice : (x y : Result (Slice × ℕ) Refusal) → paper_slice x ≡ paper_slice y → x ≡ y
single_slice = single_by lies_at slice (λ s. refl)

-- what `part` promises of its answer
abbrev pub Parted : ℕ → List ℕ → ℕ → Result (View × ℕ) Refusal → Type 0
Parted n xs place r = (paper_part r ≡ slice_from n xs place) × (handed_over r ≡ part_of n xs place)

-- where the part lies, or the refusal
abbrev pub outcome : Result (View × ℕ) Refusal → Result (Slice × ℕ) Refusal
outcome (Ok read) = Ok (read.0.slice, read.1)
outcome (Err r) = Err r

same_outcome : (x : Result (View × ℕ) Refusal) → paper_slice (outcome x) ≡ paper_part x
same_outcome (Ok read) = refl
same_outcome (Err r) = refl

-- it fixes where the part lies or the refusal, and the bytes
pub single_part : (n : ℕ) (xs : List ℕ) (place : ℕ) (x y : Result (View × ℕ) Refusal) → Parted n xs place x → Parted n xs place y → (outcome x ≡ outcome y) × (handed_over x ≡ handed_over y)
single_part n xs place x y p q =
    (single_slice (outcome x) (outcome y) (same_outcome x ∙ p.0 ∙ sym q.0 ∙ sym (same_outcome y)), p.1 ∙ sym q.1)
