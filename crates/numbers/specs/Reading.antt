-- Bytes and integers read at a place of a buffer, in 01's order of refusals, and the maps from the program's answers.
-- Assumes nothing.
use Rattle.std.specs.Prelude.{ℕ, ◌+◌, List, [], length, get_or, take, drop, ltb, leb, ℤ, Result, Ok, Err}
use Rattle.types.specs.Choice.{if}
use Rattle.types.specs.Refusal.{amount}
use Rattle.types.specs.Answer.{Answer, accepted, refused, paper_by, then, guarded}
use Rattle.numbers.specs.Integer.{unsigned_value, signed_value}
use Rattle.types.specs.declared.refusal.Refusal.{Refusal}
use Rattle.numbers.specs.declared.reading.Slice.{Slice}
use Rattle.numbers.specs.declared.reading.View.{View}

-- the byte at a place; where it is missing, 3 carries the buffer's end
unfoldable pub byte_from : List ℕ → ℕ → Answer ℕ
byte_from xs place =
    guarded xs place
    (if (leb (length xs) place) (refused 3 (amount (length xs)))
    (accepted (get_or xs place 0) (place + 1)))

-- a part of a buffer: where it starts, and its length
pub record Part : Type 0 where
  pub start : ℕ
  pub size : ℕ

abbrev pub part_at : ℕ → ℕ → Part
part_at start size = record { start = start; size = size }

abbrev pub bytes_in : List ℕ → Part → List ℕ
bytes_in xs p = take p.size (drop p.start xs)

-- the part of n bytes from a place on; where it does not end inside the buffer, 3 carries the place where it should
unfoldable pub slice_from : ℕ → List ℕ → ℕ → Answer Part
slice_from n xs place =
    guarded xs place
    (if (ltb (length xs) (place + n)) (refused 3 (amount (place + n)))
    (accepted (part_at place n) (place + n)))

-- its bytes, or none where there is no such part
abbrev pub bytes_or : List ℕ → Answer Part → List ℕ
bytes_or xs (accepted p next) = bytes_in xs p
bytes_or xs (refused n c) = []

-- the bytes of the part of n bytes from a place on
unfoldable pub part_of : ℕ → List ℕ → ℕ → List ℕ
part_of n xs place = bytes_or xs (slice_from n xs place)

-- the number that n bytes from a place on stand for, where the format fixes n
unfoldable pub fixed_from : ℕ → List ℕ → ℕ → Answer ℕ
fixed_from n xs place = then (slice_from n xs place) (λ p next. accepted (unsigned_value (bytes_in xs p)) next)

-- an integer's content of n bytes, 1 to 8; another length is refused 7 before any byte is read
unfoldable pub content_from : ℕ → List ℕ → ℕ → Answer Part
content_from n xs place =
    guarded xs place
    (if (ltb n 1) (refused 7 (amount n))
    (if (ltb 8 n) (refused 7 (amount n))
    (slice_from n xs place)))

-- the unsigned integer whose content has n bytes (20.2.4)
unfoldable pub unsigned_from : ℕ → List ℕ → ℕ → Answer ℕ
unsigned_from n xs place = then (content_from n xs place) (λ p next. accepted (unsigned_value (bytes_in xs p)) next)

-- the signed integer whose content has n bytes (20.2.5)
unfoldable pub signed_from : ℕ → List ℕ → ℕ → Answer ℤ
signed_from n xs place = then (content_from n xs place) (λ p next. accepted (signed_value (bytes_in xs p)) next)

-- where a part of the program lies, on paper
abbrev pub lies_at : Slice → Part
lies_at s = part_at s.start s.len

abbrev pub paper_slice : Result (Slice × ℕ) Refusal → Answer Part
paper_slice = paper_by lies_at

-- where a part that is handed over lies
abbrev pub paper_part : Result (View × ℕ) Refusal → Answer Part
paper_part = paper_by (λ v. lies_at v.slice)

-- the bytes that are handed over, none with a refusal
abbrev pub handed_over : Result (View × ℕ) Refusal → List ℕ
handed_over (Ok read) = read.0.bytes.now
handed_over (Err r) = []
