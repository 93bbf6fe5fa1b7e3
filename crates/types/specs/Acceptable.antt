-- Which writes are to be accepted, said and not computed (document 01, "Refusal numbers").
-- Assumes nothing.
use Rattle.std.specs.Prelude.{ℕ, ◌+◌, ◌≤◌, List, length}
use Rattle.types.specs.Answer.{Answer, accepted, refused}

-- a write of so many bytes at a place: neither the buffer nor the lent content is too long (else 1), the place lies inside (2), what is to be written can be (12, 11, 10), and there is room (13)
pub record Acceptable (lent : ℕ) (Can : Type 0) (count : ℕ) (xs : List ℕ) (place : ℕ) : Type 0 where
  pub short : length xs ≤ 65535
  pub content : lent ≤ 65535
  pub inside : place ≤ length xs
  pub writable : Can
  pub room : place + count ≤ length xs

-- an answer that is no refusal
abbrev pub IsAccepted : {A : Type 0} → Answer A → Type 0
IsAccepted (accepted a next) = Unit {0}
IsAccepted (refused n c) = ⊥
