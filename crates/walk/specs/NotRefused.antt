-- What a walk that passes says of the call for an optional body.
-- Assumes nothing.
use Rattle.std.specs.Prelude.{ℕ, ◌≤◌, List, [], ◌∷◌, length}
use Rattle.types.specs.Acceptable.{IsAccepted}
use Rattle.bodies.specs.Optional.{Optional, body_or_refusal, absent, optional_from}
use Rattle.walk.specs.Walk.{Seen}

-- no refusal: a body, or that it is absent
abbrev pub IsNotRefused : Optional → Type 0
IsNotRefused (body_or_refusal x) = IsAccepted x.answer
IsNotRefused (absent a) = Unit {0}

-- at a place `get_optional_tagged_body` is not refused, whatever number is asked for, with any allowance no smaller than the buffer
abbrev pub NotRefusedAt : List ℕ → ℕ → Type 0
NotRefusedAt xs place = (n allowance : ℕ) → length xs ≤ allowance → IsNotRefused (optional_from n allowance xs place)

-- at the place of every tag of a list
abbrev pub NoneRefused : List ℕ → List Seen → Type 0
NoneRefused xs [] = Unit {0}
NoneRefused xs (t ∷ tags) = NotRefusedAt xs t.place × NoneRefused xs tags
