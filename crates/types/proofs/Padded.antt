-- What stands in an array that was filled up with zeros: the list's own numbers, if the array is long enough, and the list in front.
-- Assumes nothing.
use mathlib.Core.Path.{◌≡◌, refl, ap}
use Prim.Native.Nat.{ℕ, zero, suc, ◌<◌, ◌≤◌}
use native.Mathlib.Omega.{arith}
use mathlib.Core.List.{List, [], ◌∷◌}
use lib.ListN.{length, get_or, take}
use Rattle.types.specs.Padded.{padded}

-- a place inside the array has the list's number, or 0 where the list has ended
pub padded_at : (n i : ℕ) (xs : List ℕ) → i < n → get_or (padded n xs) i 0 ≡ get_or xs i 0
padded_at zero i xs h = absurd (omega arith)
padded_at (suc n) zero [] h = refl
padded_at (suc n) (suc i) [] h = padded_at n i [] (omega arith)
padded_at (suc n) zero (x ∷ xs) h = refl
padded_at (suc n) (suc i) (x ∷ xs) h = padded_at n i xs (omega arith)

-- the array's first numbers are the list
pub padded_front : (n : ℕ) (xs : List ℕ) → length xs ≤ n → take (length xs) (padded n xs) ≡ xs
padded_front zero [] h = refl
padded_front zero (x ∷ xs) h = absurd (omega arith)
padded_front (suc n) [] h = refl
padded_front (suc n) (x ∷ xs) h = ap (λ (t : List ℕ). x ∷ t) (padded_front n xs (omega arith))

pub padded_length : (n : ℕ) (xs : List ℕ) → length (padded n xs) ≡ n
padded_length zero xs = refl
padded_length (suc n) [] = ap suc (padded_length n [])
padded_length (suc n) (x ∷ xs) = ap suc (padded_length n xs)
