-- A list put number by number into an array that was all 0.
-- Assumes nothing.
use mathlib.Core.Path.{◌≡◌, refl, ap}
use Prim.Native.Nat.{ℕ, zero, suc, ◌<◌}
use native.Mathlib.Omega.{arith}
use mathlib.Core.List.{List, [], ◌∷◌}
use lib.ListN.{length, get_or, take, set}
use Rattle.types.specs.Padded.{padded}

-- one number more of it stands in the array
pub filled_further : (n : ℕ) (xs : List ℕ) (i : ℕ) → i < length xs → i < n → set (padded n (take i xs)) i (get_or xs i 0) ≡ padded n (take (suc i) xs)
filled_further zero xs i h l = absurd (omega arith)
filled_further (suc n) [] i h l = absurd (omega arith)
filled_further (suc n) (x ∷ xs) zero h l = refl
filled_further (suc n) (x ∷ xs) (suc i) h l = ap (λ (t : List ℕ). x ∷ t) (filled_further n xs i (omega arith) (omega arith))
