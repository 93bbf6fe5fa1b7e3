-- The numbers of the confirmed service choices (ASHRAE 135, clause 21, BACnetConfirmedServiceChoice; document 01: none is above 33).
-- Assumes nothing.
use Rattle.std.specs.Prelude.{ℕ, zero, suc, List, [], ◌∷◌, ◌++◌}

-- the numbers below a number, in rising order
abbrev pub below : ℕ → List ℕ
below zero = []
below (suc n) = below n ++ (n ∷ [])

-- 0 to 33: each choice's number is its place in the standard's list. Which name stands for which number is no part of this: the oracle holds the names to the given Rust's enum
abbrev pub service_choices : List ℕ
service_choices = below 34
