-- The lines of a whole input (document 01, "The program").
-- Assumes nothing.
use Rattle.std.specs.Prelude.{Bool, List, [], ◌∷◌, ◌++◌, ℕ, eqb}
use Rattle.types.specs.Choice.{if}

-- the lines that a newline ends, where some of the first stands before the bytes already
abbrev pub whole_on : List ℕ → List ℕ → List (List ℕ)
whole_on line [] = []
whole_on line (b ∷ bs) = if (eqb b 10) (line ∷ whole_on [] bs) (whole_on (line ++ (b ∷ [])) bs)

-- and what stands behind the last newline
abbrev pub rest_on : List ℕ → List ℕ → List ℕ
rest_on line [] = line
rest_on line (b ∷ bs) = if (eqb b 10) (rest_on [] bs) (rest_on (line ++ (b ∷ [])) bs)

-- which is a line too, if it is not empty
abbrev pub last_of : List ℕ → List (List ℕ)
last_of [] = []
last_of (b ∷ bs) = (b ∷ bs) ∷ []

-- the lines of bytes, of which the last counts only where the input has ended
abbrev pub lines_by : Bool → List ℕ → List (List ℕ)
lines_by ended bytes = whole_on [] bytes ++ if ended (last_of (rest_on [] bytes)) []
