-- Lines of hexadecimal (document 01, "The program"): two digits a byte, either case, no more digits than a frame has; else 19.
-- Assumes nothing.
use Rattle.std.specs.Prelude.{Bool, false, List, [], ◌∷◌, ℕ, ◌+◌, ◌-◌, ◌*◌, ◌<◌, ltb, eqb, length, take, Option, Some, None}
use Rattle.types.specs.Choice.{if}

-- the most bytes of a frame, and the most digits of its line
abbrev pub most_bytes : ℕ
most_bytes = 1476

abbrev pub most_digits : ℕ
most_digits = 2 * most_bytes

-- the value of a digit, 0 to 9, A to F or a to f; 16 for any other byte
unfoldable pub nibble_of : ℕ → ℕ
nibble_of c =
    if (ltb c 48) 16
    (if (ltb c 58) (c - 48)
    (if (ltb c 65) 16
    (if (ltb c 71) (c - 55)
    (if (ltb c 97) 16
    (if (ltb c 103) (c - 87) 16)))))

-- what the program says of a byte: the value of a digit, and none for any other
abbrev pub digit_of : ℕ → Option ℕ
digit_of c = if (ltb 15 (nibble_of c)) None (Some (nibble_of c))

-- and of a pair: the byte that its digits stand for
abbrev pub paper_digits : Option ℕ → List ℕ
paper_digits (Some byte) = byte ∷ []
paper_digits None = []

-- a line of digits, and the bytes that they stand for
pub data Spells : List ℕ → List ℕ → Type 0 where
  none : Spells [] []
  two : {a b : ℕ} {digits bytes : List ℕ} → nibble_of a < 16 → nibble_of b < 16 → Spells digits bytes
      → Spells (a ∷ b ∷ digits) ((nibble_of a * 16 + nibble_of b) ∷ bytes)

-- the bytes that pairs of digits stand for, up to the first that is no pair of digits
abbrev pub pairs : List ℕ → List ℕ
pairs [] = []
pairs (a ∷ []) = []
pairs (a ∷ b ∷ r) =
    if (ltb 15 (nibble_of a)) []
    (if (ltb 15 (nibble_of b)) []
    ((nibble_of a * 16 + nibble_of b) ∷ pairs r))

-- no more of them than a frame has
abbrev pub leading : List ℕ → List ℕ
leading xs = take most_bytes (pairs xs)

-- whether a line is a frame's: no more digits than that, two for each byte
unfoldable pub is_frame : List ℕ → Bool
is_frame l = if (ltb most_digits (length l)) false (eqb (length l) (length (pairs l) + length (pairs l)))
