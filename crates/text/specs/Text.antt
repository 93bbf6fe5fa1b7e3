-- Text in ASCII: numbers in decimal, words, lines, and what putting one into a buffer leaves (document 01, "The program").
-- Assumes nothing.
use Rattle.std.specs.Prelude.{◌≡◌, List, [], ◌∷◌, ◌++◌, ℕ, zero, suc, ◌+◌, ◌*◌, ◌/◌, ◌%◌, ltb, length}
use Rattle.std.proofs.lemmas.List.Edits.{sets}
use Rattle.types.specs.Choice.{if}

-- bytes were stored in xs from a place on, which left ys, and next is the place after them
pub record Wrote (xs : List ℕ) (place : ℕ) (bytes ys : List ℕ) (next : ℕ) : Type 0 where
  pub buffer : ys ≡ sets xs place bytes
  pub after : next ≡ place + length bytes

-- the last k decimal digits of n, the most significant first
abbrev pub digits : ℕ → ℕ → List ℕ
digits zero n = []
digits (suc k) n = digits k (n / 10) ++ ((48 + n % 10) ∷ [])

-- how many decimal digits n takes, up to f + 1
abbrev pub count_of : ℕ → ℕ → ℕ
count_of zero n = 1
count_of (suc f) n = if (ltb n 10) 1 (suc (count_of f (n / 10)))

-- a number of 64 bits in decimal
unfoldable pub decimal : ℕ → List ℕ
decimal n = digits (count_of 19 n) n

abbrev pub decimals : List ℕ → List (List ℕ)
decimals [] = []
decimals (n ∷ ns) = decimal n ∷ decimals ns

-- words, each with a space behind it
abbrev pub spaced : List (List ℕ) → List ℕ
spaced [] = []
spaced (w ∷ ws) = (w ++ (32 ∷ [])) ++ spaced ws

-- words with a space between two, and a newline at the end
abbrev pub line : List (List ℕ) → List ℕ
line [] = []
line (w ∷ []) = w ++ (10 ∷ [])
line (w ∷ v ∷ ws) = w ++ (32 ∷ line (v ∷ ws))

-- the room that a number takes at most: the twenty digits of 64 bits, and the byte behind them
abbrev pub number_room : ℕ
number_room = 21

-- the most numbers before a line's word, and behind it
abbrev pub most_numbers : ℕ
most_numbers = 4

-- the most letters of a line's word
abbrev pub most_letters : ℕ
most_letters = 15

-- the room that a line takes at most, from its word on and in all
abbrev pub last_room : ℕ
last_room = most_letters + 1 + most_numbers * number_room

abbrev pub line_room : ℕ
line_room = most_numbers * number_room + last_room

-- the line of numbers, a word and numbers that is put at a place of a buffer of that size: nothing where it has too many of them, or the buffer no room for every line
unfoldable pub words_in : (size place : ℕ) (before word after : List ℕ) → List ℕ
words_in size place before word after =
    if (ltb most_numbers (length before)) []
    (if (ltb most_letters (length word)) []
    (if (ltb most_numbers (length after)) []
    (if (ltb size (place + line_room)) []
    (line (decimals before ++ (word ∷ decimals after))))))
