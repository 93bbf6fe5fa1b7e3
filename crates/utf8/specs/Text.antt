-- RFC 3629, section 4: what well-formed text is, as the grammar says it. Nothing here computes.
-- Assumes nothing.
use mathlib.Core.List.{List, [], ◌∷◌, ◌++◌, Memᴰ as OneOf}
use Rattle.std.specs.Prelude.{◌≡◌, ℕ, ◌≤◌, ◌<◌, length, take, drop}
use Rattle.utf8.specs.Table.{%x, CharacterRow, UTF8-char}

-- the bytes are one in each range of the row, in order
pub data Each : CharacterRow → List ℕ → Type 0 where
  none : Each [] []
  next : {low high byte : ℕ} {row : CharacterRow} {bytes : List ℕ} → low ≤ byte → byte ≤ high → Each row bytes → Each (%x low high ∷ row) (byte ∷ bytes)

-- UTF8-char: the bytes are one character, by one of the table's rows
pub data Character : List ℕ → Type 0 where
  character : {row : CharacterRow} {bytes : List ℕ} → OneOf row UTF8-char → Each row bytes → Character bytes

-- UTF8-octets = *( UTF8-char ): the bytes are characters in a row
pub data Text : List ℕ → Type 0 where
  empty : Text []
  followed : {bytes rest : List ℕ} → Character bytes → Text rest → Text (bytes ++ rest)

-- the place is inside the bytes, those before it are the longest text with which they begin, and no character begins there
pub record BadPlace (bytes : List ℕ) (place : ℕ) : Type 0 where
  pub inside : place < length bytes
  pub before : Text (take place bytes)
  pub nothing_begins : (c rest : List ℕ) → Character c → drop place bytes ≡ c ++ rest → ⊥
  pub longest : (other : ℕ) → other ≤ length bytes → Text (take other bytes) → other ≤ place
