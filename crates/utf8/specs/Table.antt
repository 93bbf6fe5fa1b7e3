-- RFC 3629, section 4: the grammar's alternatives as a table, a row each, under the RFC's names.
-- Assumes nothing.
use Rattle.std.specs.Prelude.{List, [], ◌∷◌, ◌++◌, ℕ}

-- %xLOW-HIGH: the bytes from low to high
pub data Range : Type 0 where
  %x : (low high : ℕ) → Range

-- a row: the range of each byte of a character, in order
abbrev pub CharacterRow : Type 0
CharacterRow = List Range

-- UTF8-tail = %x80-BF
abbrev pub UTF8-tail : Range
UTF8-tail = %x 0x80 0xBF

-- UTF8-1 = %x00-7F
unfoldable pub UTF8-1 : List CharacterRow
UTF8-1 = (%x 0x00 0x7F ∷ []) ∷ []

-- UTF8-2 = %xC2-DF UTF8-tail
unfoldable pub UTF8-2 : List CharacterRow
UTF8-2 = (%x 0xC2 0xDF ∷ UTF8-tail ∷ []) ∷ []

-- UTF8-3 = %xE0 %xA0-BF UTF8-tail / %xE1-EC 2( UTF8-tail ) / %xED %x80-9F UTF8-tail / %xEE-EF 2( UTF8-tail )
unfoldable pub UTF8-3 : List CharacterRow
UTF8-3 =
    (%x 0xE0 0xE0 ∷ %x 0xA0 0xBF ∷ UTF8-tail ∷ [])
    ∷ (%x 0xE1 0xEC ∷ UTF8-tail ∷ UTF8-tail ∷ [])
    ∷ (%x 0xED 0xED ∷ %x 0x80 0x9F ∷ UTF8-tail ∷ [])
    ∷ (%x 0xEE 0xEF ∷ UTF8-tail ∷ UTF8-tail ∷ [])
    ∷ []

-- UTF8-4 = %xF0 %x90-BF 2( UTF8-tail ) / %xF1-F3 3( UTF8-tail ) / %xF4 %x80-8F 2( UTF8-tail )
unfoldable pub UTF8-4 : List CharacterRow
UTF8-4 =
    (%x 0xF0 0xF0 ∷ %x 0x90 0xBF ∷ UTF8-tail ∷ UTF8-tail ∷ [])
    ∷ (%x 0xF1 0xF3 ∷ UTF8-tail ∷ UTF8-tail ∷ UTF8-tail ∷ [])
    ∷ (%x 0xF4 0xF4 ∷ %x 0x80 0x8F ∷ UTF8-tail ∷ UTF8-tail ∷ [])
    ∷ []

-- UTF8-char = UTF8-1 / UTF8-2 / UTF8-3 / UTF8-4
unfoldable pub UTF8-char : List CharacterRow
UTF8-char = UTF8-1 ++ UTF8-2 ++ UTF8-3 ++ UTF8-4
