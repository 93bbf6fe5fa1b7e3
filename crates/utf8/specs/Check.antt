-- RFC 3629: the check, which computes. Its answer is good, or the first place where no well-formed sequence begins.
-- Assumes nothing.
use Rattle.std.specs.Prelude.{Bool, true, false, cond, ◌&&◌, List, [], ◌∷◌, ℕ, zero, suc, leb, length}
use Rattle.utf8.specs.Table.{%x, CharacterRow, UTF8-char}

-- the check's answer
pub data Verdict : Type 0 where
  good : Verdict
  bad_at : (place : ℕ) → Verdict

-- the byte is from low to high
unfoldable pub within : ℕ → ℕ → ℕ → Bool
within low high byte = leb low byte && leb byte high

-- the bytes begin with one in each range of the row
unfoldable pub begins : CharacterRow → List ℕ → Bool
begins [] bytes = true
begins (range ∷ row) [] = false
begins (%x low high ∷ row) (byte ∷ bytes) = within low high byte && begins row bytes

-- the length of the first of the rows with which the bytes begin, or 0 where they begin with none
unfoldable pub sequence_length : List CharacterRow → List ℕ → ℕ
sequence_length [] bytes = 0
sequence_length (row ∷ rows) bytes = cond (begins row bytes) (length row) (sequence_length rows bytes)

-- the answer at a place where a sequence of so many bytes begins: bad if of none; else the answer after its first byte, with the others pending
unfoldable pub after_first : ℕ → (ℕ → Verdict) → ℕ → Verdict
after_first place after zero = bad_at place
after_first place after (suc pending) = after pending

-- the answer from a place on, with so many bytes of a sequence pending
unfoldable pub check_from : ℕ → ℕ → List ℕ → Verdict
check_from place pending [] = good
check_from place (suc pending) (byte ∷ bytes) = check_from (suc place) pending bytes
check_from place zero (byte ∷ bytes) = after_first place (λ pending. check_from (suc place) pending bytes) (sequence_length UTF8-char (byte ∷ bytes))

-- the answer on a whole text
unfoldable pub check_of : List ℕ → Verdict
check_of text = check_from 0 0 text
