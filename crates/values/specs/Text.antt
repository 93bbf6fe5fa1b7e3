-- Character strings (ASHRAE 135, 20.2.9): the set byte, which is to be 0 (UTF-8), and then the text.
-- Assumes nothing.
use Rattle.std.specs.Prelude.{ℕ, suc, ◌+◌, ◌-◌, ◌≡◌, List, ◌∷◌, ltb, eqb, length}
use Rattle.types.specs.Choice.{if}
use Rattle.types.specs.Refusal.{amount}
use Rattle.types.specs.Answer.{Answer, accepted, refused, then, Outcome, passed, stopped}
use Rattle.types.specs.Writing.{Writable, can, cannot}
use Rattle.numbers.specs.Reading.{Part, part_at, bytes_in, byte_from, slice_from}
use Rattle.utf8.specs.Text.{Text}
use Rattle.utf8.specs.Check.{check_of}
use Rattle.utf8.specs.Answer.{text_outcome}

abbrev pub text_read : Outcome → Part → ℕ → Answer Part
text_read passed part next = accepted part next
text_read (stopped n c) part next = refused n c

-- a part of the buffer that the check passes; else by its number, and with what that carries
unfoldable pub text_in : List ℕ → Part → ℕ → Answer Part
text_in xs part next = text_read (text_outcome (check_of (bytes_in xs part))) part next

-- of no length it is refused 7, before any byte is read; then another set 9, before the text's bytes
unfoldable pub text_under : ℕ → List ℕ → ℕ → Answer Part
text_under len xs place =
    if (ltb len 1) (refused 7 (amount len))
    (then (byte_from xs place) (λ set after.
    if (eqb set 0) (then (slice_from (len - 1) xs after) (text_in xs))
    (refused 9 (amount set))))

-- the same, said and not computed: content of this length that begins at this place has this text
pub record IsText (len place : ℕ) (bytes : List ℕ) (p : Part) : Type 0 where
  pub text : List ℕ
  pub behind_set : bytes ≡ 0 ∷ text
  pub utf8 : Text text
  pub sized : len ≡ suc (length text)
  pub lies : p ≡ part_at (place + 1) (length text)

-- text that the check passes can be written
abbrev pub text_writable_by : Outcome → Writable
text_writable_by passed = can
text_writable_by (stopped n c) = cannot n c

unfoldable pub text_writable : List ℕ → Writable
text_writable lent = text_writable_by (text_outcome (check_of lent))
