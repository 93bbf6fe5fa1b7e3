-- About the code alone: plain items whose tag has one byte, as the scan passes them by that byte. No promise to a caller cites this; the law `plain_step` says what it is worth.
-- Assumes nothing.
use Rattle.std.specs.Prelude.{ℕ, ◌+◌, ◌/◌, ◌%◌, ltb, eqb}
use Rattle.types.specs.Choice.{if}

-- the bytes of the item that begins with this byte, where that is a whole tag which neither opens nor closes, else 0: low bits 0 to 4 are the length of its content, which a Boolean has not
abbrev pub plain_length : ℕ → ℕ
plain_length first =
    if (ltb 4 (first % 8)) 0
    (if (ltb 247 first) 0
    (if (eqb (first / 8) 2) 1
    (first % 8 + 1)))
