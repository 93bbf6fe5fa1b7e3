-- Bit strings (ASHRAE 135, 20.2.10): the count of unused bits, and then the bytes.
-- Assumes nothing.
use Rattle.std.specs.Prelude.{ℕ, suc, ◌+◌, ◌-◌, ◌≤◌, ◌≡◌, List, ◌∷◌, ltb, eqb, length}
use Rattle.types.specs.Choice.{if}
use Rattle.types.specs.Refusal.{amount}
use Rattle.types.specs.Answer.{Answer, accepted, refused, then}
use Rattle.types.specs.Writing.{Writable, can, unwritable}
use Rattle.numbers.specs.Reading.{Part, part_at, byte_from, slice_from}

-- how many bits of the last byte are unused, and where the bytes lie
pub record Bits : Type 0 where
  pub unused : ℕ
  pub part : Part

-- of no length it is refused 7, before any byte is read
unfoldable pub bits_under : ℕ → List ℕ → ℕ → Answer Bits
bits_under len xs place =
    if (ltb len 1) (refused 7 (amount len))
    (then (byte_from xs place) (λ unused after.
    then (slice_from (len - 1) xs after) (λ part next.
    accepted (record { unused = unused; part = part }) next)))

-- the same, said and not computed: content of this length that begins at this place is this bit string
pub record IsBits (len place : ℕ) (bytes : List ℕ) (b : Bits) : Type 0 where
  pub string : List ℕ
  pub behind_count : bytes ≡ b.unused ∷ string
  pub sized : len ≡ suc (length string)
  pub lies : b.part ≡ part_at (place + 1) (length string)

-- at most seven unused bits, and none where there are no bytes
unfoldable pub bits_writable : ℕ → List ℕ → Writable
bits_writable unused lent = if (ltb 7 unused) unwritable (if (eqb unused 0) can (if (eqb (length lent) 0) unwritable can))

abbrev pub BitsWrite : ℕ → List ℕ → Type 0
BitsWrite unused lent = (unused ≤ 7) × (length lent ≡ 0 → unused ≡ 0)
