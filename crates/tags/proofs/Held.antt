-- How many bytes a header has.
-- Assumes nothing.
use Prim.Native.Nat.{ℕ, ◌+◌, ◌*◌, ◌≤◌}
use native.Mathlib.Omega.{arith}
use mathlib.Core.Bool.{Bool, true, false}
use mathlib.Core.List.{[], ◌∷◌}
use lib.ListN.{length, length-append}
use lib.Dec.{ltb, lit≤}
use Rattle.types.specs.Choice.{if}
use Rattle.types.specs.Tag.{Number, application, context, opening, closing, Tag}
use Rattle.tags.specs.Writing.{low_bits_for, tag_value_bytes, context_bytes, number_bytes, tag_bytes}
use Rattle.tags.proofs.BySize.{most_five}

-- at most two bytes tell a context number
pub context_short : (n low : ℕ) → length (context_bytes n low) ≤ 2
context_short n low = go (ltb n 15)
  where
    go : (a : Bool) → length (if a ((n * 16 + 8 + low) ∷ []) ((248 + low) ∷ n ∷ [])) ≤ 2
    go true = lit≤ tt
    go false = lit≤ tt

-- a header has at most seven bytes
pub header_short : (t : Tag) → length (tag_bytes t) ≤ 7
unfolding tag_bytes
header_short t = go t.number
  where
    go : (n : Number) → length (number_bytes n t.value) ≤ 7
    go (application n) = omega (arith, most_five t.value)
    go (context n) = omega (arith, most_five t.value, context_short n (low_bits_for t.value), length-append (context_bytes n (low_bits_for t.value)) (tag_value_bytes t.value))
    go (opening n) = omega (arith, context_short n 6)
    go (closing n) = omega (arith, context_short n 7)
