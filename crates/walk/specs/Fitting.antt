-- About the code alone: whether a tag fits the numbers that are kept for the open blocks. No promise to a caller cites this.
-- Assumes nothing.
use Rattle.std.specs.Prelude.{ℕ, ◌<◌, Bool, true, List, get_or, eqb}
use Rattle.types.specs.Tag.{Number, application, context, opening, closing}

-- a closing tag has the number of the block at its depth
abbrev pub fits_by : Number → (depth : ℕ) → (kept : List ℕ) → Bool
fits_by (application n) depth os = true
fits_by (context n) depth os = true
fits_by (opening n) depth os = true
fits_by (closing n) depth os = eqb n (get_or os depth 0)

-- of so many places there is one for the number of the block that a tag opens
abbrev pub Keepable : Number → (depth places : ℕ) → Type 0
Keepable (application n) depth places = Unit {0}
Keepable (context n) depth places = Unit {0}
Keepable (opening n) depth places = depth < places
Keepable (closing n) depth places = Unit {0}
