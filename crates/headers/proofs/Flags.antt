-- The number that stands for a flag.
-- Assumes nothing.
use mathlib.Core.Path.{◌≡◌, refl}
use mathlib.Core.Bool.{Bool, true, false}
use mir.Val.{bool_byte}
use Rattle.tags.specs.Item.{boolean_byte}

-- is the one that the library makes of it
pub flag_number : (b : Bool) → bool_byte b ≡ boolean_byte b
flag_number true = refl
flag_number false = refl
