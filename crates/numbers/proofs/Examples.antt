-- Document 01's examples of integers, their content bytes, by one statement over their list, which antt computes.
-- Assumes nothing.
use mathlib.Core.Path.{◌≡◌, refl}
use Prim.Native.Nat.{ℕ}
use mathlib.Core.List.{List, [], ◌∷◌}
use lib.IntN.{pos, negsuc}
use Rattle.numbers.specs.Integer.{unsigned_length, signed_length, unsigned_bytes, signed_bytes}

-- unsigned 0 and 256; signed 127, 128, -128 and -129
abbrev pub written : List (List ℕ)
written =
    unsigned_bytes 0 ∷ unsigned_bytes 256
    ∷ signed_bytes (pos 127) ∷ signed_bytes (pos 128) ∷ signed_bytes (negsuc 127) ∷ signed_bytes (negsuc 128) ∷ []

abbrev pub expected : List (List ℕ)
expected =
    (0x00 ∷ []) ∷ (0x01 ∷ 0x00 ∷ [])
    ∷ (0x7F ∷ []) ∷ (0x00 ∷ 0x80 ∷ []) ∷ (0x80 ∷ []) ∷ (0xFF ∷ 0x7F ∷ []) ∷ []

pub starred_content : written ≡ expected
unfolding unsigned_bytes unsigned_length signed_bytes signed_length
starred_content = refl
