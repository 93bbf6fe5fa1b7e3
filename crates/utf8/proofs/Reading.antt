-- No text splits into characters in two ways.
-- Assumes nothing.
use mathlib.Core.Path.{◌≡◌, refl, sym, ap, ap₂}
use mathlib.Core.List.{List, [], ◌∷◌, ◌++◌}
use Prim.Native.Nat.{ℕ, ◌<◌}
use native.Mathlib.Omega.{arith}
use lib.ListN.{length, length-append}
use Rattle.utf8.specs.Text.{Text}
use Rattle.utf8.specs.Text.Text.{empty, followed}
use Rattle.utf8.proofs.Characters.{one_character, character_long}

-- the characters into which a reading of a text splits it
unfoldable pub characters : {text : List ℕ} → Text text → List (List ℕ)
characters empty = []
characters (followed {bytes} c t) = bytes ∷ characters t

no_bytes : (bytes rest : List ℕ) → 0 < length bytes → [] ≡ bytes ++ rest → ⊥
no_bytes bytes rest h e = omega (arith, ap length e, length-append bytes rest)

-- two readings of equal texts have the same characters
same_characters : {x y : List ℕ} → x ≡ y → (t : Text x) (u : Text y) → characters t ≡ characters u
unfolding characters
same_characters e empty empty = refl
same_characters e empty (followed {bytes} {rest} c u) = absurd (no_bytes bytes rest (character_long c) e)
same_characters e (followed {bytes} {rest} c t) empty = absurd (no_bytes bytes rest (character_long c) (sym e))
same_characters e (followed {bytes} {rest} c t) (followed {bytes = bytes'} {rest = rest'} d u) =
    let one = one_character rest rest' c d e in
    ap₂ (λ (b : List ℕ) (l : List (List ℕ)). b ∷ l) one.0 (same_characters one.1 t u)

-- no text splits into characters in two ways
pub one_reading : {text : List ℕ} (t u : Text text) → characters t ≡ characters u
one_reading t u = same_characters refl t u
