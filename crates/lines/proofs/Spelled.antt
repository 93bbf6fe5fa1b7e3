-- A line is a frame's exactly if it is digits, no more than a frame has, that spell its bytes; and a line spells no other bytes.
-- Assumes nothing.
use mathlib.Core.Path.{◌≡◌, refl, ◌∙◌, sym}
use mathlib.Core.Bool.{Bool, true}
use mathlib.Core.List.{List, [], ◌∷◌}
use Prim.Native.Nat.{ℕ, suc, ◌+◌, ◌≤◌}
use native.Mathlib.Omega.{arith}
use lib.Dec.{ltb}
use lib.ListN.{length}
use borrow.Author.Tests.{le-ltb, ltb-false, eq-eqb, eqb-true}
use Rattle.types.proofs.Choices.{either}
use Rattle.lines.specs.Hexadecimal.{most_digits, nibble_of, Spells, none, two, pairs, is_frame}

-- the bytes that a line spells are those of its pairs
pub spelled_pairs : {l bytes : List ℕ} → Spells l bytes → pairs l ≡ bytes
spelled_pairs none = refl
spelled_pairs (two {a} {b} {digits} {bytes} h k s) = rw (le-ltb 15 (nibble_of a) (omega arith), le-ltb 15 (nibble_of b) (omega arith), spelled_pairs s) refl

-- each by two digits
pub spelled_length : {l bytes : List ℕ} → Spells l bytes → length l ≡ length bytes + length bytes
spelled_length none = omega arith
spelled_length (two {a} {b} {digits} {bytes} h k s) = omega (arith, spelled_length s)

-- a line spells one list of bytes
pub spelled_once : {l a b : List ℕ} → Spells l a → Spells l b → a ≡ b
spelled_once s t = sym (spelled_pairs s) ∙ spelled_pairs t

-- a line of pairs alone spells them
pub pairs_spelled : (l : List ℕ) → length l ≡ length (pairs l) + length (pairs l) → Spells l (pairs l)
pairs_spelled [] e = none
pairs_spelled (a ∷ []) e = absurd (omega arith)
pairs_spelled (a ∷ b ∷ r) q =
    either (λ (m : List ℕ). suc (suc (length r)) ≡ length m + length m → Spells (a ∷ b ∷ r) m) (ltb 15 (nibble_of a))
    (λ d e. absurd (omega arith))
    (λ d. either (λ (m : List ℕ). suc (suc (length r)) ≡ length m + length m → Spells (a ∷ b ∷ r) m) (ltb 15 (nibble_of b))
    (λ f e. absurd (omega arith))
    (λ f e. let h : nibble_of a ≤ 15 = ltb-false 15 (nibble_of a) d in let k : nibble_of b ≤ 15 = ltb-false 15 (nibble_of b) f in two (omega arith) (omega arith) (pairs_spelled r (omega arith))))
    q

-- a frame's line has no more digits than that, and spells its bytes
pub frame_spelled : (l : List ℕ) → is_frame l ≡ true → (length l ≤ most_digits) × Spells l (pairs l)
unfolding is_frame
frame_spelled l =
    either (λ (t : Bool). t ≡ true → (length l ≤ most_digits) × Spells l (pairs l)) (ltb most_digits (length l))
    (λ d e. let z : ◌≡◌ {A = ℕ} 0 1 = cc in absurd (omega arith))
    (λ d e. (ltb-false most_digits (length l) d, pairs_spelled l (eqb-true (length l) (length (pairs l) + length (pairs l)) e)))

-- and such a line is a frame of those bytes
pub spelled_frame : {l bytes : List ℕ} → length l ≤ most_digits → Spells l bytes → (is_frame l ≡ true) × (pairs l ≡ bytes)
unfolding is_frame
spelled_frame {l} {bytes} h s =
    let n : length l ≡ length (pairs l) + length (pairs l) = spelled_length s ∙ rw (spelled_pairs s) refl in
    (rw (le-ltb most_digits (length l) h, eq-eqb (length l) (length (pairs l) + length (pairs l)) n) refl, spelled_pairs s)
