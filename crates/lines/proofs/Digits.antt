-- Digits: the values of bytes by their range, and what pairs of digits come to, from a place on, up to a newline and by their number.
-- Assumes nothing.
use mathlib.Core.Path.{◌≡◌, refl, ◌∙◌, sym}
use mathlib.Core.Bool.{Bool, true, false}
use mathlib.Core.List.{List, [], ◌∷◌}
use Prim.Native.Nat.{ℕ, zero, suc, ◌+◌, ◌*◌, ◌≤◌, ◌<◌}
use native.Mathlib.Omega.{arith}
use lib.Dec.{ltb, eqb}
use lib.ListN.{length, drop, get_or, length-take}
use lib.Seq.{take_all, length-take-le}
use borrow.Author.Tests.{lt-ltb, le-ltb, ltb-false, eq-eqb, ne_eqb, eqb-true, eqb-false}
use Rattle.std.specs.Prelude.{Option, Some, None}
use Rattle.types.specs.Choice.{if}
use Rattle.types.proofs.Choices.{either}
use Rattle.lines.specs.Hexadecimal.{most_bytes, most_digits, nibble_of, digit_of, pairs, leading, is_frame}
use Rattle.lines.specs.Lines.{until_newline}

-- no byte before the decimal digits is a digit
before_decimal : (c : ℕ) → c < 48 → nibble_of c ≡ 16
unfolding nibble_of
before_decimal c h = simp (lt-ltb c 48 h)

-- a newline is no digit
pub newline_no_digit : (c : ℕ) → eqb c 10 ≡ true → ltb 15 (nibble_of c) ≡ true
newline_no_digit c e = let h : c ≡ 10 = eqb-true c 10 e in lt-ltb 15 (nibble_of c) (omega (arith, before_decimal c (omega arith)))

pub digit_no_newline : (c : ℕ) → ltb 15 (nibble_of c) ≡ false → eqb c 10 ≡ false
digit_no_newline c e = ne_eqb c 10 (λ h. let k : nibble_of c ≤ 15 = ltb-false 15 (nibble_of c) e in absurd (omega (arith, before_decimal c (omega arith))))

-- the byte that two digits stand for, or none
abbrev pub pair_by : Option ℕ → Option ℕ → List ℕ
pair_by (Some high) (Some low) = (high * 16 + low) ∷ []
pair_by (Some high) None = []
pair_by None low = []

pub pair_digits : (xs : List ℕ) → length xs ≡ 2 → pairs xs ≡ pair_by (digit_of (get_or xs 0 0)) (digit_of (get_or xs 1 0))
pair_digits [] e = absurd (omega arith)
pair_digits (a ∷ []) e = absurd (omega arith)
pair_digits (a ∷ b ∷ []) e =
    by (ltb 15 (nibble_of a)) (ltb 15 (nibble_of b))
  where
    by : (s t : Bool) → if s [] (if t [] ((nibble_of a * 16 + nibble_of b) ∷ [])) ≡ pair_by (if s None (Some (nibble_of a))) (if t None (Some (nibble_of b)))
    by true t = refl
    by false true = refl
    by false false = refl
pair_digits (a ∷ b ∷ c ∷ r) e = absurd (omega arith)

-- a digit is below 16
pub digit_small : (c d : ℕ) → Some d ≡ digit_of c → d ≤ 15
digit_small c d e = by (ltb 15 (nibble_of c)) refl e
  where
    by : (t : Bool) → ltb 15 (nibble_of c) ≡ t → Some d ≡ if t None (Some (nibble_of c)) → d ≤ 15
    by true f e = absurd (let z : ◌≡◌ {A = ℕ} 0 1 = cc in omega arith)
    by false f e = let g : d ≡ nibble_of c = cc in omega (arith, ltb-false 15 (nibble_of c) f)

-- less than two bytes are no pair
pub pairs_short : (l : List ℕ) → length l < 2 → pairs l ≡ []
pairs_short [] h = refl
pairs_short (a ∷ []) h = refl
pairs_short (a ∷ b ∷ r) h = absurd (omega arith)

-- each byte takes two digits
pub two_digits_each : (l : List ℕ) → length (pairs l) + length (pairs l) ≤ length l
two_digits_each [] = omega arith
two_digits_each (a ∷ []) = omega arith
two_digits_each (a ∷ b ∷ r) =
    either (λ (m : List ℕ). length m + length m ≤ suc (suc (length r))) (ltb 15 (nibble_of a))
    (λ e. omega arith)
    (λ e. either (λ (m : List ℕ). length m + length m ≤ suc (suc (length r))) (ltb 15 (nibble_of b)) (λ d. omega arith) (λ d. omega (arith, two_digits_each r)))

-- the pairs of digits are those of the line: none of them goes past a newline
pub pairs_of_line : (xs : List ℕ) → pairs (until_newline xs) ≡ pairs xs
pairs_of_line [] = refl
pairs_of_line (a ∷ []) = either (λ (m : List ℕ). pairs m ≡ []) (eqb a 10) (λ e. refl) (λ e. refl)
pairs_of_line (a ∷ b ∷ r) =
    either (λ (m : List ℕ). pairs m ≡ pairs (a ∷ b ∷ r)) (eqb a 10)
    (λ e. rw (newline_no_digit a e) refl)
    (λ e. either (λ (m : List ℕ). pairs (a ∷ m) ≡ pairs (a ∷ b ∷ r)) (eqb b 10)
    (λ d. rw (newline_no_digit b d) (either (λ (m : List ℕ). [] ≡ m) (ltb 15 (nibble_of a)) (λ f. refl) (λ f. refl)))
    (λ d. rw (pairs_of_line r) refl))

-- so a line goes on behind as many of its pairs as one likes
pub line_behind_pairs : (n : ℕ) (xs : List ℕ) → n ≤ length (pairs xs) → length (until_newline xs) ≡ n + n + length (until_newline (drop (n + n) xs))
line_behind_pairs zero xs h = omega arith
line_behind_pairs (suc n) [] h = absurd (omega arith)
line_behind_pairs (suc n) (a ∷ []) h = absurd (omega arith)
line_behind_pairs (suc n) (a ∷ b ∷ r) h =
    let two : suc n + suc n ≡ suc (suc (n + n)) = omega arith in
    rw two
    (either (λ (m : List ℕ). suc n ≤ length m → length (until_newline (a ∷ b ∷ r)) ≡ suc (suc (n + n)) + length (until_newline (drop (n + n) r))) (ltb 15 (nibble_of a))
    (λ e k. absurd (omega arith))
    (λ e. either (λ (m : List ℕ). suc n ≤ length m → length (until_newline (a ∷ b ∷ r)) ≡ suc (suc (n + n)) + length (until_newline (drop (n + n) r))) (ltb 15 (nibble_of b))
    (λ d k. absurd (omega arith))
    (λ d k. rw (digit_no_newline a e, digit_no_newline b d) (omega (arith, line_behind_pairs n r (omega arith)))))
    h)

-- no more bytes than a frame has, and no more than there are
pub leading_count : (l : List ℕ) → (length (leading l) ≤ most_bytes) × (length (leading l) ≤ length (pairs l)) × (length (pairs l) ≤ most_bytes → leading l ≡ pairs l) × (most_bytes < length (pairs l) → length (leading l) ≡ most_bytes)
leading_count l =
    (omega (arith, length-take most_bytes (pairs l)), omega (arith, length-take most_bytes (pairs l)), (λ h. take_all most_bytes (pairs l) h), (λ h. length-take-le most_bytes (pairs l) (omega arith)))

-- a line is a frame's exactly if its digits end where it does
by_count : (l : List ℕ) (good : Bool) → eqb (length l) (length (leading l) + length (leading l)) ≡ good → is_frame l ≡ good
unfolding is_frame
by_count l true e =
    let h : length l ≡ length (leading l) + length (leading l) = eqb-true _ _ e in
    let w = leading_count l in
    let s : length (pairs l) ≡ length (leading l) = omega (arith, two_digits_each l, w.0, w.1) in
    rw (le-ltb most_digits (length l) (omega (arith, w.0)), eq-eqb (length l) (length (pairs l) + length (pairs l)) (omega arith)) refl
by_count l false e =
    let h : length l ≡ length (leading l) + length (leading l) → ⊥ = eqb-false _ _ e in
    let w = leading_count l in
    either (λ (t : Bool). t ≡ false) (ltb most_digits (length l))
    (λ d. refl)
    (λ d. ne_eqb (length l) (length (pairs l) + length (pairs l)) (λ k. let q : length l ≤ most_digits = ltb-false most_digits (length l) d in h (rw (w.2 (omega arith)) k)))

pub frame_by_count : (l : List ℕ) → is_frame l ≡ eqb (length l) (length (leading l) + length (leading l))
frame_by_count l = by_count l (eqb (length l) (length (leading l) + length (leading l))) refl

-- and then they are all of its pairs
pub frame_leading : (l : List ℕ) → is_frame l ≡ true → leading l ≡ pairs l
frame_leading l e =
    let h : length l ≡ length (leading l) + length (leading l) = eqb-true _ _ (sym (frame_by_count l) ∙ e) in
    let w = leading_count l in
    w.2 (omega (arith, two_digits_each l, w.0))
