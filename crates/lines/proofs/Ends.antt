-- Where a line ends: at the byte of a place, or behind it.
-- Assumes nothing.
use mathlib.Core.Path.{◌≡◌, refl}
use mathlib.Core.Bool.{Bool, true, false, cond, not}
use mathlib.Core.List.{List, [], ◌∷◌}
use Prim.Native.Nat.{ℕ, suc, ◌+◌, ◌≤◌, ◌<◌}
use native.Mathlib.Omega.{arith}
use Rattle.std.specs.Prelude.{Option, Some, None}
use Rattle.std.specs.List.{position_or_len, position}
use lib.Dec.{eqb, ltb}
use borrow.Author.Tests.{lt-ltb, le-ltb, eq-eqb, ne_eqb, ltb-true, ltb-false}
use lib.ListN.{length, drop, length-drop}
use Rattle.types.specs.Choice.{if}
use Rattle.types.proofs.Choices.{either}
use Rattle.lines.specs.Lines.{until_newline, line_ends, no_line, end_from}

-- a line is no longer than what was read
pub line_inside : (xs : List ℕ) → length (until_newline xs) ≤ length xs
line_inside [] = omega arith
line_inside (b ∷ bs) = either (λ (m : List ℕ). length m ≤ suc (length bs)) (eqb b 10) (λ e. omega arith) (λ e. omega (arith, line_inside bs))

-- a newline is sought as a line's end is
by_position : (l : List ℕ) → length (until_newline l) ≡ position_or_len (λ b. eqb b 10) l
by_position [] = refl
by_position (b ∷ l) = by (eqb b 10) (by_position l)
  where
    by : (t : Bool) → length (until_newline l) ≡ position_or_len (λ b. eqb b 10) l → length (if t [] (b ∷ until_newline l)) ≡ cond (not t) (1 + position_or_len (λ b. eqb b 10) l) 0
    by true e = refl
    by false e = omega arith

-- what a search for a newline answers
abbrev pub Sought : List ℕ → Option ℕ → Type 0
Sought l r = r ≡ position (λ b. eqb b 10) l

found : (l : List ℕ) (n : ℕ) → Sought l (Some n) → (n ≡ length (until_newline l)) × (n < length l)
found l n e = by (ltb (position_or_len (λ b. eqb b 10) l) (length l)) refl e
  where
    by : (t : Bool) → ltb (position_or_len (λ b. eqb b 10) l) (length l) ≡ t → Some n ≡ cond t (Some (position_or_len (λ b. eqb b 10) l)) None → (n ≡ length (until_newline l)) × (n < length l)
    by true h e = let p : n ≡ position_or_len (λ b. eqb b 10) l = cc in (omega (arith, by_position l), omega (arith, ltb-true _ _ h))
    by false h e = absurd (let z : ◌≡◌ {A = ℕ} 0 1 = cc in omega arith)

not_found : (l : List ℕ) → Sought l None → length l ≤ length (until_newline l)
not_found l e = by (ltb (position_or_len (λ b. eqb b 10) l) (length l)) refl e
  where
    by : (t : Bool) → ltb (position_or_len (λ b. eqb b 10) l) (length l) ≡ t → None ≡ cond t (Some (position_or_len (λ b. eqb b 10) l)) None → length l ≤ length (until_newline l)
    by true h e = absurd (let z : ◌≡◌ {A = ℕ} 0 1 = cc in omega arith)
    by false h e = omega (arith, by_position l, ltb-false _ _ h)

-- where no byte up to a place is a newline, the line ends at the first one from there on; and else with the input, if it is not empty, or not at all
module _ (xs : List ℕ) (place next : ℕ) (inside : next ≤ length xs) (e : place + length (until_newline (drop place xs)) ≡ next + length (until_newline (drop next xs))) (ended : Bool) where
  pub ends_by_newline : (n : ℕ) → Sought (drop next xs) (Some n) → line_ends (next + n) (next + n + 1) ≡ end_from ended xs place
  unfolding end_from
  ends_by_newline n s =
      let w = found (drop next xs) n s in
      let p : place + length (until_newline (drop place xs)) ≡ next + n = omega arith in
      rw (p, lt-ltb (next + n) (length xs) (omega (arith, w.1, length-drop next xs))) refl

  module _ (s : Sought (drop next xs) None) where
    goes_to_the_last : place + length (until_newline (drop place xs)) ≡ length xs
    goes_to_the_last = omega (arith, not_found (drop next xs) s, line_inside (drop next xs), length-drop next xs)

    pub has_not_ended : ended ≡ false → no_line ≡ end_from ended xs place
    unfolding end_from
    has_not_ended f = rw (f, goes_to_the_last, le-ltb (length xs) (length xs) (omega arith)) refl

    pub nothing_left : ended ≡ true → length xs ≤ place → place ≤ next → no_line ≡ end_from ended xs place
    unfolding end_from
    nothing_left t h k = rw (t, goes_to_the_last, le-ltb (length xs) (length xs) (omega arith), eq-eqb place (length xs) (omega arith)) refl

    pub ends_with_input : ended ≡ true → place < length xs → line_ends (length xs) (length xs) ≡ end_from ended xs place
    unfolding end_from
    ends_with_input t h = rw (t, goes_to_the_last, le-ltb (length xs) (length xs) (omega arith), ne_eqb place (length xs) (λ k. absurd (omega arith))) refl
