-- What the end of the line at a place tells of the lines from there on: a first line and those behind it, or no line.
-- Assumes nothing.
use mathlib.Core.Path.{◌≡◌, refl, ◌∙◌, ap}
use mathlib.Core.Bool.{Bool, true, false}
use mathlib.Core.List.{List, [], ◌∷◌, ◌++◌}
use Prim.Native.Nat.{ℕ, suc, ◌+◌, ◌≤◌, ◌<◌}
use native.Mathlib.Omega.{arith}
use lib.Dec.{ltb, eqb}
use lib.ListN.{length, drop, length-drop}
use lib.Seq.{drop-drop, drop-length}
use borrow.Author.Tests.{ltb-true, ltb-false, eqb-true, eqb-false}
use Rattle.types.proofs.Choices.{either}
use Rattle.lines.specs.Lines.{until_newline, End, line_ends, no_line, end_from}
use Rattle.lines.specs.Input.{whole_on, rest_on, last_of, lines_by}
use Rattle.lines.proofs.Cut.{line_first, line_passed, newline_there, no_whole_line, all_left, line_all}

-- from a place on stands a first line, and the other lines from the next place on
pub record FirstLine (ended : Bool) (xs : List ℕ) (place to : ℕ) : Type 0 where
  pub lines : lines_by ended (drop place xs) ≡ until_newline (drop place xs) ∷ lines_by ended (drop to xs)
  pub rest : ended ≡ false → rest_on [] (drop place xs) ≡ rest_on [] (drop to xs)

-- or no line
pub record NoLine (ended : Bool) (xs : List ℕ) (place : ℕ) : Type 0 where
  pub lines : lines_by ended (drop place xs) ≡ []
  pub rest : ended ≡ false → rest_on [] (drop place xs) ≡ drop place xs

module _ (ended : Bool) (xs : List ℕ) (place : ℕ) (inside : place ≤ length xs) where
  by_newline : length (until_newline (drop place xs)) < length (drop place xs) → (to : ℕ) → to ≡ place + length (until_newline (drop place xs)) + 1 → FirstLine ended xs place to
  by_newline h to e =
      let ys : List ℕ = drop place xs in
      let n : place + suc (length (until_newline ys)) ≡ to = omega arith in
      let r : drop (suc (length (until_newline ys))) ys ≡ drop to xs = drop-drop (suc (length (until_newline ys))) place xs ∙ rw n refl in
      let s : ys ≡ until_newline ys ++ (10 ∷ drop to xs) = newline_there ys h ∙ rw r refl in
      let w : whole_on [] ys ≡ until_newline ys ∷ whole_on [] (drop to xs) = ap (whole_on []) s ∙ line_first [] ys (drop to xs) in
      let q : rest_on [] ys ≡ rest_on [] (drop to xs) = ap (rest_on []) s ∙ line_passed [] ys (drop to xs) in
      record { lines = rw (w, q) refl; rest = λ f. q }

  -- what no newline follows is not empty unless nothing is left
  last_alone : (ys : List ℕ) → 0 < length ys → last_of ys ≡ ys ∷ []
  last_alone [] h = absurd (omega arith)
  last_alone (b ∷ bs) h = refl

  by_the_end : ended ≡ true → length (drop place xs) ≤ length (until_newline (drop place xs)) → (place ≡ length xs → ⊥) → FirstLine ended xs place (length xs)
  by_the_end t h g =
      let ys : List ℕ = drop place xs in
      let w : whole_on [] ys ≡ [] = no_whole_line [] ys h in
      let q : rest_on [] ys ≡ ys = all_left [] ys w in
      let m : 0 < length ys = omega (arith, length-drop place xs, g) in
      record { lines = rw (t, w, q, last_alone ys m, drop-length xs, line_all ys h) refl; rest = λ f. let z : ◌≡◌ {A = ℕ} 0 1 = cc in absurd (omega arith) }

  pub first_line : (there to : ℕ) → line_ends there to ≡ end_from ended xs place → FirstLine ended xs place to
  unfolding end_from
  first_line there to =
      let ys : List ℕ = drop place xs in
      either (λ (x : End). line_ends there to ≡ x → FirstLine ended xs place to) (ltb (place + length (until_newline ys)) (length xs))
      (λ t q. let l : place + length (until_newline ys) < length xs = ltb-true _ _ t in let b : to ≡ place + length (until_newline ys) + 1 = cc in by_newline (omega (arith, length-drop place xs)) to b)
      (λ t. either (λ (x : End). line_ends there to ≡ x → FirstLine ended xs place to) ended
      (λ d. either (λ (x : End). line_ends there to ≡ x → FirstLine ended xs place to) (eqb place (length xs))
      (λ f q. let z : ◌≡◌ {A = ℕ} 0 1 = cc in absurd (omega arith))
      (λ f q. let l : length xs ≤ place + length (until_newline ys) = ltb-false _ _ t in let b : to ≡ length xs = cc in rw b (by_the_end d (omega (arith, length-drop place xs)) (eqb-false place (length xs) f))))
      (λ d q. let z : ◌≡◌ {A = ℕ} 0 1 = cc in absurd (omega arith)))

  nothing_left : ended ≡ true → place ≡ length xs → NoLine ended xs place
  nothing_left d e = record { lines = rw (e, drop-length xs, d) refl; rest = λ f. let z : ◌≡◌ {A = ℕ} 0 1 = cc in absurd (omega arith) }

  not_yet : ended ≡ false → length (drop place xs) ≤ length (until_newline (drop place xs)) → NoLine ended xs place
  not_yet d h =
      let w : whole_on [] (drop place xs) ≡ [] = no_whole_line [] (drop place xs) h in
      record { lines = rw (w, d) refl; rest = λ f. all_left [] (drop place xs) w }

  pub no_line_lem : no_line ≡ end_from ended xs place → NoLine ended xs place
  unfolding end_from
  no_line_lem =
      let ys : List ℕ = drop place xs in
      either (λ (x : End). no_line ≡ x → NoLine ended xs place) (ltb (place + length (until_newline ys)) (length xs))
      (λ t q. let z : ◌≡◌ {A = ℕ} 0 1 = cc in absurd (omega arith))
      (λ t. either (λ (x : End). no_line ≡ x → NoLine ended xs place) ended
      (λ d. either (λ (x : End). no_line ≡ x → NoLine ended xs place) (eqb place (length xs))
      (λ f q. nothing_left d (eqb-true place (length xs) f))
      (λ f q. let z : ◌≡◌ {A = ℕ} 0 1 = cc in absurd (omega arith)))
      (λ d q. let l : length xs ≤ place + length (until_newline ys) = ltb-false _ _ t in not_yet d (omega (arith, length-drop place xs))))
