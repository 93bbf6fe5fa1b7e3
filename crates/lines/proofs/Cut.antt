-- How bytes are cut into lines: the first line and the rest, bytes with no newline, and bytes that came in two parts.
-- Assumes nothing.
use mathlib.Core.Path.{◌≡◌, refl, ◌∙◌, ap, sym}
use mathlib.Core.Bool.{Bool, true, false}
use mathlib.Core.List.{List, [], ◌∷◌, ◌++◌, append_assoc, append-nil}
use Prim.Native.Nat.{ℕ, suc, ◌≤◌, ◌<◌}
use native.Mathlib.Omega.{arith}
use lib.Dec.{eqb}
use lib.ListN.{length, take, drop, take-append-drop}
use borrow.Author.Tests.{eqb-true}
use Rattle.types.specs.Choice.{if}
use Rattle.types.proofs.Choices.{either}
use Rattle.lines.specs.Lines.{until_newline}
use Rattle.lines.specs.Input.{whole_on, rest_on, last_of, lines_by}

-- how bytes are cut into lines does not depend on how they came
pub whole_append : (l a b : List ℕ) → whole_on l (a ++ b) ≡ whole_on l a ++ whole_on (rest_on l a) b
whole_append l [] b = refl
whole_append l (x ∷ a) b =
    both (eqb x 10) (whole_append [] a b) (whole_append (l ++ (x ∷ [])) a b)
  where
    both : (t : Bool) → whole_on [] (a ++ b) ≡ whole_on [] a ++ whole_on (rest_on [] a) b → whole_on (l ++ (x ∷ [])) (a ++ b) ≡ whole_on (l ++ (x ∷ [])) a ++ whole_on (rest_on (l ++ (x ∷ [])) a) b
        → if t (l ∷ whole_on [] (a ++ b)) (whole_on (l ++ (x ∷ [])) (a ++ b)) ≡ if t (l ∷ whole_on [] a) (whole_on (l ++ (x ∷ [])) a) ++ whole_on (if t (rest_on [] a) (rest_on (l ++ (x ∷ [])) a)) b
    both true p q = ap (λ (m : List (List ℕ)). l ∷ m) p
    both false p q = q

pub rest_append : (l a b : List ℕ) → rest_on l (a ++ b) ≡ rest_on (rest_on l a) b
rest_append l [] b = refl
rest_append l (x ∷ a) b =
    both (eqb x 10) (rest_append [] a b) (rest_append (l ++ (x ∷ [])) a b)
  where
    both : (t : Bool) → rest_on [] (a ++ b) ≡ rest_on (rest_on [] a) b → rest_on (l ++ (x ∷ [])) (a ++ b) ≡ rest_on (rest_on (l ++ (x ∷ [])) a) b
        → if t (rest_on [] (a ++ b)) (rest_on (l ++ (x ∷ [])) (a ++ b)) ≡ rest_on (if t (rest_on [] a) (rest_on (l ++ (x ∷ [])) a)) b
    both true p q = p
    both false p q = q

-- a line and its newline, then more
pub line_first : (k ys r : List ℕ) → whole_on k (until_newline ys ++ (10 ∷ r)) ≡ (k ++ until_newline ys) ∷ whole_on [] r
line_first k [] r = ap (λ (m : List ℕ). m ∷ whole_on [] r) (sym (append-nil k))
line_first k (b ∷ bs) r =
    either (λ (m : List ℕ). whole_on k (m ++ (10 ∷ r)) ≡ (k ++ m) ∷ whole_on [] r) (eqb b 10)
    (λ e. ap (λ (m : List ℕ). m ∷ whole_on [] r) (sym (append-nil k)))
    (λ e. rw e (line_first (k ++ (b ∷ [])) bs r ∙ ap (λ (m : List ℕ). m ∷ whole_on [] r) (append_assoc k (b ∷ []) (until_newline bs))))

pub line_passed : (k ys r : List ℕ) → rest_on k (until_newline ys ++ (10 ∷ r)) ≡ rest_on [] r
line_passed k [] r = refl
line_passed k (b ∷ bs) r =
    either (λ (m : List ℕ). rest_on k (m ++ (10 ∷ r)) ≡ rest_on [] r) (eqb b 10)
    (λ e. refl)
    (λ e. rw e (line_passed (k ++ (b ∷ [])) bs r))

-- a line that ends before the end has a newline there
pub newline_there : (ys : List ℕ) → length (until_newline ys) < length ys → ys ≡ until_newline ys ++ (10 ∷ drop (suc (length (until_newline ys))) ys)
newline_there [] h = absurd (omega arith)
newline_there (b ∷ bs) h =
    either (λ (m : List ℕ). length m < suc (length bs) → b ∷ bs ≡ m ++ (10 ∷ drop (suc (length m)) (b ∷ bs))) (eqb b 10)
    (λ e k. ap (λ (n : ℕ). n ∷ bs) (eqb-true b 10 e))
    (λ e k. ap (λ (l : List ℕ). b ∷ l) (newline_there bs (omega arith)))
    h

-- bytes with no newline are no whole line, and all of them are left
pub no_whole_line : (k ys : List ℕ) → length ys ≤ length (until_newline ys) → whole_on k ys ≡ []
no_whole_line k [] h = refl
no_whole_line k (b ∷ bs) h =
    both (eqb b 10) h (no_whole_line (k ++ (b ∷ [])) bs)
  where
    both : (t : Bool) → suc (length bs) ≤ length (if t [] (b ∷ until_newline bs)) → (length bs ≤ length (until_newline bs) → whole_on (k ++ (b ∷ [])) bs ≡ []) → if t (k ∷ whole_on [] bs) (whole_on (k ++ (b ∷ [])) bs) ≡ []
    both true q f = absurd (omega arith)
    both false q f = f (omega arith)

pub all_left : (k ys : List ℕ) → whole_on k ys ≡ [] → rest_on k ys ≡ k ++ ys
all_left k [] e = sym (append-nil k)
all_left k (b ∷ bs) e =
    both (eqb b 10) e (all_left (k ++ (b ∷ [])) bs)
  where
    both : (t : Bool) → if t (k ∷ whole_on [] bs) (whole_on (k ++ (b ∷ [])) bs) ≡ [] → (whole_on (k ++ (b ∷ [])) bs ≡ [] → rest_on (k ++ (b ∷ [])) bs ≡ (k ++ (b ∷ [])) ++ bs) → if t (rest_on [] bs) (rest_on (k ++ (b ∷ [])) bs) ≡ k ++ (b ∷ bs)
    both true q f = let z : ◌≡◌ {A = ℕ} 0 1 = cc in absurd (omega arith)
    both false q f = f q ∙ append_assoc k (b ∷ []) bs

-- a line with no newline behind it is all there is
pub line_all : (ys : List ℕ) → length ys ≤ length (until_newline ys) → until_newline ys ≡ ys
line_all [] h = refl
line_all (b ∷ bs) h =
    either (λ (m : List ℕ). suc (length bs) ≤ length m → m ≡ b ∷ bs) (eqb b 10)
    (λ e k. absurd (omega arith))
    (λ e k. ap (λ (l : List ℕ). b ∷ l) (line_all bs (omega arith)))
    h

no_first : (a b : List (List ℕ)) → a ++ b ≡ [] → a ≡ []
no_first [] b e = refl
no_first (l ∷ a) b e = let z : ◌≡◌ {A = ℕ} 0 1 = cc in absurd (omega arith)

-- the start of bytes with no newline has none
pub no_newline_taken : (n : ℕ) (l : List ℕ) → whole_on [] l ≡ [] → whole_on [] (take n l) ≡ []
no_newline_taken n l e = no_first (whole_on [] (take n l)) (whole_on (rest_on [] (take n l)) (drop n l)) (sym (whole_append [] (take n l) (drop n l)) ∙ rw (take-append-drop n l) e)

-- nor has what stands behind the last newline
pub no_newline_left : (k ys : List ℕ) → whole_on [] k ≡ [] → whole_on [] (rest_on k ys) ≡ []
no_newline_left k [] e = e
no_newline_left k (b ∷ bs) e =
    either (λ (m : List ℕ). whole_on [] m ≡ []) (eqb b 10)
    (λ d. no_newline_left [] bs refl)
    (λ d. no_newline_left (k ++ (b ∷ [])) bs (whole_append [] k (b ∷ []) ∙ rw (e, d) refl))

-- bytes behind a start with no newline
pub whole_behind : (k p : List ℕ) → whole_on [] k ≡ [] → whole_on [] (k ++ p) ≡ whole_on k p
whole_behind k p e = whole_append [] k p ∙ rw (e, all_left [] k e) refl

pub rest_behind : (k p : List ℕ) → whole_on [] k ≡ [] → rest_on [] (k ++ p) ≡ rest_on k p
rest_behind k p e = rest_append [] k p ∙ rw (all_left [] k e) refl

-- lines, each with its newline
abbrev pub ended_lines : List (List ℕ) → List ℕ
ended_lines [] = []
ended_lines (l ∷ ls) = l ++ (10 ∷ ended_lines ls)

-- no byte is lost: the lines with their newlines, and what stands behind the last, are the bytes
pub nothing_lost : (k ys : List ℕ) → ended_lines (whole_on k ys) ++ rest_on k ys ≡ k ++ ys
nothing_lost k [] = sym (append-nil k)
nothing_lost k (b ∷ bs) =
    both (eqb b 10) refl (nothing_lost [] bs) (nothing_lost (k ++ (b ∷ [])) bs)
  where
    both : (t : Bool) → eqb b 10 ≡ t → ended_lines (whole_on [] bs) ++ rest_on [] bs ≡ bs → ended_lines (whole_on (k ++ (b ∷ [])) bs) ++ rest_on (k ++ (b ∷ [])) bs ≡ (k ++ (b ∷ [])) ++ bs
        → ended_lines (if t (k ∷ whole_on [] bs) (whole_on (k ++ (b ∷ [])) bs)) ++ if t (rest_on [] bs) (rest_on (k ++ (b ∷ [])) bs) ≡ k ++ (b ∷ bs)
    both true e p q = append_assoc k (10 ∷ ended_lines (whole_on [] bs)) (rest_on [] bs) ∙ ap (λ (m : List ℕ). k ++ (10 ∷ m)) p ∙ ap (λ (n : ℕ). k ++ (n ∷ bs)) (sym (eqb-true b 10 e))
    both false e p q = q ∙ append_assoc k (b ∷ []) bs

-- a line has no newline in it
abbrev pub NoNewlines : List (List ℕ) → Type 0
NoNewlines [] = Unit {0}
NoNewlines (l ∷ ls) = (whole_on [] l ≡ []) × NoNewlines ls

pub no_newline_within : (k ys : List ℕ) → whole_on [] k ≡ [] → NoNewlines (whole_on k ys)
no_newline_within k [] e = tt
no_newline_within k (b ∷ bs) e =
    either NoNewlines (eqb b 10)
    (λ d. (e, no_newline_within [] bs refl))
    (λ d. no_newline_within (k ++ (b ∷ [])) bs (whole_append [] k (b ∷ []) ∙ rw (e, d) refl))

-- the lines of bytes behind the beginning of a line
pub lines_behind : (ended : Bool) (k p : List ℕ) → whole_on [] k ≡ [] → lines_by ended (k ++ p) ≡ whole_on k p ++ if ended (last_of (rest_on k p)) []
lines_behind ended k p e = rw (whole_behind k p e, rest_behind k p e) refl

pub lines_in_two : (ended : Bool) (k p q : List ℕ) → whole_on [] k ≡ [] → lines_by ended (k ++ (p ++ q)) ≡ whole_on k p ++ lines_by ended (rest_on k p ++ q)
lines_in_two ended k p q e =
    lines_behind ended k (p ++ q) e
    ∙ rw (whole_append k p q, rest_append k p q, lines_behind ended (rest_on k p) q (no_newline_left k p e)) (append_assoc (whole_on k p) (whole_on (rest_on k p) q) (if ended (last_of (rest_on (rest_on k p) q)) []))
