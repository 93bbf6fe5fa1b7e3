-- Beginnings of a line that no end can tell apart: so the bytes of a line that are kept do for the whole of it.
-- Assumes nothing.
use mathlib.Core.Path.{◌≡◌, refl, ◌∙◌, ap}
use mathlib.Core.Bool.{Bool, true, false}
use mathlib.Core.List.{List, [], ◌∷◌, ◌++◌}
use Prim.Native.Nat.{ℕ, ◌≤◌, ◌<◌}
use native.Mathlib.Omega.{arith}
use lib.Dec.{ltb, eqb}
use lib.ListN.{length, take, drop, length-append}
use lib.Seq.{take_all, length-take-le}
use borrow.Author.Tests.{lt-ltb, ltb-true, ltb-false}
use Rattle.types.specs.Choice.{if}
use Rattle.lines.specs.Hexadecimal.{most_digits, is_frame}
use Rattle.lines.specs.Lines.{most_kept, kept_of}
use Rattle.lines.specs.Input.{whole_on, rest_on}

-- the same, or both too long
pub data Same (a b : List ℕ) : Type 0 where
  same : a ≡ b → Same a b
  long : most_kept ≤ length a → most_kept ≤ length b → Same a b

-- too long a line is no frame's
pub too_long : (l : List ℕ) → most_kept ≤ length l → is_frame l ≡ false
unfolding is_frame
too_long l h = rw (lt-ltb most_digits (length l) (omega arith)) refl

pub same_more : (a b m : List ℕ) → Same a b → Same (a ++ m) (b ++ m)
same_more a b m (same e) = same (ap (λ (l : List ℕ). l ++ m) e)
same_more a b m (long h k) = long (omega (arith, length-append a m)) (omega (arith, length-append b m))

-- what is kept is such a beginning
pub same_cut : (a b : List ℕ) → Same a b → Same (take most_kept a) b
same_cut a b (long h k) = long (omega (arith, length-take-le most_kept a h)) k
same_cut a b (same e) = by_length (ltb most_kept (length a)) refl
  where
    by_length : (t : Bool) → ltb most_kept (length a) ≡ t → Same (take most_kept a) b
    by_length true t = let h : most_kept < length a = ltb-true most_kept (length a) t in long (omega (arith, length-take-le most_kept a (omega arith))) (omega (arith, ap length e))
    by_length false t = same (take_all most_kept a (ltb-false most_kept (length a) t) ∙ e)

pub kept_behind : (xs : List ℕ) (place : ℕ) → kept_of xs place ≡ take most_kept (drop place xs)
unfolding kept_of
kept_behind xs place = refl

-- behind either, as many lines end, and the same is left
pub same_count : (p a b : List ℕ) → length (whole_on a p) ≡ length (whole_on b p)
same_count [] a b = refl
same_count (x ∷ p) a b = both (eqb x 10) (same_count p (a ++ (x ∷ [])) (b ++ (x ∷ [])))
  where
    both : (t : Bool) → length (whole_on (a ++ (x ∷ [])) p) ≡ length (whole_on (b ++ (x ∷ [])) p) → length (if t (a ∷ whole_on [] p) (whole_on (a ++ (x ∷ [])) p)) ≡ length (if t (b ∷ whole_on [] p) (whole_on (b ++ (x ∷ [])) p))
    both true q = refl
    both false q = q

pub same_rest : (p a b : List ℕ) → Same a b → Same (rest_on a p) (rest_on b p)
same_rest [] a b s = s
same_rest (x ∷ p) a b s = both (eqb x 10) (same_rest p (a ++ (x ∷ [])) (b ++ (x ∷ [])) (same_more a b (x ∷ []) s))
  where
    both : (t : Bool) → Same (rest_on (a ++ (x ∷ [])) p) (rest_on (b ++ (x ∷ [])) p) → Same (if t (rest_on [] p) (rest_on (a ++ (x ∷ [])) p)) (if t (rest_on [] p) (rest_on (b ++ (x ∷ [])) p))
    both true q = same refl
    both false q = q
