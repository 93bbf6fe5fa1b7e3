-- How the reading of a tag is refused.
-- Assumes nothing.
use Prim.Native.Nat.{ℕ, ◌+◌, ◌≤◌, ◌<◌}
use mathlib.Core.Path.{◌≡◌, refl, subst}
use mathlib.Core.Logic.{◌⊎◌, inl, inr}
use mathlib.Core.Bool.{Bool, true, false}
use mathlib.Core.List.{List}
use native.Mathlib.Omega.{arith}
use lib.ListN.{length}
use lib.Dec.{ltb}
use borrow.Author.Tests.{lt-ltb, le-ltb, le-leb, ltb-true, ltb-false}
use Rattle.types.specs.Refusal.{Carried, amount}
use Rattle.types.specs.Answer.{refused}
use Rattle.numbers.specs.Reading.{byte_from}
use Rattle.tags.specs.Reading.{tag_from}
use Rattle.tags.proofs.Range.{OrRunsOut, tag_or_run_out}

-- 1 for a buffer that is too long
pub too_long : (xs : List ℕ) (place : ℕ) → 65535 < length xs → tag_from xs place ≡ refused 1 (amount (length xs))
unfolding tag_from byte_from
too_long xs place l = simp (lt-ltb 65535 (length xs) l)

-- 2 for a place past the end
pub past_end : (xs : List ℕ) (place : ℕ) → length xs ≤ 65535 → length xs < place → tag_from xs place ≡ refused 2 (amount place)
unfolding tag_from byte_from
past_end xs place s l = simp (le-ltb 65535 (length xs) s, lt-ltb (length xs) place l)

-- 3 at the end, carrying it
pub at_the_end : (xs : List ℕ) (place : ℕ) → length xs ≤ 65535 → place ≡ length xs → tag_from xs place ≡ refused 3 (amount (length xs))
unfolding tag_from byte_from
at_the_end xs place s e =
    let l : place ≤ length xs = omega arith in
    let m : length xs ≤ place = omega arith in
    simp (le-ltb 65535 (length xs) s, le-ltb (length xs) place l, le-leb (length xs) place m)

-- and else 3
pub tag_refused : (xs : List ℕ) (place r : ℕ) (c : Carried) → tag_from xs place ≡ refused r c → (r ≡ 1) ⊎ ((r ≡ 2) ⊎ (r ≡ 3))
tag_refused xs place r c e = go (ltb 65535 (length xs)) refl (ltb (length xs) place) refl
  where
    go : (a : Bool) → ltb 65535 (length xs) ≡ a → (b : Bool) → ltb (length xs) place ≡ b → (r ≡ 1) ⊎ ((r ≡ 2) ⊎ (r ≡ 3))
    go true f b g = let h = too_long xs place (ltb-true 65535 (length xs) f) in inl (cc)
    go false f true g = let h = past_end xs place (ltb-false 65535 (length xs) f) (ltb-true (length xs) place g) in inr (inl (cc))
    go false f false g = inr (inr (subst (OrRunsOut xs (place + 7)) e (tag_or_run_out xs (ltb-false 65535 (length xs) f) place (ltb-false (length xs) place g))).number)
