-- Bytes moved to the buffer's start, one at a time and all at once.
-- Assumes nothing.
use mathlib.Core.Path.{◌≡◌, refl, ◌∙◌, sym}
use mathlib.Core.Bool.{Bool, true, false}
use mathlib.Core.List.{List}
use Prim.Native.Nat.{ℕ, ◌+◌, ◌-◌, ◌≤◌, ◌<◌, min}
use native.Mathlib.Omega.{arith}
use lib.ListN.{length, take, drop, length-take, length-drop}
use lib.Seq.{take_all, length-take-le}
use lib.Dec.{ltb}
use borrow.Author.Tests.{ltb-true, ltb-false}
use Rattle.std.specs.List.{copy_within}
use Rattle.types.specs.Writing.{over}
use Rattle.lines.specs.Lines.{most_kept, kept_of}

-- what is kept, by its count
pub kept_by_count : (xs : List ℕ) (place count : ℕ) → count ≡ min (length xs - place) most_kept → kept_of xs place ≡ take count (drop place xs)
unfolding kept_of
kept_by_count xs place count e =
    by_length (ltb (length xs - place) most_kept) refl
  where
    by_length : (t : Bool) → ltb (length xs - place) most_kept ≡ t → take most_kept (drop place xs) ≡ take count (drop place xs)
    by_length true t =
        let h : length xs - place < most_kept = ltb-true (length xs - place) most_kept t in
        take_all most_kept (drop place xs) (omega (arith, length-drop place xs)) ∙ sym (take_all count (drop place xs) (omega (arith, length-drop place xs)))
    by_length false t =
        let h : most_kept ≤ length xs - place = ltb-false (length xs - place) most_kept t in
        let k : count ≡ most_kept = omega arith in
        rw k refl

-- all are moved
pub kept_all : (xs ys : List ℕ) (place count : ℕ) → place ≤ length xs → count ≡ min (length xs - place) most_kept → ys ≡ copy_within xs place (place + count) 0
    → (count ≡ length (kept_of xs place)) × (ys ≡ over xs 0 (kept_of xs place))
kept_all xs ys place count f e m =
    let k : kept_of xs place ≡ take count (drop place xs) = kept_by_count xs place count e in
    let n : length (take count (drop place xs)) ≡ count = length-take-le count (drop place xs) (omega (arith, length-drop place xs)) in
    let d : place + count - place ≡ count = omega arith in
    rw (k, n) (refl, rw d at m)

-- nothing is kept from a place past the end on
pub none_kept_past_the_end : (xs : List ℕ) (place : ℕ) → length xs < place → (0 ≡ length (kept_of xs place)) × (xs ≡ over xs 0 (kept_of xs place))
none_kept_past_the_end xs place h = rw (kept_by_count xs place 0 (omega arith)) (refl, refl)

-- what is kept is short
pub kept_short : (xs : List ℕ) (place count : ℕ) → count ≡ length (kept_of xs place) → count ≤ most_kept
unfolding kept_of
kept_short xs place count e = omega (arith, length-take most_kept (drop place xs))
