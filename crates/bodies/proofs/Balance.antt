-- Openings and closings of one number among items, where so many openings stand before them.
-- Assumes nothing.
use Prim.Native.Nat.{ℕ, zero, suc, ◌+◌, ◌-◌, ◌≤◌}
use mathlib.Core.Path.{◌≡◌}
use mathlib.Core.List.{List, [], ◌∷◌}
use native.Mathlib.Omega.{arith}
use lib.ListN.{take}
use Rattle.bodies.specs.Item.{Item}
use Rattle.bodies.specs.Body.{opens, closes, openings, closings}

-- with so many openings of n before the items, closings of n are never more, and equal in the end
pub record Balanced (n unclosed : ℕ) (items : List Item) : Type 0 where
  pub never_more : (k : ℕ) → closings n (take k items) ≤ unclosed + openings n (take k items)
  pub equal : closings n items ≡ unclosed + openings n items

-- the openings without their closing after an item
abbrev pub deeper : ℕ → ℕ → Item → ℕ
deeper n unclosed i = unclosed + opens n i.tag.number - closes n i.tag.number

pub balanced_first : (n unclosed : ℕ) (i : Item) (items : List Item) → Balanced n unclosed (i ∷ items) → closes n i.tag.number ≤ unclosed + opens n i.tag.number
balanced_first n unclosed i items b = omega (arith, b.never_more 1)

pub balanced_rest : (n unclosed : ℕ) (i : Item) (items : List Item) → Balanced n unclosed (i ∷ items) → Balanced n (deeper n unclosed i) items
balanced_rest n unclosed i items b =
    let h = balanced_first n unclosed i items b in
    record {
      never_more = λ k. omega (arith, b.never_more (suc k));
      equal = omega (arith, b.equal);
    }

pub balanced_more : (n unclosed : ℕ) (i : Item) (items : List Item) → closes n i.tag.number ≤ unclosed + opens n i.tag.number → Balanced n (deeper n unclosed i) items → Balanced n unclosed (i ∷ items)
balanced_more n unclosed i items h b = record { never_more = never; equal = omega (arith, b.equal) }
  where
    never : (k : ℕ) → closings n (take k (i ∷ items)) ≤ unclosed + openings n (take k (i ∷ items))
    never zero = omega arith
    never (suc k) = omega (arith, b.never_more k)

pub balanced_none : (n unclosed : ℕ) → unclosed ≡ 0 → Balanced n unclosed []
balanced_none n unclosed z = record { never_more = never; equal = omega arith }
  where
    never : (k : ℕ) → closings n (take k []) ≤ unclosed + openings n (take k [])
    never zero = omega arith
    never (suc k) = omega arith
