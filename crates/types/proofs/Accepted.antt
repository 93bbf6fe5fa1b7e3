-- A write is accepted exactly if 01 has nothing against it: no writer refuses what there is room for.
-- Assumes nothing.
use mathlib.Core.Path.{◌≡◌, refl, sym, subst}
use mathlib.Core.Logic.{◌↔◌}
use Prim.Native.Nat.{ℕ, ◌+◌, ◌≤◌}
use native.Mathlib.Omega.{arith}
use mathlib.Core.Bool.{Bool, true, false}
use mathlib.Core.List.{List}
use lib.Dec.{ltb}
use lib.ListN.{length}
use borrow.Author.Tests.{le-ltb, ltb-false}
use Rattle.types.specs.Choice.{if}
use Rattle.types.specs.Refusal.{Carried, amount}
use Rattle.types.specs.Answer.{Answer, accepted, refused}
use Rattle.types.specs.Writing.{Writable, can, cannot, unless, Left, left, settled, write_answer, writing}
use Rattle.types.specs.Acceptable.{Acceptable, IsAccepted}
use Rattle.types.proofs.Choices.{either}

-- what is left of a write, by its answer, is accepted where the answer is
settled_as : (bytes xs : List ℕ) (place : ℕ) (a : Answer (Unit {0})) → IsAccepted (settled bytes xs place a).answer ↔ IsAccepted a
settled_as bytes xs place (accepted u next) = (λ h. tt, λ h. tt)
settled_as bytes xs place (refused n c) = (λ h. h, λ h. h)

-- a test that refuses what is above a limit is passed exactly below it
pub limit_exactly : (most v n : ℕ) (c : Carried) (w : Writable) → (if (ltb most v) (cannot n c) w ≡ can) ↔ ((v ≤ most) × (w ≡ can))
limit_exactly most v n c w = go (ltb most v) (ltb-false most v) (le-ltb most v)
  where
    go : (b : Bool) → (b ≡ false → v ≤ most) → (v ≤ most → b ≡ false) → (if b (cannot n c) w ≡ can) ↔ ((v ≤ most) × (w ≡ can))
    go true f g = (λ e. let z : ◌≡◌ {A = ℕ} 0 1 = cc in absurd (omega arith), λ h. let e = g h.0 in let z : ◌≡◌ {A = ℕ} 0 1 = cc in absurd (omega arith))
    go false f g = (λ e. (f refl, e), λ h. h.1)

module _ (lent : ℕ) (w : Writable) (count : ℕ) (xs : List ℕ) (place : ℕ) {Can : Type 0} (named : (w ≡ can) ↔ Can) where
  abbrev Then : Answer (Unit {0}) → Type 0
  Then a = IsAccepted a → Acceptable lent Can count xs place

  nothing_against : Then (write_answer lent w count xs place)
  unfolding write_answer
  nothing_against =
      either Then (ltb 65535 (length xs)) (λ e h. absurd h) (λ e.
      either Then (ltb 65535 lent) (λ f h. absurd h) (λ f.
      either Then (ltb (length xs) place) (λ g h. absurd h) (λ g.
      go w named.0 (ltb-false 65535 (length xs) e) (ltb-false 65535 lent f) (ltb-false (length xs) place g))))
    where
      go : (v : Writable) → (v ≡ can → Can) → length xs ≤ 65535 → lent ≤ 65535 → place ≤ length xs → Then (unless v (if (ltb (length xs) (place + count)) (refused 13 (amount count)) (accepted tt (place + count))))
      go can n s l i =
          either Then (ltb (length xs) (place + count)) (λ h k. absurd k)
          (λ h k. record { short = s; content = l; inside = i; writable = n refl; room = ltb-false (length xs) (place + count) h })
      go (cannot m c) n s l i = λ h. absurd h

  no_refusal : Acceptable lent Can count xs place → IsAccepted (write_answer lent w count xs place)
  unfolding write_answer
  no_refusal a =
      simp (le-ltb 65535 (length xs) a.short, le-ltb 65535 lent a.content, le-ltb (length xs) place a.inside, named.1 a.writable, le-ltb (length xs) (place + count) a.room) tt

  -- once 1, 2, 12, 11 and 10 are past, a write is accepted exactly if there is room; what can be written is said by the writer's own layer
  pub accepted_exactly : (bytes : List ℕ) → IsAccepted (settled bytes xs place (write_answer lent w count xs place)).answer ↔ Acceptable lent Can count xs place
  accepted_exactly bytes =
      let s = settled_as bytes xs place (write_answer lent w count xs place) in (λ h. nothing_against (s.0 h), λ a. s.1 (no_refusal a))

-- so a write that was accepted was of what can be written, with room for it
pub could_be_written : (lent : ℕ) (w : Writable) (bytes xs : List ℕ) (place next : ℕ) (ys : List ℕ) → writing lent w bytes xs place ≡ left (accepted tt next) ys → Acceptable lent (w ≡ can) (length bytes) xs place
unfolding writing
could_be_written lent w bytes xs place next ys e =
    (accepted_exactly lent w (length bytes) xs place (λ h. h, λ h. h) bytes).0 (subst (λ (l : Left). IsAccepted l.answer) (sym e) tt)
