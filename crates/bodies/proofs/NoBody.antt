-- Which refusals say that there is no whole body.
-- Assumes nothing.
use Prim.Native.Nat.{ℕ, ◌+◌, ◌≤◌, ◌<◌}
use mathlib.Core.Path.{◌≡◌, refl, sym, ap, ◌∙◌}
use mathlib.Core.Logic.{◌⊎◌, ⊎_elim}
use mathlib.Core.Bool.{Bool, true, false}
use mathlib.Core.List.{List}
use native.Mathlib.Omega.{arith}
use lib.ListN.{length}
use lib.Dec.{ltb}
use borrow.Author.Tests.{ltb-true, ltb-false}
use Rattle.types.specs.Refusal.{Carried, amount}
use Rattle.types.specs.Answer.{Answer, refused}
use Rattle.tags.specs.Reading.{expected_from}
use Rattle.tags.proofs.Refusals.{too_long}
use Rattle.bodies.specs.Item.{Item}
use Rattle.bodies.specs.Body.{BodyAt}
use Rattle.bodies.specs.Scan.{Body, Counted, body_from, body_for_from}
use Rattle.bodies.specs.Given.{given}
use Rattle.bodies.proofs.Places.{body_placed}
use Rattle.bodies.proofs.Exactly.{body_given}
use Rattle.bodies.proofs.Allowance.{smaller_allowance}
use Rattle.bodies.proofs.ForTag.{as_the_other}

module _ (xs : List ℕ) (place allowance : ℕ) where
  -- in a buffer that is not too long, with every allowance: a refusal other than 14 is given only where there is no body
  pub no_body_unless_spent : length xs ≤ 65535 → (r : ℕ) (c : Carried) → (body_from allowance xs place).answer ≡ refused r c → (r ≡ 14 → ⊥) → {n : ℕ} {view : List ℕ} {items : List Item} → BodyAt xs place n view items → ⊥
  no_body_unless_spent small r c e f b =
      ⊎_elim
      (λ g.
      let a : (body_from allowance xs place).answer ≡ (given b).answer = ap (λ (x : Counted). x.answer) (g ∙ body_given xs place small (allowance + length xs) (omega arith) b) in
      let z : ◌≡◌ {A = ℕ} 0 1 = cc in
      omega arith)
      (λ g.
      let a : (body_from allowance xs place).answer ≡ refused 14 (amount allowance) = ap (λ (x : Counted). x.answer) g in
      let z : r ≡ 14 = cc in
      f z)
      (smaller_allowance allowance (allowance + length xs) xs place (omega arith))

  -- a buffer that is too long is refused 1
  refused_1 : 65535 < length xs → (body_from allowance xs place).answer ≡ refused 1 (amount (length xs))
  unfolding body_from
  refused_1 l = simp (too_long xs place l)

  for_tag_refused_1 : (expected : ℕ) → 65535 < length xs → (body_for_from expected allowance xs place).answer ≡ refused 1 (amount (length xs))
  unfolding body_for_from expected_from
  for_tag_refused_1 expected l = simp (too_long xs place l)

  small_unless_1 : (a : Answer Body) → (65535 < length xs → a ≡ refused 1 (amount (length xs))) → (r : ℕ) (c : Carried) → a ≡ refused r c → (r ≡ 1 → ⊥) → length xs ≤ 65535
  small_unless_1 a h r c e f = go (ltb 65535 (length xs)) refl
    where
      go : (b : Bool) → ltb 65535 (length xs) ≡ b → length xs ≤ 65535
      go true g = let k = h (ltb-true 65535 (length xs) g) in let z : r ≡ 1 = cc in absurd (f z)
      go false g = ltb-false 65535 (length xs) g

  -- where `get_tagged_body` refuses 3 or 6, there is no body at that place
  pub no_body_where_refused : (r : ℕ) (c : Carried) → (body_from allowance xs place).answer ≡ refused r c → (r ≡ 3) ⊎ (r ≡ 6) → {n : ℕ} {view : List ℕ} {items : List Item} → BodyAt xs place n view items → ⊥
  no_body_where_refused r c e w b =
      let small : length xs ≤ 65535 = small_unless_1 (body_from allowance xs place).answer refused_1 r c e (λ f. ⊎_elim (λ h. omega arith) (λ h. omega arith) w) in
      no_body_unless_spent small r c e (λ f. ⊎_elim (λ h. omega arith) (λ h. omega arith) w) b

  -- where `get_tagged_body_for_tag` refuses 3 or 4, there is no body of that number at that place
  pub no_body_of_that_number : (expected r : ℕ) (c : Carried) → (body_for_from expected allowance xs place).answer ≡ refused r c → (r ≡ 3) ⊎ (r ≡ 4) → {view : List ℕ} {items : List Item} → BodyAt xs place expected view items → ⊥
  no_body_of_that_number expected r c e w b =
      let small : length xs ≤ 65535 = small_unless_1 (body_for_from expected allowance xs place).answer (for_tag_refused_1 expected) r c e (λ f. ⊎_elim (λ h. omega arith) (λ h. omega arith) w) in
      let s = as_the_other expected allowance xs place (place + length b.opener) (body_placed xs small b).opened in
      no_body_unless_spent small r c (ap (λ (x : Counted). x.answer) (sym s) ∙ e) (λ f. ⊎_elim (λ h. omega arith) (λ h. omega arith) w) b
