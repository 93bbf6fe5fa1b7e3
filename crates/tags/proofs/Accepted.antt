-- A tag, an item and the beginning of one are written exactly if there is room, an opening and a closing with the value 0 alone.
-- Assumes nothing.
use mathlib.Core.Path.{◌≡◌, refl}
use mathlib.Core.Logic.{◌↔◌}
use mathlib.Core.Bool.{Bool, true, false}
use Prim.Native.Nat.{ℕ, ◌+◌}
use native.Mathlib.Omega.{arith}
use mathlib.Core.List.{List}
use lib.ListN.{length}
use borrow.Author.Tests.{eq-eqb, eqb-true}
use Rattle.types.specs.Choice.{if}
use Rattle.types.specs.Tag.{Number, application, context, opening, closing, tag}
use Rattle.types.specs.Writing.{can, unwritable, writing}
use Rattle.types.specs.Acceptable.{Acceptable, IsAccepted}
use Rattle.types.proofs.Accepted.{accepted_exactly}
use Rattle.tags.specs.Writing.{tag_bytes, Valueless, tag_value_allowed, writable_tag, tag_to, tag_before}
use Rattle.tags.specs.Item.{item_bytes, item_to, item_lent_to}

-- what can be written: an opening and a closing have the value 0, and any other tag may have any
allowed_exactly : (n : Number) (v : ℕ) → (tag_value_allowed (tag n v) ≡ true) ↔ Valueless n v
unfolding tag_value_allowed
allowed_exactly (application n) v = (λ e. tt, λ h. refl)
allowed_exactly (context n) v = (λ e. tt, λ h. refl)
allowed_exactly (opening n) v = (λ e. eqb-true v 0 e, λ h. eq-eqb v 0 h)
allowed_exactly (closing n) v = (λ e. eqb-true v 0 e, λ h. eq-eqb v 0 h)

by_allowed : (b : Bool) → (if b can unwritable ≡ can) ↔ (b ≡ true)
by_allowed true = (λ e. refl, λ e. refl)
by_allowed false = (λ e. let z : ◌≡◌ {A = ℕ} 0 1 = cc in absurd (omega arith), λ e. let z : ◌≡◌ {A = ℕ} 0 1 = cc in absurd (omega arith))

writable_exactly : (n : Number) (v : ℕ) → (writable_tag (tag n v) ≡ can) ↔ Valueless n v
writable_exactly n v =
    let a = by_allowed (tag_value_allowed (tag n v)) in
    let b = allowed_exactly n v in
    (λ e. b.0 (a.0 e), λ h. a.1 (b.1 h))

module _ (n : Number) (xs : List ℕ) (place : ℕ) where
  -- `encode`, and the openings and closings over it
  pub tag_accepted : (v : ℕ) → IsAccepted (tag_to (tag n v) xs place).answer ↔ Acceptable 0 (Valueless n v) (length (tag_bytes (tag n v))) xs place
  unfolding tag_to writing
  tag_accepted v = accepted_exactly 0 (writable_tag (tag n v)) (length (tag_bytes (tag n v))) xs place (writable_exactly n v) (tag_bytes (tag n v))

  -- `begin`: room is asked for header and content together
  pub begin_accepted : (v content : ℕ) → IsAccepted (tag_before (tag n v) content xs place).answer ↔ Acceptable 0 (Valueless n v) (length (tag_bytes (tag n v)) + content) xs place
  unfolding tag_before
  begin_accepted v content = accepted_exactly 0 (writable_tag (tag n v)) (length (tag_bytes (tag n v)) + content) xs place (writable_exactly n v) (tag_bytes (tag n v))

  -- an item, of whose content so many bytes are lent
  pub item_lent_accepted : (lent : ℕ) (content : List ℕ) → IsAccepted (item_lent_to lent n content xs place).answer ↔ Acceptable lent (Valueless n (length content)) (length (item_bytes n content)) xs place
  unfolding item_lent_to writing
  item_lent_accepted lent content = accepted_exactly lent (writable_tag (tag n (length content))) (length (item_bytes n content)) xs place (writable_exactly n (length content)) (item_bytes n content)

  -- and where none is: the integers under their tags, and a boolean under a context tag
  pub item_accepted : (content : List ℕ) → IsAccepted (item_to n content xs place).answer ↔ Acceptable 0 (Valueless n (length content)) (length (item_bytes n content)) xs place
  unfolding item_to
  item_accepted content = item_lent_accepted 0 content
