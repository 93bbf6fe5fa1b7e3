-- The ways in which asking for a body goes: an opening is found and the scan answers, another tag is found, or no tag is read; of an optional body, the buffer's end besides.
-- Assumes nothing.
use Prim.Native.Nat.{ℕ, ◌≤◌}
use mathlib.Core.Path.{◌≡◌, refl, ap, ◌∙◌, subst}
use mathlib.Core.Bool.{Bool, true, false}
use mathlib.Core.List.{List}
use native.Mathlib.Omega.{arith}
use borrow.Author.Tests.{ltb-true, ltb-false, eqb-true}
use lib.ListN.{length}
use lib.Dec.{ltb, eqb}
use Rattle.types.specs.Choice.{if}
use Rattle.types.specs.Tag.{Number, application, context, opening, closing, Tag, tag}
use Rattle.types.specs.Refusal.{Carried, tag_found}
use Rattle.types.specs.Answer.{Answer, accepted, refused, then}
use Rattle.types.proofs.Choices.{either, read_on}
use Rattle.types.proofs.Class.{same_exactly}
use Rattle.tags.specs.Reading.{tag_from, expected_from, same_number}
use Rattle.tags.proofs.Exactly.{tag_found_lem, block_has_no_value}
use Rattle.tags.proofs.Refusals.{too_long, past_end}
use Rattle.bodies.specs.Scan.{Counted, unread, scanned, body_by, body_of, body_from, body_for_of, body_for_from}
use Rattle.bodies.specs.Optional.{end_of_buffer, other_tag, Optional, body_or_refusal, absent, optional_of, optional_from}

-- an opening that was read has no value
valueless : (xs : List ℕ) (place n v next : ℕ) → tag_from xs place ≡ accepted (tag (opening n) v) next → tag_from xs place ≡ accepted (tag (opening n) 0) next
valueless xs place n v next e =
    let z : v ≡ 0 = block_has_no_value (tag_found_lem xs place (tag (opening n) v) next e).is_tag in
    cc

-- a buffer in which a tag was read is not too long
pub small_found : (xs : List ℕ) (place : ℕ) (t : Tag) (next : ℕ) → tag_from xs place ≡ accepted t next → length xs ≤ 65535
small_found xs place t next e = (tag_found_lem xs place t next e).small

-- and no more where it has the number expected
abbrev SmallIf : List ℕ → Answer Tag → Type 0
SmallIf xs (accepted t next) = length xs ≤ 65535
SmallIf xs (refused r c) = Unit {0}

pub small_expected : (expected : Number) (xs : List ℕ) (place : ℕ) (t : Tag) (next : ℕ) → expected_from expected xs place ≡ accepted t next → length xs ≤ 65535
unfolding expected_from
small_expected expected xs place t next e =
    subst (SmallIf xs) e
    (read_on (SmallIf xs) (tag_from xs place) (λ u q g. either (SmallIf xs) (same_number u.number expected) (λ f. (tag_found_lem xs place u q g).small) (λ f. tt)) (λ r c g. tt))

-- what holds in each of the three ways holds of what `get_tagged_body` answers
module _ (P : Counted → Type 0) (allowance : ℕ) (xs : List ℕ) (place : ℕ)
    (opened : (n next : ℕ) → tag_from xs place ≡ accepted (tag (opening n) 0) next → P (scanned allowance n xs next))
    (other : (t : Tag) (next : ℕ) → tag_from xs place ≡ accepted t next → ((n : ℕ) → t.number ≡ opening n → ⊥) → P (unread 6 (tag_found t)))
    (not-read : (r : ℕ) (c : Carried) → tag_from xs place ≡ refused r c → P (unread r c)) where
  by_number : (m : Number) (v next : ℕ) → tag_from xs place ≡ accepted (tag m v) next → P (body_by allowance m (tag m v) xs next)
  by_number (opening n) v next e = opened n next (valueless xs place n v next e)
  by_number (closing n) v next e = other (tag (closing n) v) next e (λ m f. let z : ◌≡◌ {A = ℕ} 0 1 = cc in omega arith)
  by_number (application n) v next e = other (tag (application n) v) next e (λ m f. let z : ◌≡◌ {A = ℕ} 0 1 = cc in omega arith)
  by_number (context n) v next e = other (tag (context n) v) next e (λ m f. let z : ◌≡◌ {A = ℕ} 0 1 = cc in omega arith)

  by_tag : (a : Answer Tag) → tag_from xs place ≡ a → P (body_of allowance xs a)
  by_tag (accepted t next) e = by_number t.number t.value next e
  by_tag (refused r c) e = not-read r c e

  pub body_ways : P (body_from allowance xs place)
  unfolding body_from
  body_ways = by_tag (tag_from xs place) refl

-- the number expected, or another
is_opening : (expected : ℕ) (m : Number) → same_number m (opening expected) ≡ true → m ≡ opening expected
is_opening expected m e = (same_exactly m (opening expected)).0 e

is_another : (expected : ℕ) (m : Number) → same_number m (opening expected) ≡ false → m ≡ opening expected → ⊥
is_another expected m e f =
    let t : same_number m (opening expected) ≡ true = (same_exactly m (opening expected)).1 f in
    let z : ◌≡◌ {A = ℕ} 0 1 = cc in omega arith

-- any number but the one expected is not the same
pub not_same : (expected : ℕ) (m : Number) → (m ≡ opening expected → ⊥) → same_number m (opening expected) ≡ false
not_same expected m f = go (same_number m (opening expected)) refl
  where
    go : (same : Bool) → same_number m (opening expected) ≡ same → same ≡ false
    go true e = absurd (f (is_opening expected m e))
    go false e = refl

-- what holds in each of the three ways holds of what `get_tagged_body_for_tag` answers
module _ (P : Counted → Type 0) (expected allowance : ℕ) (xs : List ℕ) (place : ℕ)
    (opened : (next : ℕ) → tag_from xs place ≡ accepted (tag (opening expected) 0) next → P (scanned allowance expected xs next))
    (other : (t : Tag) (next : ℕ) → tag_from xs place ≡ accepted t next → (t.number ≡ opening expected → ⊥) → P (unread 4 (tag_found t)))
    (not-read : (r : ℕ) (c : Carried) → tag_from xs place ≡ refused r c → P (unread r c)) where
  by_test : (m : Number) (v next : ℕ) → tag_from xs place ≡ accepted (tag m v) next → (same : Bool) → same_number m (opening expected) ≡ same
      → P (body_for_of expected allowance xs (if same (accepted (tag m v) next) (refused 4 (tag_found (tag m v)))))
  by_test m v next e true s = opened next (valueless xs place expected v next (e ∙ ap (λ (k : Number). accepted (tag k v) next) (is_opening expected m s)))
  by_test m v next e false s = other (tag m v) next e (is_another expected m s)

  by_expected : (a : Answer Tag) → tag_from xs place ≡ a → P (body_for_of expected allowance xs (then a (λ t next. if (same_number t.number (opening expected)) (accepted t next) (refused 4 (tag_found t)))))
  by_expected (accepted t next) e = by_test t.number t.value next e (same_number t.number (opening expected)) refl
  by_expected (refused r c) e = not-read r c e

  pub body_for_ways : P (body_for_from expected allowance xs place)
  unfolding body_for_from expected_from
  body_for_ways = by_expected (tag_from xs place) refl

-- what holds in each of the four ways holds of what `get_optional_tagged_body` answers
module _ (P : Optional → Type 0) (expected allowance : ℕ) (xs : List ℕ) (place : ℕ)
    (opened : (next : ℕ) → tag_from xs place ≡ accepted (tag (opening expected) 0) next → P (body_or_refusal (scanned allowance expected xs next)))
    (other : (t : Tag) (next : ℕ) → tag_from xs place ≡ accepted t next → (t.number ≡ opening expected → ⊥) → P (absent (other_tag t)))
    (ended : length xs ≤ 65535 → place ≡ length xs → P (absent end_of_buffer))
    (not-read : (r : ℕ) (c : Carried) → tag_from xs place ≡ refused r c → P (body_or_refusal (unread r c))) where
  opening_or_other : (m : Number) (v next : ℕ) → tag_from xs place ≡ accepted (tag m v) next → (same : Bool) → same_number m (opening expected) ≡ same
      → P (if same (body_or_refusal (scanned allowance expected xs next)) (absent (other_tag (tag m v))))
  opening_or_other m v next e true s = opened next (valueless xs place expected v next (e ∙ ap (λ (k : Number). accepted (tag k v) next) (is_opening expected m s)))
  opening_or_other m v next e false s = other (tag m v) next e (is_another expected m s)

  by_tag_found : (a : Answer Tag) → tag_from xs place ≡ a → P (optional_of expected allowance xs a)
  by_tag_found (accepted t next) e = opening_or_other t.number t.value next e (same_number t.number (opening expected)) refl
  by_tag_found (refused r c) e = not-read r c e

  pub optional_ways : P (optional_from expected allowance xs place)
  unfolding optional_from
  optional_ways =
      either P (ltb 65535 (length xs)) (λ f. not-read 1 _ (too_long xs place (ltb-true 65535 (length xs) f))) (λ f.
      let small : length xs ≤ 65535 = ltb-false 65535 (length xs) f in
      either P (ltb (length xs) place) (λ g. not-read 2 _ (past_end xs place small (ltb-true (length xs) place g))) (λ g.
      either P (eqb place (length xs)) (λ h. ended small (eqb-true place (length xs) h)) (λ h. by_tag_found (tag_from xs place) refl)))
