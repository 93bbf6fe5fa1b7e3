-- An optional body is handed over exactly if there is one, and absent exactly at the buffer's end and where a whole tag other than its opening stands: never where one is begun.
-- Assumes nothing.
use Prim.Native.Nat.{ℕ, ◌≤◌, ◌<◌}
use mathlib.Core.Path.{◌≡◌, refl, sym, ap, ◌∙◌, subst}
use mathlib.Core.Logic.{◌⊎◌, inl, inr, ⊎_elim, ◌↔◌}
use mathlib.Core.Bool.{Bool, true, false}
use mathlib.Core.List.{List, [], ◌++◌, append_assoc, append-nil}
use native.Mathlib.Omega.{arith}
use borrow.Author.Tests.{lt-ltb, le-ltb, ltb-true, eq-eqb, ne_eqb}
use lib.ListN.{length, drop, length-append, length-drop}
use lib.Dec.{ltb}
use Rattle.types.specs.Choice.{if}
use Rattle.types.specs.Tag.{Tag}
use Rattle.types.specs.Refusal.{Carried, amount, tag_found}
use Rattle.types.specs.Answer.{Answer, refused}
use Rattle.tags.specs.Reading.{tag_from, expected_from}
use Rattle.tags.proofs.Exactly.{tag_found_lem, tag_read, tag_length}
use Rattle.tags.proofs.OneTag.{one_tag}
use Rattle.tags.proofs.Refusals.{past_end, at_the_end, tag_refused}
use Rattle.bodies.specs.Item.{Item}
use Rattle.bodies.specs.Body.{BodyAt}
use Rattle.bodies.specs.Scan.{Body, Counted, counted, handed, unread, body_for_from}
use Rattle.bodies.specs.Given.{given}
use Rattle.bodies.specs.Count.{CountIs}
use Rattle.bodies.specs.Optional.{Absence, end_of_buffer, other_tag, Optional, body_or_refusal, absent, optional_of, optional_from}
use Rattle.bodies.specs.Absent.{AbsentAt, ends, other, Begun, stands, cut}
use Rattle.bodies.proofs.Scanned.{Why, spent, run_out, Says}
use Rattle.bodies.proofs.Places.{body_here}
use Rattle.bodies.proofs.Ways.{optional_ways, not_same}
use Rattle.bodies.proofs.Exactly.{exactly, nothing_handed}
use Rattle.bodies.proofs.Counts.{scanned_says, count_within_for_tag, count_is_for_tag}
use Rattle.bodies.proofs.Allowance.{NotSpent, allowance_suffices_for_tag}
use Rattle.bodies.proofs.ForTag.{for_tag_lem}

-- what `get_tagged_body_for_tag` answers where the other call answers this: 3 at the buffer's end, and 4 with the tag found
abbrev pub for_tag : List ℕ → Optional → Counted
for_tag xs (body_or_refusal x) = x
for_tag xs (absent end_of_buffer) = unread 3 (amount (length xs))
for_tag xs (absent (other_tag t)) = unread 4 (tag_found t)

-- an answer is no absence, and two of either that are the same have the same in them
answer_not_absent : {x : Counted} {a : Absence} → body_or_refusal x ≡ absent a → ⊥
answer_not_absent e = let z : ◌≡◌ {A = ℕ} 0 1 = cc in omega arith

same_answer : {x y : Counted} → body_or_refusal x ≡ body_or_refusal y → x ≡ y
same_answer e = cc

same_absence : {a b : Absence} → absent a ≡ absent b → a ≡ b
same_absence e = cc

same_refusal : {r s k j : ℕ} {c d : Carried} → body_or_refusal (counted (refused r c) k) ≡ body_or_refusal (counted (refused s d) j) → r ≡ s
same_refusal {r} {s} {c = c} {d} e = let a : ◌≡◌ {A = Answer Body} (refused r c) (refused s d) = ap (λ (x : Counted). x.answer) (same_answer e) in cc

-- the refusals of the call
abbrev pub Among : ℕ → Type 0
Among r = (r ≡ 1) ⊎ ((r ≡ 2) ⊎ ((r ≡ 3) ⊎ (r ≡ 14)))

tag_among : {r : ℕ} → (r ≡ 1) ⊎ ((r ≡ 2) ⊎ (r ≡ 3)) → Among r
tag_among w = ⊎_elim (λ h. inl h) (λ v. ⊎_elim (λ h. inr (inl h)) (λ h. inr (inr (inl h))) v) w

why_among : {allowance k : ℕ} {xs : List ℕ} {end m r : ℕ} {c : Carried} → Why allowance k xs end m r c → Among r
why_among (spent h) = inr (inr (inr refl))
why_among (run_out h g) = inr (inr (inl refl))

-- a body that is begun at a place is not absent there
begun_or_absent : (xs : List ℕ) (place n : ℕ) {a : Absence} → Begun xs place n → AbsentAt xs place n a → ⊥
begun_or_absent xs place n (stands bytes rest here is) (ends e) = omega (arith, length-drop place xs, ap length here, length-append bytes rest, tag_length is)
begun_or_absent xs place n (stands bytes rest here is) (other bytes' rest' here' is' f) = f (ap (λ (t : Tag). t.number) (one_tag is' is rest' rest (sym here' ∙ here)).same_tag)
begun_or_absent xs place n (cut more l is) (ends e) = omega arith
begun_or_absent xs place n (cut more l is) (other bytes' rest' here' is' f) =
    let same : bytes' ++ (rest' ++ more) ≡ (drop place xs ++ more) ++ [] = sym (append_assoc bytes' rest' more) ∙ ap (λ (ys : List ℕ). ys ++ more) (sym here') ∙ sym (append-nil (drop place xs ++ more)) in
    f (ap (λ (t : Tag). t.number) (one_tag is' is (rest' ++ more) [] same).same_tag)

module _ (expected allowance : ℕ) (xs : List ℕ) (place : ℕ) where
  -- a buffer that is too long is refused
  pub optional_too_long : 65535 < length xs → optional_from expected allowance xs place ≡ body_or_refusal (unread 1 (amount (length xs)))
  unfolding optional_from
  optional_too_long l = simp (lt-ltb 65535 (length xs) l)

  -- away from the end of one that is not, the tag tells
  pub optional_by_tag : length xs ≤ 65535 → (place ≡ length xs → ⊥) → optional_from expected allowance xs place ≡ optional_of expected allowance xs (tag_from xs place)
  unfolding optional_from
  optional_by_tag small away = simp (le-ltb 65535 (length xs) small, ne_eqb place (length xs) away) (go (ltb (length xs) place) refl)
    where
      go : (b : Bool) → ltb (length xs) place ≡ b → if b (body_or_refusal (unread 2 (amount place))) (optional_of expected allowance xs (tag_from xs place)) ≡ optional_of expected allowance xs (tag_from xs place)
      go true f = ap (optional_of expected allowance xs) (sym (past_end xs place small (ltb-true (length xs) place f)))
      go false f = refl

  -- at the end of one it is absent
  pub optional_at_end : length xs ≤ 65535 → place ≡ length xs → optional_from expected allowance xs place ≡ absent end_of_buffer
  unfolding optional_from
  optional_at_end small e = let l : place ≤ length xs = omega arith in simp (le-ltb 65535 (length xs) small, le-ltb (length xs) place l, eq-eqb place (length xs) e)

  -- the two calls tell the same, but that what is absent here is refused there
  pub for_tag_told : body_for_from expected allowance xs place ≡ for_tag xs (optional_from expected allowance xs place)
  unfolding body_for_from expected_from
  for_tag_told =
      optional_ways (λ (o : Optional). body_for_from expected allowance xs place ≡ for_tag xs o) expected allowance xs place
      (λ next e. simp (e, eq-eqb expected expected refl))
      (λ t next e f. simp (e, not_same expected t.number f))
      (λ small e. simp (at_the_end xs place small e))
      (λ r c e. simp e)

  absent_there : length xs ≤ 65535 → {a : Absence} → AbsentAt xs place expected a → optional_from expected allowance xs place ≡ absent a
  absent_there small (ends e) = optional_at_end small e
  absent_there small (other {t} bytes rest here is f) =
      let l : place < length xs = omega (arith, length-drop place xs, ap length here, length-append bytes rest, tag_length is) in
      optional_by_tag small (λ e. omega arith) ∙ simp (tag_read xs small place t bytes rest here is, not_same expected t.number f)

  -- absent is answered exactly if the place is the end of a buffer that is not too long, or a whole tag other than the opening of that number stands there
  pub absent_exactly : (a : Absence) → (optional_from expected allowance xs place ≡ absent a) ↔ ((length xs ≤ 65535) × AbsentAt xs place expected a)
  absent_exactly a = (
    optional_ways (λ (o : Optional). o ≡ absent a → (length xs ≤ 65535) × AbsentAt xs place expected a) expected allowance xs place
        (λ next e g. absurd (answer_not_absent g))
        (λ t next e f g. let h = tag_found_lem xs place t next e in (h.small, subst (AbsentAt xs place expected) (same_absence g) (other h.bytes (drop next xs) h.here h.is_tag f)))
        (λ small e g. (small, subst (AbsentAt xs place expected) (same_absence g) (ends e)))
        (λ r c e g. absurd (answer_not_absent g)),
    (λ y. absent_there y.0 y.1),
  )

  -- and then no body of that number begins there
  pub absent_no_body : (a : Absence) → optional_from expected allowance xs place ≡ absent a → {view : List ℕ} {items : List Item} → BodyAt xs place expected view items → ⊥
  absent_no_body a e b = let y = (absent_exactly a).0 e in begun_or_absent xs place expected (stands b.opener _ (body_here xs y.0 b) b.opened) y.1

  -- where an opening of that number stands, or what could become one is cut, the answer is a body or a refusal, never absent
  pub begun_never_absent : Begun xs place expected → (x : Counted) × (optional_from expected allowance xs place ≡ body_or_refusal x)
  begun_never_absent b = go (optional_from expected allowance xs place) refl
    where
      go : (o : Optional) → optional_from expected allowance xs place ≡ o → (x : Counted) × (optional_from expected allowance xs place ≡ body_or_refusal x)
      go (body_or_refusal x) e = (x, e)
      go (absent a) e = absurd (begun_or_absent xs place expected b ((absent_exactly a).0 e).1)

  -- what is answered besides is what `get_tagged_body_for_tag` answers
  pub same_for_tag : (x : Counted) → optional_from expected allowance xs place ≡ body_or_refusal x → body_for_from expected allowance xs place ≡ x
  same_for_tag x e = for_tag_told ∙ ap (for_tag xs) e

  present_for_tag : (start size n next count : ℕ) → body_for_from expected allowance xs place ≡ handed start size n next count → optional_from expected allowance xs place ≡ body_or_refusal (handed start size n next count)
  present_for_tag start size n next count e = go (optional_from expected allowance xs place) refl
    where
      go : (o : Optional) → optional_from expected allowance xs place ≡ o → optional_from expected allowance xs place ≡ body_or_refusal (handed start size n next count)
      go (body_or_refusal x) g = g ∙ ap body_or_refusal (sym (same_for_tag x g) ∙ e)
      go (absent end_of_buffer) g = absurd (nothing_handed (sym (ap (for_tag xs) g) ∙ sym for_tag_told ∙ e))
      go (absent (other_tag t)) g = absurd (nothing_handed (sym (ap (for_tag xs) g) ∙ sym for_tag_told ∙ e))

  -- a body is handed over exactly if one of that number exists: demand 3's `exactly`, of this call
  pub present_exactly : length xs ≤ 65535 → length xs ≤ allowance → (start size n next count : ℕ)
      → (optional_from expected allowance xs place ≡ body_or_refusal (handed start size n next count))
      ↔ ((n ≡ expected) × (view : List ℕ) × (items : List Item) × (b : BodyAt xs place n view items) × (handed start size n next count ≡ given b))
  present_exactly small room start size n next count =
      let both = for_tag_lem expected allowance xs place start size n next count in
      let there = exactly xs place allowance small room start size n next count in (
        (λ e. let y = both.0 (same_for_tag (handed start size n next count) e) in let z = there.0 y.1 in (y.0, z.0, z.1, z.2, z.3)),
        (λ y. present_for_tag start size n next count (both.1 (y.0, there.1 (y.1, y.2, y.3, y.4)))),
      )

  -- the count is never more than the allowance, and is the number of tags wholly read after the opening
  pub count_within_optional : (x : Counted) → optional_from expected allowance xs place ≡ body_or_refusal x → x.tags ≤ allowance
  count_within_optional x e = subst (λ (r : Counted). r.tags ≤ allowance) (same_for_tag x e) (count_within_for_tag expected allowance xs place)

  pub count_is_optional : (x : Counted) → optional_from expected allowance xs place ≡ body_or_refusal x → CountIs (λ n. n ≡ expected) allowance xs place x
  count_is_optional x e = subst (CountIs (λ n. n ≡ expected) allowance xs place) (same_for_tag x e) (count_is_for_tag expected allowance xs place)

  -- with an allowance no smaller than the buffer, 14 is never answered
  pub allowance_suffices_optional : length xs ≤ allowance → (x : Counted) → optional_from expected allowance xs place ≡ body_or_refusal x → NotSpent x.answer
  allowance_suffices_optional room x e = subst (λ (r : Counted). NotSpent r.answer) (same_for_tag x e) (allowance_suffices_for_tag allowance xs place room expected)

  -- a refusal is 1, 2, 3 or 14
  pub refused_by : (r : ℕ) (c : Carried) (k : ℕ) → optional_from expected allowance xs place ≡ body_or_refusal (counted (refused r c) k) → Among r
  refused_by r c k =
      optional_ways (λ (o : Optional). o ≡ body_or_refusal (counted (refused r c) k) → Among r) expected allowance xs place
      (λ next e g. why_among (subst (λ (x : Counted). Says allowance expected next 0 0 xs next x.answer x.tags) (same_answer g) (scanned_says allowance xs place expected next e)).why)
      (λ t next e f g. absurd (answer_not_absent (sym g)))
      (λ small e g. absurd (answer_not_absent (sym g)))
      (λ s d e g. subst Among (same_refusal g) (tag_among (tag_refused xs place s d e)))
