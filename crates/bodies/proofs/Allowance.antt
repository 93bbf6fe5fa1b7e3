-- What another allowance changes.
-- Assumes nothing.
use Prim.Native.Nat.{ℕ, zero, suc, ◌+◌, ◌≤◌, ◌<◌}
use mathlib.Core.Path.{◌≡◌, refl, ap, ◌∙◌, subst}
use mathlib.Core.Logic.{◌⊎◌, inl, inr, ⊎_elim}
use mathlib.Core.Bool.{Bool, true, false}
use mathlib.Core.List.{List}
use native.Mathlib.Omega.{arith}
use lib.ListN.{length}
use lib.Dec.{ltb, eqb}
use Rattle.types.specs.Choice.{if}
use Rattle.types.specs.Tag.{Number, application, context, opening, closing, Tag, tag}
use Rattle.types.specs.Refusal.{Carried, amount}
use Rattle.types.specs.Answer.{Answer, accepted, refused}
use Rattle.tags.specs.Reading.{tag_from, expected_from, same_number}
use Rattle.tags.proofs.Exactly.{moves_on}
use Rattle.tags.proofs.Refusals.{tag_refused}
use Rattle.bodies.specs.Scan.{Body, Counted, counted, ScanStep, stops, body_closed, onward, scan_step_from, scan_turn, scan_from, scanned, body_by, body_of, body_from, body_for_of, body_for_from}
use Rattle.bodies.specs.Optional.{other_tag, Optional, body_or_refusal, absent, optional_of, optional_from}
use Rattle.bodies.proofs.Scanned.{Why, spent, run_out, Says, items_inside}
use Rattle.bodies.proofs.Ways.{body_ways, body_for_ways}
use Rattle.bodies.proofs.Counts.{scanned_says}

-- the same answer, or 14 with the allowance spent
abbrev pub SameOrSpent : ℕ → Counted → Counted → Type 0
SameOrSpent allowance r whole = (r ≡ whole) ⊎ (r ≡ counted (refused 14 (amount allowance)) allowance)

module _ (n start : ℕ) (xs : List ℕ) where
  turn_smaller : (f g k place : ℕ) → ((d p : ℕ) → SameOrSpent (k + 1 + f) (scan_from f n start (k + 1) d xs p) (scan_from g n start (k + 1) d xs p)) → (s : ScanStep)
      → SameOrSpent (k + suc f) (scan_turn n start k place s (λ d p. scan_from f n start (k + 1) d xs p)) (scan_turn n start k place s (λ d p. scan_from g n start (k + 1) d xs p))
  turn_smaller f g k place rest (stops r c) = inl refl
  turn_smaller f g k place rest (body_closed next) = inl refl
  turn_smaller f g k place rest (onward d p) =
      ⊎_elim (λ e. inl e) (λ e. inr (e ∙ ap (λ (j : ℕ). counted (refused 14 (amount j)) j) (let z : k + 1 + f ≡ k + suc f = omega arith in z))) (rest d p)

  scan_smaller : (f g k unclosed place : ℕ) → f ≤ g → SameOrSpent (k + f) (scan_from f n start k unclosed xs place) (scan_from g n start k unclosed xs place)
  unfolding scan_from
  scan_smaller zero g k unclosed place h = inr (ap (λ (j : ℕ). counted (refused 14 (amount j)) j) (let z : k ≡ k + 0 = omega arith in z))
  scan_smaller (suc f) zero k unclosed place h = absurd (omega arith)
  scan_smaller (suc f) (suc g) k unclosed place h = turn_smaller f g k place (λ d p. scan_smaller f g (k + 1) d p (omega arith)) (scan_step_from n unclosed xs place)

scanned_smaller : (f g n : ℕ) (xs : List ℕ) (next : ℕ) → f ≤ g → SameOrSpent f (scanned f n xs next) (scanned g n xs next)
scanned_smaller f g n xs next h = subst (λ (j : ℕ). SameOrSpent j (scanned f n xs next) (scanned g n xs next)) (let z : 0 + f ≡ f = omega arith in z) (scan_smaller n next xs f g 0 0 next h)

by_smaller : (f g : ℕ) (m : Number) (t : Tag) (xs : List ℕ) (next : ℕ) → f ≤ g → SameOrSpent f (body_by f m t xs next) (body_by g m t xs next)
by_smaller f g (opening n) t xs next h = scanned_smaller f g n xs next h
by_smaller f g (closing n) t xs next h = inl refl
by_smaller f g (application n) t xs next h = inl refl
by_smaller f g (context n) t xs next h = inl refl

of_smaller : (f g : ℕ) (xs : List ℕ) (a : Answer Tag) → f ≤ g → SameOrSpent f (body_of f xs a) (body_of g xs a)
of_smaller f g xs (accepted t next) h = by_smaller f g t.number t xs next h
of_smaller f g xs (refused r c) h = inl refl

for_of_smaller : (expected f g : ℕ) (xs : List ℕ) (a : Answer Tag) → f ≤ g → SameOrSpent f (body_for_of expected f xs a) (body_for_of expected g xs a)
for_of_smaller expected f g xs (accepted t next) h = scanned_smaller f g expected xs next h
for_of_smaller expected f g xs (refused r c) h = inl refl

-- with a smaller allowance the answer is the same, or 14
pub smaller_allowance : (smaller allowance : ℕ) (xs : List ℕ) (place : ℕ) → smaller ≤ allowance → SameOrSpent smaller (body_from smaller xs place) (body_from allowance xs place)
unfolding body_from
smaller_allowance smaller allowance xs place h = of_smaller smaller allowance xs (tag_from xs place) h

pub smaller_allowance_for_tag : (expected smaller allowance : ℕ) (xs : List ℕ) (place : ℕ) → smaller ≤ allowance → SameOrSpent smaller (body_for_from expected smaller xs place) (body_for_from expected allowance xs place)
unfolding body_for_from
smaller_allowance_for_tag expected smaller allowance xs place h = for_of_smaller expected smaller allowance xs (expected_from (opening expected) xs place) h

-- and so it is of an optional body
abbrev pub SameOrSpentOptional : ℕ → Optional → Optional → Type 0
SameOrSpentOptional allowance o whole = (o ≡ whole) ⊎ (o ≡ body_or_refusal (counted (refused 14 (amount allowance)) allowance))

module _ (expected smaller allowance : ℕ) (xs : List ℕ) (less : smaller ≤ allowance) where
  by_test_smaller : (next : ℕ) (o : Optional) (same : Bool)
      → SameOrSpentOptional smaller (if same (body_or_refusal (scanned smaller expected xs next)) o) (if same (body_or_refusal (scanned allowance expected xs next)) o)
  by_test_smaller next o true = ⊎_elim (λ e. inl (ap body_or_refusal e)) (λ e. inr (ap body_or_refusal e)) (scanned_smaller smaller allowance expected xs next less)
  by_test_smaller next o false = inl refl

  optional_of_smaller : (a : Answer Tag) → SameOrSpentOptional smaller (optional_of expected smaller xs a) (optional_of expected allowance xs a)
  optional_of_smaller (accepted t next) = by_test_smaller next (absent (other_tag t)) (same_number t.number (opening expected))
  optional_of_smaller (refused r c) = inl refl

  otherwise_same : (test : Bool) (o : Optional) {a b : Optional} → SameOrSpentOptional smaller a b → SameOrSpentOptional smaller (if test o a) (if test o b)
  otherwise_same true o w = inl refl
  otherwise_same false o w = w

  pub smaller_allowance_optional : (place : ℕ) → SameOrSpentOptional smaller (optional_from expected smaller xs place) (optional_from expected allowance xs place)
  unfolding optional_from
  smaller_allowance_optional place =
      otherwise_same (ltb 65535 (length xs)) _ (otherwise_same (ltb (length xs) place) _ (otherwise_same (eqb place (length xs)) _ (optional_of_smaller (tag_from xs place))))

-- 14 is answered only where the allowance is spent
why_spent : (allowance k : ℕ) (xs : List ℕ) (end m : ℕ) {r : ℕ} {c : Carried} → Why allowance k xs end m r c → r ≡ 14 → m ≡ allowance
why_spent allowance k xs end m (spent h) e = h
why_spent allowance k xs end m (run_out h g) e = absurd (omega arith)

-- an answer that is not 14
abbrev pub NotSpent : Answer Body → Type 0
NotSpent (accepted b next) = Unit {0}
NotSpent (refused r c) = r ≡ 14 → ⊥

says_not_spent : (allowance n place next : ℕ) (xs : List ℕ) → length xs ≤ allowance → place < next → next ≤ length xs → (a : Answer Body) (tags : ℕ) → Says allowance n next 0 0 xs next a tags → NotSpent a
says_not_spent allowance n place next xs room l m (accepted b after) tags y = tt
says_not_spent allowance n place next xs room l m (refused r c) tags y = λ e.
    let s = why_spent allowance 0 xs y.end (length y.items) y.why e in
    omega (arith, items_inside xs y.passed)

module _ (allowance : ℕ) (xs : List ℕ) (place : ℕ) (room : length xs ≤ allowance) where
  opened_not_spent : (n next : ℕ) → tag_from xs place ≡ accepted (tag (opening n) 0) next → NotSpent (scanned allowance n xs next).answer
  opened_not_spent n next e =
      let m = moves_on xs place (tag (opening n) 0) next e in
      let r = scanned allowance n xs next in
      says_not_spent allowance n place next xs room m.0 m.2 r.answer r.tags (scanned_says allowance xs place n next e)

  unread_not_spent : (r : ℕ) (c : Carried) → tag_from xs place ≡ refused r c → r ≡ 14 → ⊥
  unread_not_spent r c e f = ⊎_elim (λ h. omega arith) (λ w. ⊎_elim (λ h. omega arith) (λ h. omega arith) w) (tag_refused xs place r c e)

  -- with an allowance no smaller than the buffer, 14 is never answered
  pub allowance_suffices : NotSpent (body_from allowance xs place).answer
  allowance_suffices = body_ways (λ (r : Counted). NotSpent r.answer) allowance xs place opened_not_spent (λ t next e f g. omega arith) unread_not_spent

  pub allowance_suffices_for_tag : (expected : ℕ) → NotSpent (body_for_from expected allowance xs place).answer
  allowance_suffices_for_tag expected = body_for_ways (λ (r : Counted). NotSpent r.answer) expected allowance xs place (opened_not_spent expected) (λ t next e f g. omega arith) unread_not_spent
