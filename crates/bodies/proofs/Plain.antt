-- A plain item whose tag has one byte is passed by that byte alone.
-- Assumes nothing.
use Prim.Native.Nat.{ℕ, ◌+◌, ◌/◌, ◌%◌, ◌≤◌, ◌<◌}
use mathlib.Core.Path.{◌≡◌, refl, ap, ◌∙◌}
use mathlib.Core.Bool.{Bool, true, false}
use mathlib.Core.List.{List}
use native.Mathlib.Omega.{arith}
use borrow.Author.Tests.{lt-ltb, le-ltb, lt-leb, le-leb, ltb-false, eqb-true, eqb-false, eq-eqb, ne_eqb}
use lib.ListN.{length, get_or}
use lib.Dec.{ltb, eqb}
use Rattle.types.specs.Choice.{if}
use Rattle.types.specs.Tag.{tag, application, context}
use Rattle.types.specs.Refusal.{amount}
use Rattle.types.specs.Answer.{accepted}
use Rattle.types.proofs.Choices.{either}
use Rattle.numbers.specs.Reading.{byte_from}
use Rattle.tags.specs.Reading.{number_from, tag_value_from, tag_after, tag_from}
use Rattle.bodies.specs.Item.{content_of}
use Rattle.bodies.specs.Plain.{plain_length}
use Rattle.bodies.specs.Scan.{stops, onward, scan_step_of, scan_step_from}
use Rattle.bodies.proofs.Steps.{step_by}

-- where it is not 0, the low bits are a length, and no number follows
short : (b : ℕ) → 0 < plain_length b → (b % 8 ≤ 4) × (b ≤ 247)
short b =
    either (λ (k : ℕ). 0 < k → (b % 8 ≤ 4) × (b ≤ 247)) (ltb 4 (b % 8)) (λ e z. absurd (omega arith)) (λ e.
    either (λ (k : ℕ). 0 < k → (b % 8 ≤ 4) × (b ≤ 247)) (ltb 247 b) (λ f z. absurd (omega arith)) (λ f z. (ltb-false 4 (b % 8) e, ltb-false 247 b f)))

module _ (b : ℕ) (low : b % 8 ≤ 4) (few : b ≤ 247) where
  -- it is the tag and its content, in either class
  application_length : b / 8 % 2 ≡ 0 → content_of (application (b / 16)) (b % 8) + 1 ≡ plain_length b
  application_length a = by (eqb (b / 8) 2) refl
    where
      by : (t : Bool) → eqb (b / 8) 2 ≡ t → content_of (application (b / 16)) (b % 8) + 1 ≡ plain_length b
      by true e =
          let f : b / 8 ≡ 2 = eqb-true (b / 8) 2 e in
          simp (le-ltb 4 (b % 8) low, le-ltb 247 b few, e, eq-eqb (b / 16) 1 (omega arith))
      by false e =
          let f : b / 8 ≡ 2 → ⊥ = eqb-false (b / 8) 2 e in
          simp (le-ltb 4 (b % 8) low, le-ltb 247 b few, e, ne_eqb (b / 16) 1 (λ z. f (omega arith)))

  context_length : b / 8 % 2 ≡ 1 → content_of (context (b / 16)) (b % 8) + 1 ≡ plain_length b
  context_length a = simp (le-ltb 4 (b % 8) low, le-ltb 247 b few, ne_eqb (b / 8) 2 (λ z. omega arith))

  module _ (xs : List ℕ) (place : ℕ) (small : length xs ≤ 65535) (inside : place < length xs) (is : get_or xs place 0 ≡ b) where
    application_tag : b / 8 % 2 ≡ 0 → tag_from xs place ≡ accepted (tag (application (b / 16)) (b % 8)) (place + 1)
    unfolding tag_from byte_from tag_after number_from tag_value_from
    application_tag a =
        simp (le-ltb 65535 (length xs) small, le-ltb (length xs) place (omega arith), lt-leb (length xs) place inside, is, eq-eqb (b / 8 % 2) 0 a, lt-ltb (b % 8) 5 (omega arith))

    context_tag : b / 8 % 2 ≡ 1 → tag_from xs place ≡ accepted (tag (context (b / 16)) (b % 8)) (place + 1)
    unfolding tag_from byte_from tag_after number_from tag_value_from
    context_tag a =
        simp (le-ltb 65535 (length xs) small, le-ltb (length xs) place (omega arith), lt-leb (length xs) place inside, is, ne_eqb (b / 8 % 2) 0 (λ z. omega arith), lt-ltb (b / 16) 15 (omega arith), ne_eqb (b % 8) 6 (λ z. omega arith), ne_eqb (b % 8) 7 (λ z. omega arith), lt-ltb (b % 8) 5 (omega arith))

    plain_goes : (n unclosed : ℕ) → scan_step_from n unclosed xs place ≡ onward unclosed (place + plain_length b)
    plain_goes n unclosed = by (eqb (b / 8 % 2) 0) refl
      where
        by : (t : Bool) → eqb (b / 8 % 2) 0 ≡ t → scan_step_from n unclosed xs place ≡ onward unclosed (place + plain_length b)
        by true e =
            let a : b / 8 % 2 ≡ 0 = eqb-true (b / 8 % 2) 0 e in
            let l = application_length a in
            step_by n unclosed xs place (tag (application (b / 16)) (b % 8)) (place + 1) (application_tag a)
            ∙ ap (onward unclosed) (let z : place + 1 + content_of (application (b / 16)) (b % 8) ≡ place + plain_length b = omega (arith, l) in z)
        by false e =
            let f : b / 8 % 2 ≡ 0 → ⊥ = eqb-false (b / 8 % 2) 0 e in
            let a : b / 8 % 2 ≡ 1 = omega arith in
            let l = context_length a in
            step_by n unclosed xs place (tag (context (b / 16)) (b % 8)) (place + 1) (context_tag a)
            ∙ ap (onward unclosed) (let z : place + 1 + content_of (context (b / 16)) (b % 8) ≡ place + plain_length b = omega (arith, l) in z)

-- the scan goes on behind it with as many openings unclosed
pub plain_step : (n unclosed : ℕ) (xs : List ℕ) (place : ℕ) → length xs ≤ 65535 → place < length xs → 0 < plain_length (get_or xs place 0) → scan_step_from n unclosed xs place ≡ onward unclosed (place + plain_length (get_or xs place 0))
plain_step n unclosed xs place small inside h =
    let s = short (get_or xs place 0) h in
    plain_goes (get_or xs place 0) s.0 s.1 xs place small inside refl n unclosed

-- at the end no byte is left
pub end_step : (n unclosed : ℕ) (xs : List ℕ) (place : ℕ) → length xs ≤ 65535 → length xs ≤ place → scan_step_from n unclosed xs place ≡ stops 3 (amount (length xs))
unfolding scan_step_from tag_from byte_from
end_step n unclosed xs place small h = by (ltb (length xs) place) refl
  where
    by : (t : Bool) → ltb (length xs) place ≡ t → if t (stops 3 (amount (length xs))) (scan_step_of n unclosed (tag_from xs place)) ≡ stops 3 (amount (length xs))
    by true e = refl
    by false e = simp (le-ltb 65535 (length xs) small, e, le-leb (length xs) place h)
