-- The body of a number that is expected: the other function's answer, where the opening has that number.
-- Assumes nothing.
use Prim.Native.Nat.{ℕ}
use mathlib.Core.Path.{◌≡◌, refl, ap, ◌∙◌, subst}
use mathlib.Core.Logic.{◌↔◌}
use mathlib.Core.List.{List}
use borrow.Author.Tests.{eq-eqb}
use Rattle.types.specs.Tag.{opening, tag}
use Rattle.types.specs.Answer.{accepted}
use Rattle.tags.specs.Reading.{tag_from, expected_from}
use Rattle.bodies.specs.Scan.{Body, body, Counted, handed, scanned, body_of, body_from, body_for_from}
use Rattle.bodies.proofs.Scanned.{Ended, Says}
use Rattle.bodies.proofs.Exactly.{Lies, LiesIf, answer_lies, nothing_handed}
use Rattle.bodies.proofs.Counts.{scanned_says}
use Rattle.bodies.proofs.Ways.{body_for_ways}

-- where an opening of the number expected stands, the two answer alike
pub as_the_other : (expected allowance : ℕ) (xs : List ℕ) (place next : ℕ) → tag_from xs place ≡ accepted (tag (opening expected) 0) next → body_for_from expected allowance xs place ≡ body_from allowance xs place
unfolding body_from body_for_from expected_from
as_the_other expected allowance xs place next e = simp (e, eq-eqb expected expected refl)

-- a body is handed over exactly if the other function hands it over, and its number is the one expected
module _ (expected allowance : ℕ) (xs : List ℕ) (place start size n next count : ℕ) where
  abbrev There : Counted → Type 0
  There r = r ≡ handed start size n next count → (n ≡ expected) × (body_from allowance xs place ≡ handed start size n next count)

  there_opened : (after : ℕ) → tag_from xs place ≡ accepted (tag (opening expected) 0) after → There (scanned allowance expected xs after)
  unfolding body_from
  there_opened after e g =
      let y : Ended allowance expected after 0 0 xs after (body start size n) next count =
      subst (λ (r : Counted). Says allowance expected after 0 0 xs after r.answer r.tags) g (scanned_says allowance xs place expected after e) in
      (ap (λ (b : Body). b.number) y.lies, ap (body_of allowance xs) e ∙ g)

  pub for_tag_lem : (body_for_from expected allowance xs place ≡ handed start size n next count) ↔ ((n ≡ expected) × (body_from allowance xs place ≡ handed start size n next count))
  for_tag_lem = (
    body_for_ways There expected allowance xs place there_opened (λ t after e f g. absurd (nothing_handed g)) (λ r c e g. absurd (nothing_handed g)),
    (λ y.
        let l : Lies allowance xs place (body start size n) next count = subst (λ (r : Counted). LiesIf allowance xs place r.answer r.tags) y.1 (answer_lies allowance xs place) in
        as_the_other expected allowance xs place start (subst (λ (m : ℕ). tag_from xs place ≡ accepted (tag (opening m) 0) start) y.0 l.placed.opened) ∙ y.1),
  )
