-- One turn of the scan, as the loop takes it.
-- Assumes nothing.
use Prim.Native.Nat.{ℕ, suc, ◌+◌, ◌-◌, ◌≤◌, ◌<◌}
use mathlib.Core.Path.{◌≡◌, refl, sym, ap, ◌∙◌, subst}
use mathlib.Core.List.{List}
use native.Mathlib.Omega.{arith}
use lib.ListN.{length}
use lib.Dec.{ltb, eqb}
use Rattle.types.specs.Tag.{Number, application, context, opening, closing, Tag}
use Rattle.types.specs.Refusal.{amount}
use Rattle.types.specs.Answer.{Answer, accepted, refused}
use Rattle.types.proofs.Choices.{either}
use Rattle.tags.specs.Reading.{tag_from}
use Rattle.tags.proofs.Exactly.{moves_on}
use Rattle.bodies.specs.Item.{content_length}
use Rattle.bodies.specs.Scan.{Counted, counted, ScanStep, stops, body_closed, onward, scan_step_by, scan_step_after, scan_step_of, scan_step_from, scan_turn, scan_from}

-- a step that goes on raises the openings unclosed by one at most, and goes ahead
abbrev pub Moves : ℕ → ℕ → ScanStep → Type 0
Moves unclosed place (stops r c) = Unit {0}
Moves unclosed place (body_closed next) = Unit {0}
Moves unclosed place (onward d p) = (d ≤ unclosed + 1) × (place < p)

by_moves : (n unclosed place : ℕ) (m : Number) (next p : ℕ) → place < p → Moves unclosed place (scan_step_by n unclosed m next p)
by_moves n unclosed place (opening m) next p l = either (Moves unclosed place) (eqb m n) (λ e. (omega arith, l)) (λ e. (omega arith, l))
by_moves n unclosed place (closing m) next p l =
    either (Moves unclosed place) (eqb m n) (λ e. either (Moves unclosed place) (eqb unclosed 0) (λ f. tt) (λ f. (omega arith, l))) (λ e. (omega arith, l))
by_moves n unclosed place (application m) next p l = (omega arith, l)
by_moves n unclosed place (context m) next p l = (omega arith, l)

of_moves : (n unclosed : ℕ) (xs : List ℕ) (place : ℕ) (a : Answer Tag) → tag_from xs place ≡ a → Moves unclosed place (scan_step_of n unclosed a)
unfolding scan_step_after
of_moves n unclosed xs place (accepted t next) e =
    let m : place < next = (moves_on xs place t next e).0 in
    by_moves n unclosed place t.number next (next + content_length t) (omega arith)
of_moves n unclosed xs place (refused k c) e = tt

pub onward_moves : (n unclosed : ℕ) (xs : List ℕ) (place : ℕ) {d p : ℕ} → scan_step_from n unclosed xs place ≡ onward d p → (d ≤ unclosed + 1) × (place < p)
unfolding scan_step_from
onward_moves n unclosed xs place e =
    subst (Moves unclosed place) e (either (Moves unclosed place) (ltb (length xs) place) (λ f. tt) (λ f. of_moves n unclosed xs place (tag_from xs place) refl))

-- what the whole scan answers, with k tags of the allowance read
module _ (n start allowance k unclosed : ℕ) (xs : List ℕ) (place : ℕ) {whole : Counted} (is : whole ≡ scan_from (allowance - k) n start k unclosed xs place) where
  -- is 14 where the allowance is spent, for any two numbers that are the allowance: one that 14 carries, one that is the count
  pub spent : k ≡ allowance → {carried tags : ℕ} → carried ≡ allowance → tags ≡ allowance → counted (refused 14 (amount carried)) tags ≡ whole
  unfolding scan_from
  spent e {carried} {tags} c t =
      (λ i. counted (refused 14 (amount ((c ∙ sym e) i))) ((t ∙ sym e) i))
      ∙ sym (is ∙ ap (λ (f : ℕ). scan_from f n start k unclosed xs place) (let z : allowance - k ≡ 0 = omega arith in z))

  -- and else what the next step leads to
  pub turned : k < allowance → {step : ScanStep} → scan_step_from n unclosed xs place ≡ step
      → scan_turn n start k place step (λ d p. scan_from (allowance - (k + 1)) n start (k + 1) d xs p) ≡ whole
  unfolding scan_from
  turned l {step} e =
      ap (λ (s : ScanStep). scan_turn n start k place s (λ d p. scan_from (allowance - (k + 1)) n start (k + 1) d xs p)) (sym e)
      ∙ sym (is ∙ ap (λ (f : ℕ). scan_from f n start k unclosed xs place) (let z : allowance - k ≡ suc (allowance - (k + 1)) = omega arith in z))
