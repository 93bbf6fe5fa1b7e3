-- What a step of the scan finds, in the words of the definition of a body.
-- Assumes nothing.
use Prim.Native.Nat.{ℕ, zero, suc, ◌+◌, ◌-◌, ◌≤◌}
use mathlib.Core.Path.{◌≡◌, refl, sym, ap, ◌∙◌, subst}
use mathlib.Core.Logic.{◌⊎◌, inl, inr, ⊎_elim}
use mathlib.Core.Bool.{Bool, true, false}
use mathlib.Core.List.{List}
use native.Mathlib.Omega.{arith}
use borrow.Author.Tests.{eq-eqb, ne_eqb, eqb-true, ltb-true, ltb-false, le-ltb}
use lib.ListN.{length}
use lib.Dec.{ltb, eqb}
use Rattle.types.specs.Choice.{if}
use Rattle.types.specs.Tag.{Number, application, context, opening, closing, Tag, tag}
use Rattle.types.specs.Refusal.{Carried}
use Rattle.types.specs.Answer.{Answer, accepted, refused}
use Rattle.types.proofs.Choices.{either}
use Rattle.tags.specs.Reading.{tag_from}
use Rattle.tags.proofs.Exactly.{tag_found_lem, moves_on, block_has_no_value}
use Rattle.tags.proofs.Range.{OrRunsOut, tag_or_run_out}
use Rattle.bodies.specs.Item.{content_length}
use Rattle.bodies.specs.Body.{opens, closes}
use Rattle.bodies.specs.Scan.{ScanStep, stops, body_closed, onward, scan_step_by, scan_step_after, scan_step_of, scan_step_from}
use Rattle.bodies.specs.Count.{NoTagRead, past, cut}
use Rattle.bodies.proofs.Balance.{deeper}
use Rattle.bodies.proofs.Items.{item_at}

opening_goes_on : (same : Bool) (unclosed place : ℕ) → if same (onward (unclosed + 1) place) (onward unclosed place) ≡ onward (unclosed + if same 1 0 - 0) place
opening_goes_on true unclosed place = ap (λ (d : ℕ). onward d place) (let z : unclosed + 1 ≡ unclosed + 1 - 0 = omega arith in z)
opening_goes_on false unclosed place = ap (λ (d : ℕ). onward d place) (let z : unclosed ≡ unclosed + 0 - 0 = omega arith in z)

closing_goes_on : (same : Bool) (unclosed next place : ℕ) → if same 1 0 ≤ unclosed + 0
    → if same (if (eqb unclosed 0) (body_closed next) (onward (unclosed - 1) place)) (onward unclosed place) ≡ onward (unclosed + 0 - if same 1 0) place
closing_goes_on true unclosed next place h =
    let g : unclosed ≡ 0 → ⊥ = λ e. omega arith in
    rw (ne_eqb unclosed 0 g) (ap (λ (d : ℕ). onward d place) (let z : unclosed - 1 ≡ unclosed + 0 - 1 = omega arith in z))
closing_goes_on false unclosed next place h = ap (λ (d : ℕ). onward d place) (let z : unclosed ≡ unclosed + 0 - 0 = omega arith in z)

-- a tag that does not end the body goes on, with the openings unclosed behind it
pub goes_on : (n unclosed : ℕ) (m : Number) (next place : ℕ) → closes n m ≤ unclosed + opens n m → scan_step_by n unclosed m next place ≡ onward (unclosed + opens n m - closes n m) place
goes_on n unclosed (opening m) next place h = opening_goes_on (eqb m n) unclosed place
goes_on n unclosed (closing m) next place h = closing_goes_on (eqb m n) unclosed next place h
goes_on n unclosed (application m) next place h = ap (λ (d : ℕ). onward d place) (let z : unclosed ≡ unclosed + 0 - 0 = omega arith in z)
goes_on n unclosed (context m) next place h = ap (λ (d : ℕ). onward d place) (let z : unclosed ≡ unclosed + 0 - 0 = omega arith in z)

-- a step at a place where a tag is read is the step by that tag
pub step_by : (n unclosed : ℕ) (xs : List ℕ) (place : ℕ) (t : Tag) (next : ℕ) → tag_from xs place ≡ accepted t next → scan_step_from n unclosed xs place ≡ scan_step_by n unclosed t.number next (next + content_length t)
unfolding scan_step_from scan_step_after
step_by n unclosed xs place t next e =
    let m = moves_on xs place t next e in
    let l : place ≤ length xs = omega arith in
    simp (le-ltb (length xs) place l, e)

-- the closing tag of the body
pub step_closed : (n unclosed : ℕ) (xs : List ℕ) (place next : ℕ) → unclosed ≡ 0 → tag_from xs place ≡ accepted (tag (closing n) 0) next → scan_step_from n unclosed xs place ≡ body_closed next
step_closed n unclosed xs place next z e = step_by n unclosed xs place (tag (closing n) 0) next e ∙ simp (eq-eqb n n refl, eq-eqb unclosed 0 z)

-- what each kind of step finds
pub data Saw (n unclosed : ℕ) (xs : List ℕ) (place : ℕ) : ScanStep → Type 0 where
  no_tag : {c : Carried} → NoTagRead xs place c → Saw n unclosed xs place (stops 3 c)
  ended : {next : ℕ} → unclosed ≡ 0 → tag_from xs place ≡ accepted (tag (closing n) 0) next → Saw n unclosed xs place (body_closed next)
  item_passed : {t : Tag} {next d p : ℕ} → tag_from xs place ≡ accepted t next → closes n t.number ≤ unclosed + opens n t.number
      → d ≡ deeper n unclosed (item_at xs place next t) → p ≡ next + content_length t → Saw n unclosed xs place (onward d p)

closing_or_end : (same : Bool) (unclosed : ℕ) → (if same 1 0 ≤ unclosed + 0) ⊎ ((same ≡ true) × (unclosed ≡ 0))
closing_or_end false unclosed = inl (omega arith)
closing_or_end true zero = inr (refl, refl)
closing_or_end true (suc unclosed) = inl (omega arith)

module _ (n unclosed : ℕ) (xs : List ℕ) (small : length xs ≤ 65535) (place : ℕ) where
  saw_item : (m : Number) (v next : ℕ) → tag_from xs place ≡ accepted (tag m v) next → closes n m ≤ unclosed + opens n m
      → Saw n unclosed xs place (scan_step_by n unclosed m next (next + content_length (tag m v)))
  saw_item m v next e h = subst (Saw n unclosed xs place) (sym (goes_on n unclosed m next _ h)) (item_passed e h refl refl)

  saw_end : (m v next : ℕ) → tag_from xs place ≡ accepted (tag (closing m) v) next → (eqb m n ≡ true) × (unclosed ≡ 0) → Saw n unclosed xs place (scan_step_by n unclosed (closing m) next (next + 0))
  saw_end m v next e h =
      let i : m ≡ n = eqb-true m n h.0 in
      let z : v ≡ 0 = block_has_no_value (tag_found_lem xs place (tag (closing m) v) next e).is_tag in
      let g : tag_from xs place ≡ accepted (tag (closing n) 0) next = cc in
      simp (h.0, eq-eqb unclosed 0 h.1) (ended h.1 g)

  saw_tag : (m : Number) (v next : ℕ) → tag_from xs place ≡ accepted (tag m v) next → Saw n unclosed xs place (scan_step_by n unclosed m next (next + content_length (tag m v)))
  saw_tag (opening m) v next e = saw_item (opening m) v next e (omega arith)
  saw_tag (application m) v next e = saw_item (application m) v next e (omega arith)
  saw_tag (context m) v next e = saw_item (context m) v next e (omega arith)
  saw_tag (closing m) v next e = ⊎_elim (λ h. saw_item (closing m) v next e h) (λ h. saw_end m v next e h) (closing_or_end (eqb m n) unclosed)

  saw_read : place ≤ length xs → (a : Answer Tag) → tag_from xs place ≡ a → Saw n unclosed xs place (scan_step_of n unclosed a)
  unfolding scan_step_after
  saw_read l (accepted t next) e = saw_tag t.number t.value next e
  saw_read l (refused r c) e =
      let h = subst (OrRunsOut xs (place + 7)) e (tag_or_run_out xs small place l) in
      subst (λ (k : ℕ). Saw n unclosed xs place (stops k c)) (sym h.number) (no_tag (cut (e ∙ ap (λ (k : ℕ). refused k c) h.number)))

  pub saw : Saw n unclosed xs place (scan_step_from n unclosed xs place)
  unfolding scan_step_from
  saw =
      either (Saw n unclosed xs place) (ltb (length xs) place)
      (λ f. no_tag (past (ltb-true (length xs) place f)))
      (λ f. saw_read (ltb-false (length xs) place f) (tag_from xs place) refl)
