-- The scan in the words of the definition of a body: what its answers say, and what it answers where a body stands.
-- Assumes nothing.
use Prim.Native.Nat.{ℕ, zero, suc, ◌+◌, ◌-◌, ◌≤◌, ◌<◌}
use mathlib.Core.Path.{◌≡◌, refl, ap, ◌∙◌, subst}
use mathlib.Core.List.{List, [], ◌∷◌}
use native.Mathlib.Omega.{arith}
use lib.ListN.{length}
use Rattle.types.specs.Tag.{closing, Tag, tag}
use Rattle.types.specs.Refusal.{Carried, amount}
use Rattle.types.specs.Answer.{Answer, accepted, refused}
use Rattle.tags.specs.Reading.{tag_from}
use Rattle.tags.proofs.Exactly.{moves_on}
use Rattle.bodies.specs.Item.{content_length, Item}
use Rattle.bodies.specs.Body.{opens, closes}
use Rattle.bodies.specs.Scan.{Body, body, handed, ScanStep, scan_step_from, scan_turn, scan_from}
use Rattle.bodies.specs.Count.{NoTagRead}
use Rattle.bodies.proofs.Items.{item_at, ItemsRead, none, item}
use Rattle.bodies.proofs.Balance.{Balanced, deeper, balanced_first, balanced_rest, balanced_more, balanced_none}
use Rattle.bodies.proofs.Steps.{goes_on, step_by, step_closed, Saw, no_tag, ended, item_passed, saw}

-- items that are balanced, and behind them the closing tag: the scan hands the body over, given allowance for the items and the closing tag
pub scan_hands : (n start : ℕ) (xs : List ℕ) {place end : ℕ} {items : List Item} → ItemsRead xs place end items → (unclosed next : ℕ) → Balanced n unclosed items → tag_from xs end ≡ accepted (tag (closing n) 0) next
    → (allowance k : ℕ) → length items < allowance → scan_from allowance n start k unclosed xs place ≡ handed start (end - start) n next (k + length items + 1)
unfolding scan_from
scan_hands n start xs x unclosed next b c zero k h = absurd (omega arith)
scan_hands n start xs (none {place}) unclosed next b c (suc f) k h =
    let z : unclosed ≡ 0 = omega (arith, b.equal) in
    ap (λ (s : ScanStep). scan_turn n start k place s (λ d p. scan_from f n start (k + 1) d xs p)) (step_closed n unclosed xs place next z c)
    ∙ ap (handed start (place - start) n next) (let w : k + 1 ≡ k + 0 + 1 = omega arith in w)
scan_hands n start xs {place = place} (item {next = after} {end} {t} {items} e x) unclosed next b c (suc f) k h =
    let i : Item = item_at xs place after t in
    ap (λ (s : ScanStep). scan_turn n start k place s (λ d p. scan_from f n start (k + 1) d xs p))
    (step_by n unclosed xs place t after e ∙ goes_on n unclosed t.number after (after + content_length t) (balanced_first n unclosed i items b))
    ∙ scan_hands n start xs {place = after + content_length t} x (deeper n unclosed i) next (balanced_rest n unclosed i items b) c f (k + 1) (omega arith)
    ∙ ap (handed start (end - start) n next) (let w : k + 1 + length items + 1 ≡ k + suc (length items) + 1 = omega arith in w)

-- a body is answered, with so many tags: balanced items and the closing tag
pub record Ended (allowance n start k unclosed : ℕ) (xs : List ℕ) (place : ℕ) (b : Body) (next tags : ℕ) : Type 0 where
  pub end : ℕ
  pub items : List Item
  pub passed : ItemsRead xs place end items
  pub balanced : Balanced n unclosed items
  pub closes_it : tag_from xs end ≡ accepted (tag (closing n) 0) next
  pub within : length items < allowance
  pub lies : b ≡ body start (end - start) n
  pub count : tags ≡ k + length items + 1

-- why a scan is refused behind so many items: the allowance is spent, or no whole tag follows
pub data Why (allowance k : ℕ) (xs : List ℕ) (end items : ℕ) : ℕ → Carried → Type 0 where
  spent : items ≡ allowance → Why allowance k xs end items 14 (amount (k + items))
  run_out : {c : Carried} → items < allowance → NoTagRead xs end c → Why allowance k xs end items 3 c

pub record Stopped (allowance k : ℕ) (xs : List ℕ) (place r : ℕ) (c : Carried) (tags : ℕ) : Type 0 where
  pub end : ℕ
  pub items : List Item
  pub passed : ItemsRead xs place end items
  pub why : Why allowance k xs end (length items) r c
  pub count : tags ≡ k + length items

-- what each answer of a scan says
abbrev pub Says : ℕ → ℕ → ℕ → ℕ → ℕ → List ℕ → ℕ → Answer Body → ℕ → Type 0
Says allowance n start k unclosed xs place (accepted b next) tags = Ended allowance n start k unclosed xs place b next tags
Says allowance n start k unclosed xs place (refused r c) tags = Stopped allowance k xs place r c tags

module _ (n start : ℕ) (xs : List ℕ) (small : length xs ≤ 65535) where
  why_more : (f k : ℕ) (end m : ℕ) {r : ℕ} {c : Carried} → Why f (k + 1) xs end m r c → Why (suc f) k xs end (suc m) r c
  why_more f k end m (spent h) = subst (λ (j : ℕ). Why (suc f) k xs end (suc m) 14 (amount j)) (let z : k + suc m ≡ k + 1 + m = omega arith in z) (spent (ap suc h))
  why_more f k end m (run_out h g) = run_out (omega arith) g

  -- an item before it
  says_more : (f k unclosed place : ℕ) {t : Tag} {next d p : ℕ} → tag_from xs place ≡ accepted t next → closes n t.number ≤ unclosed + opens n t.number
      → d ≡ deeper n unclosed (item_at xs place next t) → p ≡ next + content_length t
      → (a : Answer Body) (tags : ℕ) → Says f n start (k + 1) d xs p a tags → Says (suc f) n start k unclosed xs place a tags
  says_more f k unclosed place {t} {next} e h u w (accepted b after) tags y = record {
    end = y.end;
    items = item_at xs place next t ∷ y.items;
    passed = item e (subst (λ (j : ℕ). ItemsRead xs j y.end y.items) w y.passed);
    balanced = balanced_more n unclosed (item_at xs place next t) y.items h (subst (λ (j : ℕ). Balanced n j y.items) u y.balanced);
    closes_it = y.closes_it;
    within = omega (arith, y.within);
    lies = y.lies;
    count = omega (arith, y.count);
  }
  says_more f k unclosed place {t} {next} e h u w (refused r c) tags y = record {
    end = y.end;
    items = item_at xs place next t ∷ y.items;
    passed = item e (subst (λ (j : ℕ). ItemsRead xs j y.end y.items) w y.passed);
    why = why_more f k y.end (length y.items) y.why;
    count = omega (arith, y.count);
  }

  says_turn : (f k unclosed place : ℕ) (s : ScanStep) → Saw n unclosed xs place s
      → ((d p : ℕ) → let r = scan_from f n start (k + 1) d xs p in Says f n start (k + 1) d xs p r.answer r.tags)
      → (let r = scan_turn n start k place s (λ d p. scan_from f n start (k + 1) d xs p) in Says (suc f) n start k unclosed xs place r.answer r.tags)
  says_turn f k unclosed place _ (no_tag g) rest = record { end = place; items = []; passed = none; why = run_out (omega arith) g; count = omega arith }
  says_turn f k unclosed place _ (ended z g) rest = record {
    end = place;
    items = [];
    passed = none;
    balanced = balanced_none n unclosed z;
    closes_it = g;
    within = omega arith;
    lies = refl;
    count = omega arith;
  }
  says_turn f k unclosed place _ (item_passed {t} {next} {d} {p} e h u w) rest = let r = scan_from f n start (k + 1) d xs p in says_more f k unclosed place e h u w r.answer r.tags (rest d p)

  -- what the scan answers says this
  pub scan_says : (allowance k unclosed place : ℕ) → let r = scan_from allowance n start k unclosed xs place in Says allowance n start k unclosed xs place r.answer r.tags
  unfolding scan_from
  scan_says zero k unclosed place = record {
    end = place;
    items = [];
    passed = none;
    why = subst (λ (j : ℕ). Why 0 k xs place 0 14 (amount j)) (let z : k + 0 ≡ k = omega arith in z) (spent refl);
    count = omega arith;
  }
  scan_says (suc f) k unclosed place = says_turn f k unclosed place (scan_step_from n unclosed xs place) (saw n unclosed xs small place) (λ d p. scan_says f (k + 1) d p)

-- items lie one behind the other
pub items_ahead : (xs : List ℕ) {place end : ℕ} {items : List Item} → ItemsRead xs place end items → place + length items ≤ end
items_ahead xs none = omega arith
items_ahead xs (item {place} {next} {t = t} e x) = omega (arith, moves_on xs place t next e, items_ahead xs x)

-- and their tags inside the buffer
pub items_inside : (xs : List ℕ) {place end : ℕ} {items : List Item} → ItemsRead xs place end items → length items ≤ length xs - place
items_inside xs none = omega arith
items_inside xs (item {place} {next} {t = t} e x) = omega (arith, moves_on xs place t next e, items_inside xs x)
