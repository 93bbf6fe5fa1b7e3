-- Demand 3: a body is handed over exactly if one exists, there is never a second, and the view is its bytes.
-- Assumes nothing.
use Prim.Native.Nat.{ℕ, ◌+◌, ◌-◌, ◌≤◌, ◌<◌}
use mathlib.Core.Path.{◌≡◌, refl, sym, ap, ap₂, ◌∙◌, subst}
use mathlib.Core.Logic.{◌↔◌}
use mathlib.Core.List.{List}
use native.Mathlib.Omega.{arith}
use lib.ListN.{length, take, drop}
use Rattle.types.specs.Tag.{opening, tag}
use Rattle.types.specs.Refusal.{Carried}
use Rattle.types.specs.Answer.{Answer, accepted, refused}
use Rattle.numbers.specs.Reading.{part_at, slice_from, part_of}
use Rattle.numbers.proofs.Parts.{part_given}
use Rattle.tags.specs.Reading.{tag_from}
use Rattle.tags.proofs.Exactly.{tag_found_lem, moves_on}
use Rattle.bodies.specs.Item.{Item}
use Rattle.bodies.specs.Body.{BodyAt}
use Rattle.bodies.specs.Scan.{Body, body, Counted, handed, unread, scanned, body_of, body_from}
use Rattle.bodies.specs.Given.{given}
use Rattle.bodies.proofs.Items.{part, ItemsRead}
use Rattle.bodies.proofs.Scanned.{scan_hands, scan_says, Says, items_ahead}
use Rattle.bodies.proofs.Places.{Placed, body_placed, view_placed, placed_body, same_items}
use Rattle.bodies.proofs.Ways.{body_ways}

handed_same : {start start' size size' n n' next next' k k' : ℕ} → start ≡ start' → size ≡ size' → n ≡ n' → next ≡ next' → k ≡ k' → handed start size n next k ≡ handed start' size' n' next' k'
handed_same a b c d e = cc

-- two that are handed over alike have the same parts
pub handed_parts : {start start' size size' n n' next next' k k' : ℕ} → handed start size n next k ≡ handed start' size' n' next' k' → (start ≡ start') × (size ≡ size') × (n ≡ n') × (next ≡ next') × (k ≡ k')
handed_parts {start} {start'} {size} {size'} {n} {n'} {next} {next'} e =
    let a : accepted (body start size n) next ≡ accepted (body start' size' n') next' = ap (λ (r : Counted). r.answer) e in
    let b : body start size n ≡ body start' size' n' = cc in
    let c : next ≡ next' = cc in
    (ap (λ (x : Body). x.start) b, ap (λ (x : Body). x.size) b, ap (λ (x : Body). x.number) b, c, ap (λ (r : Counted). r.tags) e)

-- a refusal hands nothing over
pub nothing_handed : {r : ℕ} {c : Carried} {start size n next k : ℕ} → unread r c ≡ handed start size n next k → ⊥
nothing_handed {r} {c} {start} {size} {n} {next} e =
    let a : refused r c ≡ accepted (body start size n) next = ap (λ (x : Counted). x.answer) e in
    let z : ◌≡◌ {A = ℕ} 0 1 = cc in
    omega arith

-- a body that lies so is handed over
placed_given : (xs : List ℕ) (allowance : ℕ) {place n next end after : ℕ} {items : List Item} → Placed xs place n next end after items → length items < allowance
    → body_from allowance xs place ≡ handed next (end - next) n after (length items + 1)
unfolding body_from
placed_given xs allowance {place} {n} {next} {end} {after} {items} p h =
    ap (body_of allowance xs) p.opened ∙ scan_hands n next xs p.passed 0 after p.balanced p.closed allowance 0 h
    ∙ ap (handed next (end - next) n after) (let z : 0 + length items + 1 ≡ length items + 1 = omega arith in z)

-- what is handed over lies so
pub record Lies (allowance : ℕ) (xs : List ℕ) (place : ℕ) (b : Body) (after tags : ℕ) : Type 0 where
  pub end : ℕ
  pub items : List Item
  pub placed : Placed xs place b.number b.start end after items
  pub sized : b.size ≡ end - b.start
  pub count : tags ≡ length items + 1
  pub within : length items < allowance

abbrev pub LiesIf : ℕ → List ℕ → ℕ → Answer Body → ℕ → Type 0
LiesIf allowance xs place (accepted b after) tags = Lies allowance xs place b after tags
LiesIf allowance xs place (refused r c) tags = Unit {0}

scan_lies : (allowance : ℕ) (xs : List ℕ) (place n next : ℕ) → tag_from xs place ≡ accepted (tag (opening n) 0) next
    → (a : Answer Body) (tags : ℕ) → Says allowance n next 0 0 xs next a tags → LiesIf allowance xs place a tags
scan_lies allowance xs place n next e (accepted b after) tags y =
    let p : Placed xs place n next y.end after y.items = record { opened = e; passed = y.passed; balanced = y.balanced; closed = y.closes_it } in
    let l : Lies allowance xs place (body next (y.end - next) n) after tags =
    record { end = y.end; items = y.items; placed = p; sized = refl; count = omega (arith, y.count); within = y.within } in
    subst (λ (x : Body). Lies allowance xs place x after tags) (sym y.lies) l
scan_lies allowance xs place n next e (refused r c) tags y = tt

pub answer_lies : (allowance : ℕ) (xs : List ℕ) (place : ℕ) → let r = body_from allowance xs place in LiesIf allowance xs place r.answer r.tags
answer_lies allowance xs place =
    body_ways (λ (r : Counted). LiesIf allowance xs place r.answer r.tags) allowance xs place
    (λ n next e. let r = scanned allowance n xs next in scan_lies allowance xs place n next e r.answer r.tags (scan_says n next xs (tag_found_lem xs place (tag (opening n) 0) next e).small allowance 0 0 next))
    (λ t next e f. tt)
    (λ r c e. tt)

module _ (xs : List ℕ) (place : ℕ) where
  -- a body that exists is handed over, given an allowance no smaller than the buffer
  pub body_given : length xs ≤ 65535 → (allowance : ℕ) → length xs ≤ allowance → {n : ℕ} {view : List ℕ} {items : List Item} (b : BodyAt xs place n view items) → body_from allowance xs place ≡ given b
  body_given small allowance room {n} {view} {items} b =
      let p = body_placed xs small b in
      let next : ℕ = place + length b.opener in
      let u = moves_on xs place _ _ p.opened in
      let w = items_ahead xs p.passed in
      let v = moves_on xs (next + length view) _ _ p.closed in
      placed_given xs allowance p (omega arith)
      ∙ handed_same refl (let z : next + length view - next ≡ length view = omega arith in z) refl refl refl

  module _ (allowance start size n next count : ℕ) (e : body_from allowance xs place ≡ handed start size n next count) where
    lies : Lies allowance xs place (body start size n) next count
    lies = subst (λ (r : Counted). LiesIf allowance xs place r.answer r.tags) e (answer_lies allowance xs place)

    view_inside : start + size ≤ length xs
    view_inside = let q = placed_body xs lies.placed in omega (arith, lies.sized, q.inside, q.view_ends, q.closer_ends)

    buffer_small : length xs ≤ 65535
    buffer_small = (tag_found_lem xs place (tag (opening n) 0) start lies.placed.opened).small

    -- the call for the view's bytes, with any allowance of the body, is not refused
    pub view_handed : slice_from size xs start ≡ accepted (part_at start size) (start + size)
    view_handed = (part_given size xs start buffer_small view_inside).0

    -- and the view's length has 16 bits
    pub view_short : size ≤ 65535
    view_short = omega (arith, view_inside, buffer_small)

    -- what is handed over, with any allowance, is a body, and its view is the bytes that that call answers
    pub view_is : (items : List Item) × (b : BodyAt xs place n (part_of size xs start) items) × (handed start size n next count ≡ given b)
    view_is =
        let y : Lies allowance xs place (body start size n) next count = lies in
        let q = placed_body xs y.placed in
        let same : part_of size xs start ≡ part xs start y.end = (part_given size xs start buffer_small view_inside).1 ∙ ap (λ (j : ℕ). take j (drop start xs)) y.sized in
        let z : size ≡ length (part xs start y.end) = omega (arith, y.sized, q.view_ends) in
        let w : next ≡ place + length q.is.opener + length (part xs start y.end) + length q.is.closer = omega (arith, q.opener_ends, q.view_ends, q.closer_ends) in
        let c : handed start size n next count ≡ given q.is = handed_same q.opener_ends z refl w y.count in
        let f = subst (λ (v : List ℕ). (b : BodyAt xs place n v y.items) × (handed start size n next count ≡ given b)) (sym same) (q.is, c) in
        (y.items, f.0, f.1)

  -- there is never a second body: the number, the view and the items are the same
  pub one_body : length xs ≤ 65535 → {n n' : ℕ} {view view' : List ℕ} {items items' : List Item} → BodyAt xs place n view items → BodyAt xs place n' view' items' → (n ≡ n') × (view ≡ view') × (items ≡ items')
  one_body small {n} {n'} {view} {view'} {items} {items'} b b' =
      let g : given b ≡ given b' = sym (body_given small (length xs) (omega arith) b) ∙ body_given small (length xs) (omega arith) b' in
      let h = handed_parts g in
      let k : place + length b.opener ≡ place + length b'.opener = h.0 in
      let j : length view ≡ length view' = h.1 in
      let l : length items + 1 ≡ length items' + 1 = h.4 in
      let x : ItemsRead xs (place + length b.opener) (place + length b.opener + length view) items = (body_placed xs small b).passed in
      let x' : ItemsRead xs (place + length b'.opener) (place + length b'.opener + length view') items' = (body_placed xs small b').passed in
      let v : view ≡ view' = view_placed xs small b ∙ (ap₂ (λ (s p : ℕ). take s (drop p xs)) j k ∙ sym (view_placed xs small b')) in
      (h.2, v, same_items xs x (subst (λ (p : ℕ). ItemsRead xs p (place + length b'.opener + length view') items') (sym k) x') (omega arith))

-- a body is handed over exactly if one exists: with that number, its view there and so long, the place after its closing tag, and the items plus one as the count
pub exactly : (xs : List ℕ) (place allowance : ℕ) → length xs ≤ 65535 → length xs ≤ allowance → (start size n next count : ℕ)
    → (body_from allowance xs place ≡ handed start size n next count) ↔ ((view : List ℕ) × (items : List Item) × (b : BodyAt xs place n view items) × (handed start size n next count ≡ given b))
exactly xs place allowance small room start size n next count =
    ((λ e. let y = view_is xs place allowance start size n next count e in (part_of size xs start, y.0, y.1, y.2)), (λ y. body_given xs place small allowance room y.2 ∙ sym y.3))
