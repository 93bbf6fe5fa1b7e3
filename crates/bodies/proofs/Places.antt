-- A body by places, as the scan meets it, is the body of the definition.
-- Assumes nothing.
use Prim.Native.Nat.{ℕ, ◌+◌, ◌-◌, ◌≤◌}
use mathlib.Core.Path.{◌≡◌, refl, sym, ap, ap₂, ◌∙◌, subst}
use mathlib.Core.List.{List, [], ◌∷◌, ◌++◌, append_assoc}
use native.Mathlib.Omega.{arith}
use lib.ListN.{length, take, drop, take-append-drop, length-append, length-drop}
use lib.Seq.{length-take-le, take_at, drop_at, take-add, drop-drop}
use Rattle.types.specs.Tag.{opening, closing, Tag, tag}
use Rattle.types.specs.Answer.{accepted}
use Rattle.numbers.proofs.Found.{behind}
use Rattle.tags.specs.Reading.{tag_from}
use Rattle.tags.specs.Header.{IsTag}
use Rattle.tags.proofs.Exactly.{tag_found_lem, tag_read, moves_on}
use Rattle.bodies.specs.Item.{content_length, Item}
use Rattle.bodies.specs.Body.{Split, none, item, BodyAt}
use Rattle.bodies.proofs.Items.{part, item_at, ItemsRead}
use Rattle.bodies.proofs.Balance.{Balanced}
use Rattle.bodies.proofs.Scanned.{items_ahead}

-- an opening tag, balanced items and a closing tag, each where the one before ends
pub record Placed (xs : List ℕ) (place n next end after : ℕ) (items : List Item) : Type 0 where
  pub opened : tag_from xs place ≡ accepted (tag (opening n) 0) next
  pub passed : ItemsRead xs next end items
  pub balanced : Balanced n 0 items
  pub closed : tag_from xs end ≡ accepted (tag (closing n) 0) after

-- what stands behind bytes that stand at a place, where they end
behind_end : (xs : List ℕ) (place : ℕ) (bytes rest : List ℕ) → drop place xs ≡ bytes ++ rest → (next : ℕ) → next ≡ place + length bytes → drop next xs ≡ rest
behind_end xs place bytes rest e next h = ap (λ (j : ℕ). drop j xs) h ∙ behind xs place bytes rest e

-- bytes that stand at a place are the part from there to their end
part_is : (xs : List ℕ) (place : ℕ) (bytes rest : List ℕ) → drop place xs ≡ bytes ++ rest → (next : ℕ) → next ≡ place + length bytes → part xs place next ≡ bytes
part_is xs place bytes rest e next h = ap (take (next - place)) e ∙ take_at bytes rest (next - place) (let z : length bytes ≡ next - place = omega arith in z)

-- bytes to places
module _ (xs : List ℕ) (small : length xs ≤ 65535) where
  split_placed : {view : List ℕ} {items : List Item} → Split view items → (place : ℕ) (rest : List ℕ) → drop place xs ≡ view ++ rest → (end : ℕ) → end ≡ place + length view → ItemsRead xs place end items
  split_placed none place rest e end h = subst (λ (j : ℕ). ItemsRead xs place j []) (let z : place ≡ end = omega arith in z) ItemsRead.none
  split_placed (item i {rest = more} {items} t c s) place rest e end h =
      let next : ℕ = place + length i.header in
      let after : ℕ = next + content_length i.tag in
      let e₁ : drop place xs ≡ i.header ++ (i.content ++ (more ++ rest)) = e ∙ simp append_assoc in
      let e₂ : drop next xs ≡ i.content ++ (more ++ rest) = behind_end xs place i.header (i.content ++ (more ++ rest)) e₁ next refl in
      let e₃ : drop after xs ≡ more ++ rest = behind_end xs next i.content (more ++ rest) e₂ after (omega arith) in
      let sized : length (i.header ++ (i.content ++ more)) ≡ length i.header + (length i.content + length more) = simp length-append in
      let same : item_at xs place next i.tag ≡ i =
      ap₂ (λ (a b : List ℕ). record { tag = i.tag; header = a; content = b }) (part_is xs place i.header (i.content ++ (more ++ rest)) e₁ next refl) (part_is xs next i.content (more ++ rest) e₂ after (omega arith)) in
      subst (λ (j : Item). ItemsRead xs place end (j ∷ items)) same
      (ItemsRead.item (tag_read xs small place i.tag i.header (i.content ++ (more ++ rest)) e₁ t) (split_placed s after rest e₃ end (omega arith)))

  -- what stands at a body's place
  pub body_here : {place n : ℕ} {view : List ℕ} {items : List Item} (b : BodyAt xs place n view items) → drop place xs ≡ b.opener ++ (view ++ (b.closer ++ b.after))
  body_here {place} {view = view} b = ap (drop place) b.bytes ∙ drop_at b.before (b.opener ++ (view ++ (b.closer ++ b.after))) place b.at

  -- the view is the bytes from the opening tag's end on, as many as it has
  pub view_placed : {place n : ℕ} {view : List ℕ} {items : List Item} (b : BodyAt xs place n view items) → view ≡ take (length view) (drop (place + length b.opener) xs)
  view_placed {place} {n} {view} b =
      let next : ℕ = place + length b.opener in
      let e : drop next xs ≡ view ++ (b.closer ++ b.after) = behind_end xs place b.opener (view ++ (b.closer ++ b.after)) (body_here b) next refl in
      sym (ap (take (length view)) e ∙ take_at view (b.closer ++ b.after) (length view) refl)

  -- a body of the definition lies so
  pub body_placed : {place n : ℕ} {view : List ℕ} {items : List Item} (b : BodyAt xs place n view items)
      → let next = place + length b.opener in Placed xs place n next (next + length view) (next + length view + length b.closer) items
  body_placed {place} {n} {view} {items} b =
      let next : ℕ = place + length b.opener in
      let end : ℕ = next + length view in
      let e₁ : drop place xs ≡ b.opener ++ (view ++ (b.closer ++ b.after)) = body_here b in
      let e₂ : drop next xs ≡ view ++ (b.closer ++ b.after) = behind_end xs place b.opener (view ++ (b.closer ++ b.after)) e₁ next refl in
      let e₃ : drop end xs ≡ b.closer ++ b.after = behind_end xs next view (b.closer ++ b.after) e₂ end refl in
      record {
        opened = tag_read xs small place (tag (opening n) 0) b.opener (view ++ (b.closer ++ b.after)) e₁ b.opened;
        passed = split_placed b.splits next (b.closer ++ b.after) e₂ end refl;
        balanced = record { never_more = λ k. omega (arith, b.never_more k); equal = omega (arith, b.equal) };
        closed = tag_read xs small end (tag (closing n) 0) b.closer b.after e₃ b.closed;
      }

-- places to bytes
part_length : (xs : List ℕ) (from to : ℕ) → from ≤ to → to ≤ length xs → length (part xs from to) ≡ to - from
part_length xs from to h l = length-take-le (to - from) (drop from xs) (omega (arith, length-drop from xs))

part_cut : (xs : List ℕ) (from mid to : ℕ) → from ≤ mid → mid ≤ to → part xs from to ≡ part xs from mid ++ part xs mid to
part_cut xs from mid to h l =
    ap (λ (j : ℕ). take j (drop from xs)) (let z : to - from ≡ (mid - from) + (to - mid) = omega arith in z)
    ∙ (take-add (mid - from) (to - mid) (drop from xs)
    ∙ ap (λ (r : List ℕ). part xs from mid ++ take (to - mid) r) (drop-drop (mid - from) from xs ∙ ap (λ (j : ℕ). drop j xs) (let z : from + (mid - from) ≡ mid = omega arith in z)))

drop_cut : (xs : List ℕ) (from to : ℕ) → from ≤ to → drop from xs ≡ part xs from to ++ drop to xs
drop_cut xs from to h =
    sym (take-append-drop (to - from) (drop from xs))
    ∙ ap (λ (r : List ℕ). part xs from to ++ r) (drop-drop (to - from) from xs ∙ ap (λ (j : ℕ). drop j xs) (let z : from + (to - from) ≡ to = omega arith in z))

-- the bytes from a tag's place to the place after it are that tag
part_tag : (xs : List ℕ) (place : ℕ) (t : Tag) (next : ℕ) → tag_from xs place ≡ accepted t next → IsTag t (part xs place next)
part_tag xs place t next e =
    let f = tag_found_lem xs place t next e in
    subst (IsTag t) (sym (part_is xs place f.bytes (drop next xs) f.here next f.ends)) f.is_tag

placed_split : (xs : List ℕ) {place end : ℕ} {items : List Item} → ItemsRead xs place end items → end ≤ length xs → Split (part xs place end) items
placed_split xs (ItemsRead.none {place}) l = subst (λ (j : ℕ). Split (take j (drop place xs)) []) (let z : 0 ≡ place - place = omega arith in z) none
placed_split xs (ItemsRead.item {place} {next} {end} {t} {items} e x) l =
    let m = moves_on xs place t next e in
    let a = items_ahead xs x in
    let after : ℕ = next + content_length t in
    let sized : length (part xs next after) ≡ content_length t = part_length xs next after (omega arith) (omega arith) ∙ (let z : after - next ≡ content_length t = omega arith in z) in
    subst (λ (v : List ℕ). Split v (item_at xs place next t ∷ items))
    (sym (part_cut xs place next end (omega arith) (omega arith) ∙ ap (λ (v : List ℕ). part xs place next ++ v) (part_cut xs next after end (omega arith) (omega arith))))
    (item (item_at xs place next t) (part_tag xs place t next e) sized (placed_split xs x l))

-- a body that lies so is one of the definition, with its parts as long as the places say
pub record IsBody (xs : List ℕ) (place n next end after : ℕ) (items : List Item) : Type 0 where
  pub is : BodyAt xs place n (part xs next end) items
  pub opener_ends : next ≡ place + length is.opener
  pub view_ends : end ≡ next + length (part xs next end)
  pub closer_ends : after ≡ end + length is.closer
  pub inside : after ≤ length xs

pub placed_body : (xs : List ℕ) {place n next end after : ℕ} {items : List Item} → Placed xs place n next end after items → IsBody xs place n next end after items
placed_body xs {place} {n} {next} {end} {after} {items} p =
    let u = moves_on xs place (tag (opening n) 0) next p.opened in
    let v = moves_on xs end (tag (closing n) 0) after p.closed in
    let w = items_ahead xs p.passed in
    let a : length (part xs place next) ≡ next - place = part_length xs place next (omega arith) (omega arith) in
    let b : length (part xs next end) ≡ end - next = part_length xs next end (omega arith) (omega arith) in
    let c : length (part xs end after) ≡ after - end = part_length xs end after (omega arith) (omega arith) in
    record {
      is = record {
        before = take place xs;
        opener = part xs place next;
        closer = part xs end after;
        after = drop after xs;
        bytes =
            sym (take-append-drop place xs)
            ∙ ap (λ (r : List ℕ). take place xs ++ r) (drop_cut xs place next (omega arith)
            ∙ ap (λ (r : List ℕ). part xs place next ++ r) (drop_cut xs next end (omega arith)
            ∙ ap (λ (r : List ℕ). part xs next end ++ r) (drop_cut xs end after (omega arith))));
        at = length-take-le place xs (omega arith);
        opened = part_tag xs place (tag (opening n) 0) next p.opened;
        splits = placed_split xs p.passed (omega arith);
        never_more = λ k. omega (arith, p.balanced.never_more k);
        equal = omega (arith, p.balanced.equal);
        closed = part_tag xs end (tag (closing n) 0) after p.closed;
      };
      opener_ends = omega arith;
      view_ends = omega arith;
      closer_ends = omega arith;
      inside = v.2;
    }

-- one place, and so many items from there on: always the same
pub same_items : (xs : List ℕ) {place end end' : ℕ} {items items' : List Item} → ItemsRead xs place end items → ItemsRead xs place end' items' → length items ≡ length items' → items ≡ items'
same_items xs ItemsRead.none ItemsRead.none h = refl
same_items xs ItemsRead.none (ItemsRead.item e x) h = absurd (omega arith)
same_items xs (ItemsRead.item e x) ItemsRead.none h = absurd (omega arith)
same_items xs (ItemsRead.item {place} {next} {t = t} {items = items} e x) (ItemsRead.item {next = next'} {end = end'} {t = t'} {items = items'} e' x') h =
    let i : t ≡ t' = cc in
    let j : next ≡ next' = cc in
    let k : next' + content_length t' ≡ next + content_length t = cc in
    let r : items ≡ items' = same_items xs x (subst (λ (p : ℕ). ItemsRead xs p end' items') k x') (omega arith) in
    ap₂ (λ (a : Item) (b : List Item). a ∷ b) (ap₂ (λ (a : ℕ) (b : Tag). item_at xs place a b) j i) r
