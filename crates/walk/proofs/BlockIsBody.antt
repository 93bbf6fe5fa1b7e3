-- In a string that passes, every block's inside is the body that `get_tagged_body` hands over at its opening tag.
-- Assumes nothing.
use mathlib.Core.Path.{◌≡◌, refl, ◌∙◌, ap, ap₂, sym, subst}
use Prim.Native.Nat.{ℕ, suc, ◌+◌, ◌-◌, ◌<◌, ◌≤◌}
use native.Mathlib.Omega.{arith}
use mathlib.Core.List.{List, [], ◌∷◌, ◌++◌, map, map-append, append_assoc, append-nil}
use lib.Dec.{eqb}
use lib.ListN.{length, take, drop, length-append, length-drop, take-append-drop}
use lib.Seq.{length-take-le}
use Rattle.types.specs.Choice.{if}
use Rattle.types.specs.Tag.{Number, application, context, opening, closing, Tag, tag}
use Rattle.types.specs.Answer.{passed}
use Rattle.tags.specs.Header.{IsTag}
use Rattle.tags.proofs.Exactly.{tag_length}
use Rattle.bodies.specs.Item.{Item}
use Rattle.bodies.specs.Body.{Split, opens, closes, BodyAt}
use Rattle.bodies.specs.Scan.{body_of, body_from, handed}
use Rattle.bodies.specs.Given.{given}
use Rattle.bodies.proofs.Balance.{Balanced, balanced_more, balanced_none}
use Rattle.bodies.proofs.Places.{body_placed}
use Rattle.bodies.proofs.Scanned.{scan_hands}
use Rattle.walk.specs.Walk.{Seen, seen, walked, walk_from}
use Rattle.walk.specs.Grammar.{Plain, Items}
use Rattle.walk.specs.Grammar.Items.{none, plain, block}
use Rattle.walk.specs.Block.{BlockIf, Blocks}
use Rattle.numbers.proofs.Found.{behind}
use Rattle.walk.proofs.Exactly.{exactly}

-- the items of a list of the grammar, one behind the other, a block's tags among them
abbrev item : Tag → List ℕ → List ℕ → Item
item t header content = record { tag = t; header = header; content = content }

pub items_of : {place depth : ℕ} {bytes : List ℕ} {tags : List Seen} → Items place depth bytes tags → List Item
items_of none = []
items_of (plain {t} header content h is sized x) = item t header content ∷ items_of x
items_of (block {n} opener inside closer l opened x closed y) = item (tag (opening n) 0) opener [] ∷ (items_of x ++ (item (tag (closing n) 0) closer [] ∷ items_of y))

split_both : {a b : List ℕ} {is js : List Item} → Split a is → Split b js → Split (a ++ b) (is ++ js)
split_both Split.none y = y
split_both {b = b} {js = js} (Split.item i {rest} {items} t l x) y =
    subst (λ (z : List ℕ). Split z (i ∷ (items ++ js))) (let e : i.header ++ (i.content ++ (rest ++ b)) ≡ (i.header ++ (i.content ++ rest)) ++ b = simp append_assoc in e) (Split.item i t l (split_both x y))

split_of : {place depth : ℕ} {bytes : List ℕ} {tags : List Seen} (x : Items place depth bytes tags) → Split bytes (items_of x)
unfolding items_of
split_of none = Split.none
split_of (plain {t} header content h is sized x) = Split.item (item t header content) is sized (split_of x)
split_of (block {n} opener inside closer l opened x closed y) =
    Split.item (item (tag (opening n) 0) opener []) opened refl (split_both (split_of x) (Split.item (item (tag (closing n) 0) closer []) closed refl (split_of y)))

abbrev item_tags : List Item → List Tag
item_tags is = map (λ (i : Item). i.tag) is

abbrev seen_tags : List Seen → List Tag
seen_tags ts = map (λ (t : Seen). t.tag) ts

tags_of : {place depth : ℕ} {bytes : List ℕ} {tags : List Seen} (x : Items place depth bytes tags) → item_tags (items_of x) ≡ seen_tags tags
unfolding items_of
tags_of none = refl
tags_of (plain {t} header content h is sized x) = ap (λ (ts : List Tag). t ∷ ts) (tags_of x)
tags_of (block {place} {depth} {n} opener inside closer {inner = inner} {tags} l opened x closed y) =
    ap (λ (ts : List Tag). tag (opening n) 0 ∷ ts)
    (map-append (λ (i : Item). i.tag) (items_of x) (item (tag (closing n) 0) closer [] ∷ items_of y)
    ∙ ap₂ (λ (ts us : List Tag). ts ++ (tag (closing n) 0 ∷ us)) (tags_of x) (tags_of y)
    ∙ sym (map-append (λ (t : Seen). t.tag) inner (seen (place + length opener + length inside) depth (tag (closing n) 0) ∷ tags)))

-- a plain item neither opens nor closes a block of any number
plain_opens : (n : ℕ) (k : Number) → Plain k → opens n k ≡ 0
plain_opens n (application m) h = refl
plain_opens n (context m) h = refl
plain_opens n (opening m) h = absurd h
plain_opens n (closing m) h = absurd h

plain_closes : (n : ℕ) (k : Number) → Plain k → closes n k ≡ 0
plain_closes n (application m) h = refl
plain_closes n (context m) h = refl
plain_closes n (opening m) h = absurd h
plain_closes n (closing m) h = absurd h

-- in front of items that are balanced at a depth, those of the grammar leave them so: each block closes what it opens
balanced_before : (n depth : ℕ) {place d : ℕ} {bytes : List ℕ} {tags : List Seen} (x : Items place d bytes tags) (js : List Item) → Balanced n depth js → Balanced n depth (items_of x ++ js)
unfolding items_of
balanced_before n depth none js b = b
balanced_before n depth (plain {t} header content h is sized x) js b =
    let o : opens n t.number ≡ 0 = plain_opens n t.number h in
    let c : closes n t.number ≡ 0 = plain_closes n t.number h in
    balanced_more n depth (item t header content) (items_of x ++ js) (omega arith)
    (subst (λ (j : ℕ). Balanced n j (items_of x ++ js)) (let z : depth ≡ depth + opens n t.number - closes n t.number = omega arith in z) (balanced_before n depth x js b))
balanced_before n depth (block {n = m} opener inside closer l opened x closed y) js b =
    let v : ℕ = if (eqb m n) 1 0 in
    let open-item : Item = item (tag (opening m) 0) opener [] in
    let close-item : Item = item (tag (closing m) 0) closer [] in
    let behind-it : Balanced n (depth + v) (close-item ∷ (items_of y ++ js)) =
    balanced_more n (depth + v) close-item (items_of y ++ js) (omega arith)
    (subst (λ (j : ℕ). Balanced n j (items_of y ++ js)) (let z : depth ≡ depth + v + 0 - v = omega arith in z) (balanced_before n depth y js b)) in
    let all : Balanced n (depth + v) (items_of x ++ (close-item ∷ (items_of y ++ js))) = balanced_before n (depth + v) x (close-item ∷ (items_of y ++ js)) behind-it in
    balanced_more n depth open-item ((items_of x ++ (close-item ∷ items_of y)) ++ js) (omega arith)
    (subst (λ (is : List Item). Balanced n (depth + v - 0) is) (sym (append_assoc (items_of x) (close-item ∷ items_of y) js))
    (subst (λ (j : ℕ). Balanced n j (items_of x ++ (close-item ∷ (items_of y ++ js)))) (let z : depth + v ≡ depth + v - 0 = omega arith in z) all))

balanced_of : (n : ℕ) {place d : ℕ} {bytes : List ℕ} {tags : List Seen} (x : Items place d bytes tags) → Balanced n 0 (items_of x)
balanced_of n x = subst (Balanced n 0) (append-nil (items_of x)) (balanced_before n 0 x [] (balanced_none n 0 refl))

-- where the parts of a plain item stand, and of a block
pub record ItemPlaces (xs : List ℕ) (place : ℕ) (header content rest : List ℕ) : Type 0 where
  pub here : drop place xs ≡ header ++ (content ++ rest)
  pub after : drop (place + length header + length content) xs ≡ rest

pub item_places : (xs : List ℕ) (place : ℕ) (header content rest r : List ℕ) → drop place xs ≡ (header ++ (content ++ rest)) ++ r → ItemPlaces xs place header content (rest ++ r)
item_places xs place header content rest r e =
    let h : drop place xs ≡ header ++ (content ++ (rest ++ r)) = e ∙ simp append_assoc in
    record { here = h; after = behind xs (place + length header) content (rest ++ r) (behind xs place header (content ++ (rest ++ r)) h) }

pub record BlockPlaces (xs : List ℕ) (place : ℕ) (opener inside closer rest : List ℕ) : Type 0 where
  pub here : drop place xs ≡ opener ++ (inside ++ (closer ++ rest))
  pub within : drop (place + length opener) xs ≡ inside ++ (closer ++ rest)
  pub closing_at : drop (place + length opener + length inside) xs ≡ closer ++ rest
  pub after : drop (place + length opener + length inside + length closer) xs ≡ rest

pub block_places : (xs : List ℕ) (place : ℕ) (opener inside closer rest r : List ℕ) → drop place xs ≡ (opener ++ (inside ++ (closer ++ rest))) ++ r → BlockPlaces xs place opener inside closer (rest ++ r)
block_places xs place opener inside closer rest r e =
    let h : drop place xs ≡ opener ++ (inside ++ (closer ++ (rest ++ r))) = e ∙ simp append_assoc in
    let w : drop (place + length opener) xs ≡ inside ++ (closer ++ (rest ++ r)) = behind xs place opener (inside ++ (closer ++ (rest ++ r))) h in
    let c : drop (place + length opener + length inside) xs ≡ closer ++ (rest ++ r) = behind xs (place + length opener) inside (closer ++ (rest ++ r)) w in
    record { here = h; within = w; closing_at = c; after = behind xs (place + length opener + length inside) closer (rest ++ r) c }

-- a block that stands at a place of a buffer
module _ (xs : List ℕ) (small : length xs ≤ 65535) (place depth n : ℕ) (opener inside closer rest : List ℕ) (inner : List Seen)
    (here : drop place xs ≡ opener ++ (inside ++ (closer ++ rest))) (opened : IsTag (tag (opening n) 0) opener) (list : Items (place + length opener) (suc depth) inside inner)
    (closed : IsTag (tag (closing n) 0) closer) where
  -- its inside is a body
  pub the_body : BodyAt xs place n inside (items_of list)
  the_body =
      let s : length (drop place xs) ≡ length opener + length (inside ++ (closer ++ rest)) = ap length here ∙ length-append opener (inside ++ (closer ++ rest)) in
      let b = balanced_of n list in
      record {
        before = take place xs;
        opener = opener;
        closer = closer;
        after = rest;
        bytes = sym (take-append-drop place xs) ∙ ap (λ (y : List ℕ). take place xs ++ y) here;
        at = length-take-le place xs (omega (arith, length-drop place xs, tag_length opened));
        opened = opened;
        splits = split_of list;
        never_more = λ k. omega (arith, b.never_more k);
        equal = omega (arith, b.equal);
        closed = closed;
      }

  handed_over : (allowance : ℕ) → length (items_of list) < allowance → body_from allowance xs place ≡ given the_body
  unfolding body_from the_body
  handed_over allowance h =
      let p = body_placed xs small the_body in
      let next : ℕ = place + length opener in
      ap (body_of allowance xs) p.opened
      ∙ scan_hands n next xs p.passed 0 (next + length inside + length closer) p.balanced p.closed allowance 0 h
      ∙ ap₂ (λ (a b : ℕ). handed next a n (next + length inside + length closer) b) (let z : next + length inside - next ≡ length inside = omega arith in z)
      (let z : 0 + length (items_of list) + 1 ≡ length (items_of list) + 1 = omega arith in z)

module _ (xs : List ℕ) (small : length xs ≤ 65535) where
  plain_block : (k : Number) (place depth : ℕ) (later : List Seen) → Plain k → BlockIf xs k place depth later
  plain_block (application n) place depth later h = tt
  plain_block (context n) place depth later h = tt
  plain_block (opening n) place depth later h = absurd h
  plain_block (closing n) place depth later h = absurd h

  blocks_before : {place depth : ℕ} {bytes : List ℕ} {tags : List Seen} → Items place depth bytes tags → (rest : List ℕ) → drop place xs ≡ bytes ++ rest → (later : List Seen) → Blocks xs later → Blocks xs (tags ++ later)
  unfolding the_body
  blocks_before none r e later b = b
  blocks_before (plain {place} {depth} {t} header content {rest} {tags} h is sized x) r e later b =
      (plain_block t.number place depth (tags ++ later) h, blocks_before x r (item_places xs place header content rest r e).after later b)
  blocks_before (block {place} {depth} {n} opener inside closer {rest} {inner} {tags} l opened x closed y) r e later b =
      let p = block_places xs place opener inside closer rest r e in
      let c : Seen = seen (place + length opener + length inside) depth (tag (closing n) 0) in
      let follows : (inner ++ (c ∷ tags)) ++ later ≡ inner ++ (c ∷ (tags ++ later)) = append_assoc inner (c ∷ tags) later in (
        record {
          inside = inside;
          items = items_of x;
          body = the_body xs small place depth n opener inside closer (rest ++ r) inner p.here opened x closed;
          inner = inner;
          after = tags ++ later;
          list = x;
          follows = follows;
          same_tags = tags_of x;
          hands_over = handed_over xs small place depth n opener inside closer (rest ++ r) inner p.here opened x closed;
        },
        subst (Blocks xs) (sym follows) (blocks_before x (closer ++ (rest ++ r)) p.within (c ∷ (tags ++ later)) (tt, blocks_before y r p.after later b)),
      )

-- in a string that passes, every opening tag opens a block whose inside is the body that `get_tagged_body` hands over there
pub block_is_body : (xs : List ℕ) (place : ℕ) (tags : List Seen) → walk_from xs place ≡ walked tags passed → Blocks xs tags
block_is_body xs place tags e =
    let g = (exactly xs place tags).0 e in
    subst (Blocks xs) (append-nil tags) (blocks_before xs g.0 g.2 [] (sym (append-nil (drop place xs))) [] tt)
