-- In a string that passes, the call for an optional body, with an allowance no smaller than the buffer, is refused at no tag and not at the end: every body that is begun is whole.
-- Assumes nothing.
use mathlib.Core.Path.{◌≡◌, refl, sym, ap, subst}
use Prim.Native.Nat.{ℕ, ◌+◌, ◌≤◌}
use native.Mathlib.Omega.{arith}
use mathlib.Core.Bool.{Bool, true, false}
use mathlib.Core.List.{List, [], ◌∷◌, ◌++◌, append_assoc, append-nil}
use lib.Dec.{eqb}
use lib.ListN.{length, drop}
use borrow.Author.Tests.{eqb-true, eqb-false}
use Rattle.types.specs.Tag.{Number, application, context, opening, closing, Tag, tag, number_in}
use Rattle.types.specs.Answer.{passed}
use Rattle.tags.specs.Header.{IsTag}
use Rattle.bodies.specs.Item.{Item}
use Rattle.bodies.specs.Body.{BodyAt}
use Rattle.bodies.specs.Optional.{end_of_buffer, other_tag, optional_from}
use Rattle.bodies.specs.Absent.{ends, other}
use Rattle.bodies.proofs.Places.{body_here}
use Rattle.bodies.proofs.Presence.{absent_exactly, present_exactly}
use Rattle.walk.specs.Walk.{Seen, seen, walked, walk_from}
use Rattle.walk.specs.Grammar.{Plain, Items}
use Rattle.walk.specs.Grammar.Items.{none, plain, block}
use Rattle.walk.specs.NotRefused.{IsNotRefused, NotRefusedAt, NoneRefused}
use Rattle.walk.proofs.BlockIsBody.{item_places, block_places, the_body}
use Rattle.walk.proofs.Exactly.{exactly}

-- the tag of a plain item, and a closing, is no opening
plain_no_opening : (k : Number) → Plain k → (n : ℕ) → k ≡ opening n → ⊥
plain_no_opening (application m) h n e = let z : ◌≡◌ {A = ℕ} 0 1 = cc in omega arith
plain_no_opening (context m) h n e = let z : ◌≡◌ {A = ℕ} 0 1 = cc in omega arith
plain_no_opening (opening m) h n e = h
plain_no_opening (closing m) h n e = h

closing_no_opening : (m n : ℕ) → closing m ≡ opening n → ⊥
closing_no_opening m n e = let z : ◌≡◌ {A = ℕ} 0 1 = cc in omega arith

module _ (xs : List ℕ) (small : length xs ≤ 65535) where
  -- where another tag than the opening of a number stands, its body is absent
  other_not_refused : (place n allowance : ℕ) (t : Tag) (bytes rest : List ℕ) → drop place xs ≡ bytes ++ rest → IsTag t bytes → (t.number ≡ opening n → ⊥) → IsNotRefused (optional_from n allowance xs place)
  other_not_refused place n allowance t bytes rest here is f = subst IsNotRefused (sym ((absent_exactly n allowance xs place (other_tag t)).1 (small, other bytes rest here is f))) tt

  -- where a body stands, it is handed over, and a body of any other number is absent
  body_not_refused : (place m : ℕ) {view : List ℕ} {items : List Item} (b : BodyAt xs place m view items) → NotRefusedAt xs place
  body_not_refused place m {view} {items} b n allowance room = go (eqb m n) refl
    where
      go : (same : Bool) → eqb m n ≡ same → IsNotRefused (optional_from n allowance xs place)
      go true e = subst IsNotRefused (sym ((present_exactly n allowance xs place small room _ _ m _ _).1 (eqb-true m n e, view, items, b, refl))) tt
      go false e = other_not_refused place n allowance (tag (opening m) 0) b.opener _ (body_here xs small b) b.opened (λ g. eqb-false m n e (ap number_in g))

  none_refused_before : {place depth : ℕ} {bytes : List ℕ} {tags : List Seen} → Items place depth bytes tags → (rest : List ℕ) → drop place xs ≡ bytes ++ rest → (later : List Seen) → NoneRefused xs later → NoneRefused xs (tags ++ later)
  none_refused_before none r e later b = b
  none_refused_before (plain {place} {t = t} header content {rest} h is sized x) r e later b =
      let p = item_places xs place header content rest r e in
      ((λ n allowance room. other_not_refused place n allowance t header _ p.here is (plain_no_opening t.number h n)), none_refused_before x r p.after later b)
  none_refused_before (block {place} {depth} {n} opener inside closer {rest} {inner} {tags} l opened x closed y) r e later b =
      let p = block_places xs place opener inside closer rest r e in
      let q : ℕ = place + length opener + length inside in
      let c : Seen = seen q depth (tag (closing n) 0) in
      let shut : NotRefusedAt xs q = λ m allowance room. other_not_refused q m allowance (tag (closing n) 0) closer _ p.closing_at closed (closing_no_opening n m) in (
        body_not_refused place n (the_body xs small place depth n opener inside closer (rest ++ r) inner p.here opened x closed),
        subst (NoneRefused xs) (sym (append_assoc inner (c ∷ tags) later)) (none_refused_before x (closer ++ (rest ++ r)) p.within (c ∷ (tags ++ later)) (shut, none_refused_before y r p.after later b)),
      )

-- in a string that passes, `get_optional_tagged_body` is refused at no tag's place and not at the end, with any allowance no smaller than the buffer
pub walked_not_refused : (xs : List ℕ) (place : ℕ) (tags : List Seen) → walk_from xs place ≡ walked tags passed → NoneRefused xs tags × NotRefusedAt xs (length xs)
walked_not_refused xs place tags e =
    let g = (exactly xs place tags).0 e in (
      subst (NoneRefused xs) (append-nil tags) (none_refused_before xs g.0 g.2 [] (sym (append-nil (drop place xs))) [] tt),
      (λ n allowance room. subst IsNotRefused (sym ((absent_exactly n allowance xs (length xs) end_of_buffer).1 (g.0, ends refl))) tt),
    )
