-- An item is found exactly where its bytes stand: a tag, and then as much content as it says.
-- Assumes nothing.
use mathlib.Core.Path.{◌≡◌, refl, ◌∙◌, ap, sym, subst}
use Prim.Native.Nat.{ℕ, ◌+◌, ◌<◌, ◌≤◌}
use native.Mathlib.Omega.{arith}
use mathlib.Core.List.{List, [], ◌++◌}
use lib.Dec.{ltb}
use lib.ListN.{length, take, drop, length-append, length-drop, take-append-drop}
use lib.Seq.{drop-drop, length-take-le}
use borrow.Author.Tests.{le-ltb, ltb-false}
use Rattle.types.specs.Tag.{Number, opening, closing, Tag, tag}
use Rattle.types.specs.Answer.{Answer, accepted, refused}
use Rattle.types.proofs.Choices.{either, read_on}
use Rattle.tags.specs.Header.{IsTag}
use Rattle.tags.specs.Reading.{tag_from}
use Rattle.tags.proofs.Exactly.{tag_found_lem, tag_read, tag_length, block_has_no_value}
use Rattle.tags.proofs.OneTag.{no_bytes}
use Rattle.bodies.specs.Item.{content_length}
use Rattle.walk.specs.Tag.{item_from}

-- an item that was found: its tag's bytes and its content stand at the place, and end inside the buffer
pub record ItemFound (xs : List ℕ) (place : ℕ) (t : Tag) (next : ℕ) : Type 0 where
  pub header : List ℕ
  pub content : List ℕ
  pub is_tag : IsTag t header
  pub sized : length content ≡ content_length t
  pub here : drop place xs ≡ header ++ (content ++ drop next xs)
  pub ends : next ≡ place + length header + length content
  pub inside : next ≤ length xs
  pub small : length xs ≤ 65535

abbrev ItemOr : List ℕ → ℕ → Answer Tag → Type 0
ItemOr xs place (accepted t next) = ItemFound xs place t next
ItemOr xs place (refused n c) = Unit {0}

item_or : (xs : List ℕ) (place : ℕ) → ItemOr xs place (item_from xs place)
unfolding item_from
item_or xs place =
    read_on (ItemOr xs place) (tag_from xs place)
    (λ t next e.
    let f = tag_found_lem xs place t next e in
    either (ItemOr xs place) (ltb (length xs) (next + content_length t)) (λ u. tt) (λ u.
    let l : next + content_length t ≤ length xs = ltb-false (length xs) (next + content_length t) u in
    let sized : length (take (content_length t) (drop next xs)) ≡ content_length t = length-take-le (content_length t) (drop next xs) (omega (arith, length-drop next xs)) in
    let cut : drop next xs ≡ take (content_length t) (drop next xs) ++ drop (next + content_length t) xs =
    sym (take-append-drop (content_length t) (drop next xs)) ∙ ap (λ (y : List ℕ). take (content_length t) (drop next xs) ++ y) (drop-drop (content_length t) next xs) in
    record {
      header = f.bytes;
      content = take (content_length t) (drop next xs);
      is_tag = f.is_tag;
      sized = sized;
      here = f.here ∙ ap (λ (y : List ℕ). f.bytes ++ y) cut;
      ends = omega (arith, f.ends);
      inside = l;
      small = f.small;
    }))
    (λ n c e. tt)

-- what was found stands there
pub item_found : (xs : List ℕ) (place : ℕ) (t : Tag) (next : ℕ) → item_from xs place ≡ accepted t next → ItemFound xs place t next
item_found xs place t next e = subst (ItemOr xs place) e (item_or xs place)

-- what stands there is found
pub item_read : (xs : List ℕ) (place : ℕ) (t : Tag) (header content rest : List ℕ) → length xs ≤ 65535 → drop place xs ≡ header ++ (content ++ rest) → IsTag t header → length content ≡ content_length t
    → item_from xs place ≡ accepted t (place + length header + length content)
unfolding item_from
item_read xs place t header content rest small here is sized =
    let g : tag_from xs place ≡ accepted t (place + length header) = tag_read xs small place t header (content ++ rest) here is in
    let a : length (drop place xs) ≡ length header + (length content + length rest) = ap length here ∙ simp length-append in
    let l : place + length header + content_length t ≤ length xs = omega (arith, length-drop place xs, tag_length is) in
    simp (g, le-ltb (length xs) (place + length header + content_length t) l) (ap (λ (j : ℕ). accepted t (place + length header + j)) (sym sized))

-- an item ends after its place, inside the buffer
pub item_moves_on : (xs : List ℕ) (place : ℕ) (t : Tag) (next : ℕ) → item_from xs place ≡ accepted t next → (place < next) × (next ≤ length xs)
item_moves_on xs place t next e =
    let f = item_found xs place t next e in
    (omega (arith, f.ends, tag_length f.is_tag), f.inside)

-- an item that is an opening or a closing tag alone: its bytes, and no content
pub record BareFound (xs : List ℕ) (place : ℕ) (n : Number) (next : ℕ) : Type 0 where
  pub header : List ℕ
  pub is_tag : IsTag (tag n 0) header
  pub here : drop place xs ≡ header ++ drop next xs
  pub ends : next ≡ place + length header

bare : (xs : List ℕ) (place : ℕ) (n : Number) (v next : ℕ) → v ≡ 0 → content_length (tag n v) ≡ 0 → ItemFound xs place (tag n v) next → BareFound xs place n next
bare xs place n v next z y f =
    let e : f.content ≡ [] = no_bytes f.content (f.sized ∙ y) in
    record {
      header = f.header;
      is_tag = subst (λ (x : ℕ). IsTag (tag n x) f.header) z f.is_tag;
      here = f.here ∙ ap (λ (c : List ℕ). f.header ++ (c ++ drop next xs)) e;
      ends = omega (arith, f.ends, f.sized);
    }

-- a block's tags have the value 0
pub opening_found : (xs : List ℕ) (place n v next : ℕ) → item_from xs place ≡ accepted (tag (opening n) v) next → (v ≡ 0) × BareFound xs place (opening n) next
opening_found xs place n v next e =
    let f = item_found xs place (tag (opening n) v) next e in
    let z : v ≡ 0 = block_has_no_value f.is_tag in
    (z, bare xs place (opening n) v next z refl f)

pub closing_found : (xs : List ℕ) (place n v next : ℕ) → item_from xs place ≡ accepted (tag (closing n) v) next → (v ≡ 0) × BareFound xs place (closing n) next
closing_found xs place n v next e =
    let f = item_found xs place (tag (closing n) v) next e in
    let z : v ≡ 0 = block_has_no_value f.is_tag in
    (z, bare xs place (closing n) v next z refl f)
