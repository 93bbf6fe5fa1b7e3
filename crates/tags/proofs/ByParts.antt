-- Bytes of which the first are written, with room for all, and then the others behind them, are written as all at once: a header and its content are an item.
-- Assumes nothing.
use mathlib.Core.Path.{◌≡◌, refl, ◌∙◌, ap, sym}
use Prim.Native.Nat.{ℕ, ◌+◌, ◌-◌, ◌≤◌}
use native.Mathlib.Nat.{add-zero, zero-add}
use native.Mathlib.Omega.{arith}
use mathlib.Core.List.{List, [], ◌++◌, append_assoc, append-nil}
use lib.ListN.{length, take, drop, length-append, length-drop, drop_of_length-le}
use lib.Seq.{drop-drop, take_all}
use borrow.Author.Tests.{le-ltb}
use borrow.Rule.Slice.PartMut.{put_mid}
use Rattle.types.specs.Tag.{Number, Tag, tag}
use Rattle.types.specs.Refusal.{Carried}
use Rattle.types.specs.Answer.{Answer, accepted, refused}
use Rattle.types.specs.Writing.{Left, left, over, can, settled, write_answer, writing}
use Rattle.numbers.proofs.Inside.{Room, write_room}
use Rattle.numbers.proofs.Wrote.{over_length, over_behind, write_fits}
use Rattle.tags.specs.Writing.{tag_bytes, writable_tag, tag_before}
use Rattle.tags.specs.Held.{item_before}
use Rattle.tags.specs.Item.{item_to, item_lent_to}

-- content written behind the first bytes, where those were written
abbrev pub followed : List ℕ → List ℕ → Answer (Unit {0}) → Left
followed content ys (accepted u next) = left (accepted tt (next + length content)) (over ys next content)
followed content ys (refused n c) = left (refused n c) ys

abbrev pub behind : List ℕ → Left → Left
behind content l = followed content l.buffer l.answer

-- the first bytes and then the content, by the one answer that both have
pub by_parts : (bytes content xs : List ℕ) (place count : ℕ) (a : Answer (Unit {0})) → Room count xs place a
    → settled (bytes ++ content) xs place a ≡ behind content (settled bytes xs place a)
by_parts bytes content xs place count (accepted u next) r =
    let e : place + length (bytes ++ content) ≡ place + length bytes + length content = omega (arith, length-append bytes content) in
    λ i. left (accepted tt (e i)) (sym (over_behind bytes content xs place (omega (arith, r.1))) i)
by_parts bytes content xs place count (refused n c) r = refl

-- where the first bytes were written, there is room for the content that is to follow
abbrev pub RoomFor : ℕ → List ℕ → ℕ → Type 0
RoomFor content ys next = (next + content ≤ length ys) × (length ys ≤ 65535)

room_left : (bytes xs : List ℕ) (content place count next : ℕ) (ys : List ℕ) (a : Answer (Unit {0})) → Room count xs place a → length bytes + content ≤ count → left (accepted tt next) ys ≡ settled bytes xs place a → RoomFor content ys next
room_left bytes xs content place count next ys (accepted u m) r fits e =
    let b : ys ≡ over xs place bytes = ap (λ (l : Left). l.buffer) e in
    let ends : next ≡ place + length bytes = let f = ap (λ (l : Left). l.answer) e in cc in
    omega (arith, ap length b, over_length bytes xs place (omega (arith, r.1)))
room_left bytes xs content place count next ys (refused n c) r fits e = let f = ap (λ (l : Left). l.answer) e in absurd (cc)

-- content for which there is room, written into the rest of the buffer, which is lent and put back: it is written, and stands behind the first bytes
module _ (lent : ℕ) (content ys : List ℕ) (next : ℕ) (small : lent ≤ 65535) (room : RoomFor (length content) ys next) where
  abbrev pub rest : List ℕ
  rest = take (length ys - next) (drop next ys)

  rest_is : rest ≡ drop next ys
  rest_is = take_all (length ys - next) (drop next ys) (omega (arith, length-drop next ys))

  rest_fits : writing lent can content rest 0 ≡ left (accepted tt (0 + length content)) (over rest 0 content)
  rest_fits = let l : length rest ≡ length ys - next = ap length rest_is ∙ length-drop next ys in write_fits lent content rest 0 small (omega arith) (omega arith)

  pub rest_ends : (len : ℕ) (zs : List ℕ) → left (accepted tt len) zs ≡ writing lent can content rest 0 → len ≡ length content
  rest_ends len zs e =
      let f = ap (λ (l : Left). l.answer) (e ∙ rest_fits) in
      let g : len ≡ 0 + length content = cc in
      omega arith

  pub rest_not_refused : (n : ℕ) (c : Carried) (zs : List ℕ) → left (refused n c) zs ≡ writing lent can content rest 0 → ⊥
  rest_not_refused n c zs e = let f = ap (λ (l : Left). l.answer) (e ∙ rest_fits) in cc

  put_back : (l : List ℕ) → put_mid next (length ys - next) ys l ≡ take next ys ++ l
  put_back l =
      let e : drop (length ys - next) (drop next ys) ≡ [] = drop_of_length-le (drop next ys) {i = length ys - next} (omega (arith, length-drop next ys)) in
      rw (e, append-nil)

  pub rest_written : (len : ℕ) (zs : List ℕ) → left (accepted tt len) zs ≡ writing lent can content rest 0 → left (accepted tt (next + len)) (put_mid next (length ys - next) ys zs) ≡ followed content ys (accepted tt next)
  rest_written len zs e =
      let z : zs ≡ over (drop next ys) 0 content = ap (λ (l : Left). l.buffer) (e ∙ rest_fits) ∙ ap (λ (l : List ℕ). over l 0 content) rest_is in
      let b : put_mid next (length ys - next) ys zs ≡ over ys next content = put_back zs ∙ ap (λ (l : List ℕ). take next ys ++ l) z ∙ rw (zero-add, drop-drop) in
      rw (rest_ends len zs e, b)

-- the first bytes of an item are its header, with room for its content, and then those bytes behind it
pub before_by_parts : (more len : ℕ) (n : Number) (first xs : List ℕ) (place : ℕ) → length first + more ≡ len → item_before more n first xs place ≡ behind first (tag_before (tag n len) len xs place)
unfolding item_before tag_before
before_by_parts more len n first xs place e =
    let t : Tag = tag n (length first + more) in
    let count : ℕ = length (tag_bytes t) + (length first + more) in
    by_parts (tag_bytes t) first xs place count (write_answer 0 (writable_tag t) count xs place) (write_room 0 (writable_tag t) count xs place)
    ∙ ap (λ (k : ℕ). behind first (tag_before (tag n k) k xs place)) e

-- the header leaves room for them
pub first_room : (n : Number) (len : ℕ) (xs : List ℕ) (place next : ℕ) (ys : List ℕ) → left (accepted tt next) ys ≡ tag_before (tag n len) len xs place → RoomFor len ys next
unfolding tag_before
first_room n len xs place next ys e =
    let t : Tag = tag n len in
    let count : ℕ = length (tag_bytes t) + len in
    room_left (tag_bytes t) xs len place count next ys (write_answer 0 (writable_tag t) count xs place) (write_room 0 (writable_tag t) count xs place) (omega arith) e

-- an item that nothing more is to follow is written whole
pub begun_whole : (n : Number) (content xs : List ℕ) (place : ℕ) → item_before 0 n content xs place ≡ item_to n content xs place
unfolding item_before item_to item_lent_to writing
begun_whole n content xs place = rw (add-zero (length content), length-append (tag_bytes (tag n (length content))) content)

-- so writing an item is writing its header, with room for the content, and then the content behind it
pub item_by_parts : (n : Number) (content xs : List ℕ) (place : ℕ)
    → item_to n content xs place ≡ behind content (tag_before (tag n (length content)) (length content) xs place)
item_by_parts n content xs place =
    sym (begun_whole n content xs place)
    ∙ before_by_parts 0 (length content) n content xs place (add-zero (length content))

-- lent content that is not too long is written as if none were lent
pub item_lent : (lent : ℕ) (n : Number) (content xs : List ℕ) (place : ℕ) → lent ≤ 65535 → item_to n content xs place ≡ item_lent_to lent n content xs place
unfolding item_to item_lent_to writing write_answer
item_lent lent n content xs place small = simp (le-ltb 65535 lent small)

-- and so is writing its first bytes, with room for those that are lent, and then the lent ones behind them
pub lent_by_parts : (n : Number) (first lent xs : List ℕ) (place : ℕ) → length lent ≤ 65535 → item_lent_to (length lent) n (first ++ lent) xs place ≡ behind lent (item_before (length lent) n first xs place)
unfolding item_before item_to item_lent_to writing
lent_by_parts n first lent xs place small =
    let h : List ℕ = tag_bytes (tag n (length first + length lent)) in
    let t : Tag = tag n (length first + length lent) in
    let count : ℕ = length h + (length first + length lent) in
    sym (item_lent (length lent) n (first ++ lent) xs place small)
    ∙ rw (length-append first lent, length-append h (first ++ lent), length-append first lent, ← append_assoc h first lent)
    (by_parts (h ++ first) lent xs place count (write_answer 0 (writable_tag t) count xs place) (write_room 0 (writable_tag t) count xs place))

-- the first bytes leave room for the lent ones
pub lent_room : (n : Number) (first xs : List ℕ) (more place next : ℕ) (ys : List ℕ) → left (accepted tt next) ys ≡ item_before more n first xs place → RoomFor more ys next
unfolding item_before
lent_room n first xs more place next ys e =
    let t : Tag = tag n (length first + more) in
    let count : ℕ = length (tag_bytes t) + (length first + more) in
    room_left (tag_bytes t ++ first) xs more place count next ys (write_answer 0 (writable_tag t) count xs place) (write_room 0 (writable_tag t) count xs place) (omega (arith, length-append (tag_bytes t) first)) e
