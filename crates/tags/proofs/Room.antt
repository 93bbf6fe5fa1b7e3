-- No room means no room (document 02, K14): an integer is written under its tag exactly if some string that fits reads so, as the only shortest one. Once, over both kinds of integer.
-- Assumes nothing.
use mathlib.Core.Path.{◌≡◌, refl, ◌∙◌, ap}
use Prim.Native.Nat.{ℕ, ◌+◌, ◌^◌, ◌<◌, ◌≤◌}
use native.Mathlib.Omega.{arith}
use mathlib.Core.List.{List, ◌++◌}
use lib.ListN.{length, length-append}
use lib.IntN.{ℤ}
use lib.Signed.{mag}
use Rattle.types.specs.Tag.{Number, application, context, opening, closing, tag}
use Rattle.types.specs.Answer.{Answer}
use Rattle.types.specs.Writing.{can}
use Rattle.numbers.specs.Integer.{unsigned_bytes, signed_bytes, Holds, Shortest}
use Rattle.numbers.proofs.Shortest.{unsigned_shortest, signed_shortest}
use Rattle.tags.specs.Writing.{tag_bytes, tag_value_allowed, writable_tag}
use Rattle.tags.specs.Form.{StandsFor}
use Rattle.tags.specs.Item.{item_bytes, item_to, item_lent_to, number_under}
use Rattle.tags.specs.Room.{Ordinary, TagTaken, ReadsAs, ReadsUnsigned, ReadsSigned, IsIntegerItem, OnlyShortest, ByRoom}
use Rattle.std.specs.declared.option.Option.{Option}
use Rattle.std.specs.declared.option.Option.TheVariants.{Some, None}
use Rattle.tags.proofs.Range.{InRange}
use Rattle.tags.proofs.Shortest.{tag_only_shortest, tag_length_rises}
use Rattle.tags.proofs.ByRoom.{written_by_room}
use Rattle.tags.proofs.ReadsAs.{IntegerKind, unsigned_kind, signed_kind, item_length, reads_exactly}

-- an ordinary tag carries the length of every integer's content
ordinary_range : (n : Number) → Ordinary n → (len : ℕ) → len ≤ 8 → InRange n len
ordinary_range (application n) o len h = (o, omega arith)
ordinary_range (context n) o len h = (o, omega arith)
ordinary_range (opening n) o len h = elim o [ ]
ordinary_range (closing n) o len h = elim o [ ]

-- it may have any value, so 12 is never answered
ordinary_writable : (n : Number) → Ordinary n → (len : ℕ) → writable_tag (tag n len) ≡ can
unfolding tag_value_allowed
ordinary_writable (application n) o len = refl
ordinary_writable (context n) o len = refl
ordinary_writable (opening n) o len = elim o [ ]
ordinary_writable (closing n) o len = elim o [ ]

module _ {A : Type 0} {value_of : List ℕ → A} {integer_from : ℕ → List ℕ → ℕ → Answer A} (kind : IntegerKind value_of integer_from) (n : Number) (o : Ordinary n) (v : A) (content : List ℕ) (s : Shortest value_of v content) where
  tag_shortest : (len : ℕ) → 1 ≤ len → len ≤ 8 → OnlyShortest (StandsFor (tag n len)) (tag_bytes (tag n len))
  tag_shortest len p q = tag_only_shortest n len (ordinary_range n o len q) p

  written_length : length (item_bytes n content) ≡ length (tag_bytes (tag n (length content))) + length content
  written_length = length-append (tag_bytes (tag n (length content))) content

  written_is : IsIntegerItem value_of n v (item_bytes n content)
  written_is =
      let t = tag_shortest (length content) s.holds.some s.most in
      record {
        header = tag_bytes (tag n (length content));
        content = content;
        parts = refl;
        tagged = t.is_so;
        bytes = s.holds.bytes;
        some = s.holds.some;
        most = s.most;
        stands = s.holds.stands;
      }

  -- a content as short as can be, under a tag as short as can be
  module _ (string : List ℕ) (i : IsIntegerItem value_of n v string) where
    content_holds : Holds value_of v i.content
    content_holds = record { some = i.some; bytes = i.bytes; stands = i.stands }

    content_least : length content ≤ length i.content
    content_least = s.least i.content content_holds

    tag_least : length (tag_bytes (tag n (length i.content))) ≤ length i.header
    tag_least = (tag_shortest (length i.content) i.some i.most).least i.header i.tagged

    tag_rises : length (tag_bytes (tag n (length content))) ≤ length (tag_bytes (tag n (length i.content)))
    tag_rises = tag_length_rises n (length content) (length i.content) content_least

    item_least : length (item_bytes n content) ≤ length string
    item_least = omega (arith, written_length, item_length i, content_least, tag_least, tag_rises)

    item_only : length string ≡ length (item_bytes n content) → string ≡ item_bytes n content
    item_only e =
        let l = written_length in
        let m = item_length i in
        let a = content_least in
        let b = tag_least in
        let d = tag_rises in
        let same : i.content ≡ content = kind.one v i.content content content_holds s.holds (omega arith) in
        let first : i.header ≡ tag_bytes (tag n (length i.content)) = (tag_shortest (length i.content) i.some i.most).only i.header i.tagged (omega arith) in
        i.parts ∙ ap (λ (h : List ℕ). h ++ i.content) first ∙ ap (item_bytes n) same

  -- of all strings that are the tag and the integer the one that is written is the only shortest
  pub item_only_shortest : OnlyShortest (IsIntegerItem value_of n v) (item_bytes n content)
  item_only_shortest = record { is_so = written_is; least = item_least; only = item_only }

  -- and so of all that read so
  pub reads_only_shortest : OnlyShortest (ReadsAs integer_from n v) (item_bytes n content)
  reads_only_shortest = record {
    is_so = (reads_exactly kind n v (item_bytes n content)).1 written_is;
    least = λ other r. item_least other ((reads_exactly kind n v other).0 r);
    only = λ other r e. item_only other ((reads_exactly kind n v other).0 r) e;
  }

  -- the room alone decides whether it is written
  pub exact_room : (xs : List ℕ) (place : ℕ) → length xs ≤ 65535 → place ≤ length xs → ByRoom (ReadsAs integer_from n v) xs place (item_to n content xs place)
  unfolding item_to item_lent_to
  exact_room xs place small inside = simp (ordinary_writable n o (length content)) (written_by_room (ReadsAs integer_from n v) (item_bytes n content) reads_only_shortest xs place small inside)

module _ (n : Number) (o : Ordinary n) (xs : List ℕ) (place : ℕ) (small : length xs ≤ 65535) (inside : place ≤ length xs) where
  -- every unsigned 64-bit integer, and every enumerated value of 64 bits
  pub unsigned_exact_room : (v : ℕ) → v < 2 ^ 64 → ByRoom (ReadsUnsigned n v) xs place (item_to n (unsigned_bytes v) xs place)
  unsigned_exact_room v h = exact_room unsigned_kind n o v (unsigned_bytes v) (unsigned_shortest v h) xs place small inside

  -- every signed one
  pub signed_exact_room : (z : ℤ) → mag z < 2 ^ 63 → ByRoom (ReadsSigned n z) xs place (item_to n (signed_bytes z) xs place)
  signed_exact_room z h = exact_room signed_kind n o z (signed_bytes z) (signed_shortest z h) xs place small inside

-- each tag that an integer writer takes is an ordinary one
pub taken_ordinary : (kind : ℕ) → kind < 16 → (t : Option ℕ) → TagTaken t → Ordinary (number_under kind t)
taken_ordinary kind h None b = h
taken_ordinary kind h (Some n) b = b
