-- What is written reads back: every tag that can be carried, and every integer under every tag that its writer takes.
-- Assumes nothing.
use mathlib.Core.Path.{◌≡◌, refl, ◌∙◌, ap, ap₂, sym, subst, subst₂}
use Prim.Native.Nat.{ℕ, ◌+◌, ◌*◌, ◌^◌, ◌<◌, ◌≤◌}
use native.Mathlib.Omega.{arith}
use mathlib.Core.List.{List, [], ◌∷◌, ◌++◌, append_assoc}
use lib.IntN.{ℤ}
use lib.Signed.{mag}
use lib.ListN.{length, drop, length-append}
use borrow.Author.Tests.{lt-ltb, le-ltb}
use Rattle.types.specs.Tag.{Number, application, context, opening, closing, Tag, tag}
use Rattle.types.specs.Answer.{accepted}
use Rattle.types.specs.Writing.{left, over}
use Rattle.numbers.specs.Integer.{low_bytes, unsigned_value, signed_value, unsigned_bytes, signed_bytes, Shortest}
use Rattle.numbers.specs.Reading.{unsigned_from, signed_from}
use Rattle.numbers.proofs.Low.{low_bytes_stand, low_bytes_length}
use Rattle.numbers.proofs.Shortest.{unsigned_shortest, signed_shortest}
use Rattle.numbers.proofs.Found.{behind, unsigned_at, signed_at}
use Rattle.numbers.proofs.Wrote.{wrote, written_here, over_length}
use Rattle.tags.specs.Reading.{tag_from}
use Rattle.tags.specs.Header.{class_bit, number_field, low_bits, TellsValue, inline, one, two, four, TellsNumber, in_field, in_second, IsTag, of_application, of_context, of_opening, of_closing}
use Rattle.tags.specs.Writing.{low_bits_for, tag_value_bytes, context_bytes, number_bytes, tag_bytes, writable_tag, tag_to}
use Rattle.tags.specs.Item.{item_bytes, item_to, item_lent_to}
use Rattle.tags.proofs.BySize.{split, to_four, from_five, low_lt, few, alone, in_two, in_four}
use Rattle.tags.proofs.Exactly.{tag_read}
use Rattle.tags.proofs.Range.{InRange}

-- the low bits and the bytes that are written for a value tell it
value_told : (v : ℕ) → v < 2 ^ 32 → TellsValue (low_bits_for v) v (tag_value_bytes v)
value_told v k =
    split v 5 (λ h. subst₂ (λ (low : ℕ) (bs : List ℕ). TellsValue low v bs) (to_four v h) (sym (few v h)) (inline h)) (λ h.
    subst (λ (low : ℕ). TellsValue low v (tag_value_bytes v)) (from_five v h)
    (split v 254 (λ k₂. subst (TellsValue 5 v) (sym (alone v h k₂)) (one {b = v} (omega arith) (omega arith))) (λ k₂.
    split v 65536
    (λ k₃. subst₂ (TellsValue 5) (low_bytes_stand 2 v k₃) (sym (in_two v k₂ k₃)) (two (low_bytes 2 v) (low_bytes_length 2 v)))
    (λ k₃. subst₂ (TellsValue 5) (low_bytes_stand 4 v k) (sym (in_four v k₃)) (four (low_bytes 4 v) (low_bytes_length 4 v))))))

-- what the first byte says: its class, its number field and its low bits
application_bits : (n low : ℕ) → low < 8 → (class_bit (n * 16 + low) ≡ 0) × (number_field (n * 16 + low) ≡ n) × (low_bits (n * 16 + low) ≡ low)
application_bits n low h = (omega arith, omega arith, omega arith)

context_bits : (n low : ℕ) → low < 8 → (class_bit (n * 16 + 8 + low) ≡ 1) × (number_field (n * 16 + 8 + low) ≡ n) × (low_bits (n * 16 + 8 + low) ≡ low)
context_bits n low h = (omega arith, omega arith, omega arith)

long_bits : (low : ℕ) → low < 8 → (class_bit (248 + low) ≡ 1) × (15 ≤ number_field (248 + low)) × (low_bits (248 + low) ≡ low)
long_bits low h = (omega arith, omega arith, omega arith)

-- a first byte and the bytes behind it that tell a number of context class, with these low bits
pub record Telling (n low : ℕ) (bytes : List ℕ) : Type 0 where
  pub first : ℕ
  pub number : List ℕ
  pub are : bytes ≡ first ∷ number
  pub class : class_bit first ≡ 1
  pub tells : TellsNumber (number_field first) n number
  pub low_is : low_bits first ≡ low

-- in the field, and in a second byte
pub field_telling : (n low : ℕ) → low < 8 → n < 15 → Telling n low ((n * 16 + 8 + low) ∷ [])
field_telling n low h k =
    let b = context_bits n low h in
    record { first = n * 16 + 8 + low; number = []; are = refl; class = b.0; tells = subst (λ (f : ℕ). TellsNumber f n []) (sym b.1) (in_field k); low_is = b.2 }

pub second_telling : (n low : ℕ) → low < 8 → Telling n low ((248 + low) ∷ n ∷ [])
second_telling n low h = let b = long_bits low h in record { first = 248 + low; number = n ∷ []; are = refl; class = b.0; tells = in_second b.1; low_is = b.2 }

written_telling : (n low : ℕ) → low < 8 → Telling n low (context_bytes n low)
written_telling n low h = split n 15 (λ k. simp (lt-ltb n 15 k) (field_telling n low h k)) (λ k. simp (le-ltb n 15 k) (second_telling n low h))

-- the bytes that are written for a tag are that tag
module _ (n v : ℕ) where
  application_is : v < 2 ^ 32 → IsTag (tag (application n) v) (number_bytes (application n) v)
  application_is k =
      let b = application_bits n (low_bits_for v) (omega (arith, low_lt v)) in
      subst (λ (x : ℕ). IsTag (tag (application x) v) (number_bytes (application n) v)) b.1
      (of_application b.0 (subst (λ (x : ℕ). TellsValue x v (tag_value_bytes v)) (sym b.2) (value_told v k)))

  context_is : v < 2 ^ 32 → IsTag (tag (context n) v) (number_bytes (context n) v)
  context_is k =
      let w = written_telling n (low_bits_for v) (omega (arith, low_lt v)) in
      subst (λ (bs : List ℕ). IsTag (tag (context n) v) (bs ++ tag_value_bytes v)) (sym w.are)
      (of_context w.class w.tells (omega (arith, w.low_is, low_lt v)) (subst (λ (x : ℕ). TellsValue x v (tag_value_bytes v)) (sym w.low_is) (value_told v k)))

opening_is : (n : ℕ) → IsTag (tag (opening n) 0) (number_bytes (opening n) 0)
opening_is n = let w = written_telling n 6 (omega arith) in subst (IsTag (tag (opening n) 0)) (sym w.are) (of_opening w.class w.tells w.low_is)

closing_is : (n : ℕ) → IsTag (tag (closing n) 0) (number_bytes (closing n) 0)
closing_is n = let w = written_telling n 7 (omega arith) in subst (IsTag (tag (closing n) 0)) (sym w.are) (of_closing w.class w.tells w.low_is)

pub header_is_tag : (n : Number) (v : ℕ) → InRange n v → IsTag (tag n v) (tag_bytes (tag n v))
unfolding tag_bytes
header_is_tag (application n) v r = application_is n v r.1
header_is_tag (context n) v r = context_is n v r.1
header_is_tag (opening n) v r = subst (λ (x : ℕ). IsTag (tag (opening n) x) (number_bytes (opening n) x)) (sym r.1) (opening_is n)
header_is_tag (closing n) v r = subst (λ (x : ℕ). IsTag (tag (closing n) x) (number_bytes (closing n) x)) (sym r.1) (closing_is n)

-- whatever `encode` writes, `decode` reads as the same tag, with the place after it
pub round_trip : (n : Number) (v : ℕ) → InRange n v → (xs : List ℕ) (place next : ℕ) (ys : List ℕ) → tag_to (tag n v) xs place ≡ left (accepted tt next) ys → tag_from ys place ≡ accepted (tag n v) next
unfolding tag_to
round_trip n v r xs place next ys e =
    let h : List ℕ = tag_bytes (tag n v) in
    let w = wrote 0 (writable_tag (tag n v)) h xs place next ys e in
    let s : length (over xs place h) ≤ 65535 = omega (arith, over_length h xs place w.room, w.small) in
    rw (w.buffer, w.ends) (tag_read (over xs place h) s place (tag n v) h _ (written_here h xs place w.room) (header_is_tag n v r))

-- what stands in the buffer where an item was written
pub record ItemFound (n : Number) (content : List ℕ) (ys : List ℕ) (place next : ℕ) : Type 0 where
  pub small : length ys ≤ 65535
  pub after : ℕ
  pub header : tag_from ys place ≡ accepted (tag n (length content)) after
  pub rest : List ℕ
  pub here : drop after ys ≡ content ++ rest
  pub ends : next ≡ after + length content

pub item_found : (n : Number) (content : List ℕ) → InRange n (length content) → (xs : List ℕ) (place next : ℕ) (ys : List ℕ) → item_to n content xs place ≡ left (accepted tt next) ys → ItemFound n content ys place next
unfolding item_to item_lent_to
item_found n content r xs place next ys e =
    let t : Tag = tag n (length content) in
    let h : List ℕ = tag_bytes t in
    let w = wrote 0 (writable_tag t) (item_bytes n content) xs place next ys e in
    let l : length (item_bytes n content) ≡ length h + length content = length-append h content in
    let rest : List ℕ = drop (place + length (item_bytes n content)) xs in
    let s : length ys ≤ 65535 = omega (arith, ap length w.buffer, over_length (item_bytes n content) xs place w.room, w.small) in
    let d : drop place ys ≡ h ++ (content ++ rest) = ap (drop place) w.buffer ∙ written_here (item_bytes n content) xs place w.room ∙ append_assoc h content rest in
    record {
      small = s;
      after = place + length h;
      header = tag_read ys s place t h (content ++ rest) d (header_is_tag n (length content) r);
      rest = rest;
      here = behind ys place h (content ++ rest) d;
      ends = omega (arith, w.ends);
    }

-- an integer written under a tag: its tag is read, then its content as itself, which no shorter content holds
pub record ReadsBack {A : Type 0} (value_of : List ℕ → A) (reads : ℕ → List ℕ → ℕ → A → ℕ → Type 0) (n : Number) (v : A) (content ys : List ℕ) (place next : ℕ) : Type 0 where
  pub after : ℕ
  pub header : tag_from ys place ≡ accepted (tag n (length content)) after
  pub itself : reads (length content) ys after v next
  pub fewest : Shortest value_of v content

module _ (n : Number) (xs : List ℕ) (place next : ℕ) (ys : List ℕ) where
  -- every unsigned 64-bit integer, under every tag that can carry its length
  pub unsigned_round_trip : (v : ℕ) → v < 2 ^ 64 → InRange n (length (unsigned_bytes v)) → item_to n (unsigned_bytes v) xs place ≡ left (accepted tt next) ys
      → ReadsBack unsigned_value (λ k zs p x q. unsigned_from k zs p ≡ accepted x q) n v (unsigned_bytes v) ys place next
  unsigned_round_trip v h r e =
      let s = unsigned_shortest v h in
      let f = item_found n (unsigned_bytes v) r xs place next ys e in
      record {
        after = f.after;
        header = f.header;
        itself = unsigned_at ys f.after (unsigned_bytes v) f.rest f.small s.holds.some s.most f.here ∙ ap₂ accepted s.holds.stands (sym f.ends);
        fewest = s;
      }

  -- every signed one
  pub signed_round_trip : (z : ℤ) → mag z < 2 ^ 63 → InRange n (length (signed_bytes z)) → item_to n (signed_bytes z) xs place ≡ left (accepted tt next) ys
      → ReadsBack signed_value (λ k zs p x q. signed_from k zs p ≡ accepted x q) n z (signed_bytes z) ys place next
  signed_round_trip z h r e =
      let s = signed_shortest z h in
      let f = item_found n (signed_bytes z) r xs place next ys e in
      record {
        after = f.after;
        header = f.header;
        itself = signed_at ys f.after (signed_bytes z) f.rest f.small s.holds.some s.most f.here ∙ ap₂ accepted s.holds.stands (sym f.ends);
        fewest = s;
      }
