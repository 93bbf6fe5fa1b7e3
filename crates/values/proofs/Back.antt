-- What is written reads back as the same value, its part holding the lent bytes, with the next place at its end.
-- Assumes nothing.
use mathlib.Core.Path.{◌≡◌, refl, ◌∙◌, ap, sym}
use mathlib.Core.Bool.{true, false}
use Prim.Native.Nat.{ℕ, suc, ◌+◌, ◌^◌, ◌<◌, ◌≤◌}
use native.Mathlib.Omega.{arith}
use mathlib.Core.List.{List, [], ◌∷◌, ◌++◌, append_assoc, append-nil}
use lib.Dec.{T}
use lib.ListN.{length, drop, length-append}
use lib.Signed.{mag}
use lib.Ieee.{binary32, binary64, fits}
use Rattle.types.specs.Tag.{application, Tag, tag}
use Rattle.types.specs.Answer.{accepted}
use Rattle.types.specs.Writing.{left, can}
use Rattle.types.proofs.Accepted.{could_be_written}
use Rattle.numbers.specs.Integer.{unsigned_bytes, signed_bytes}
use Rattle.numbers.specs.Reading.{part_at, bytes_in}
use Rattle.numbers.proofs.Found.{behind}
use Rattle.numbers.proofs.Shortest.{unsigned_length_lem, signed_length_lem, signed_between}
use Rattle.numbers.proofs.Least.{length_between}
use Rattle.numbers.proofs.Wrote.{wrote, written_here, over_length}
use Rattle.tags.specs.Writing.{tag_bytes}
use Rattle.tags.specs.Item.{boolean_byte}
use Rattle.tags.proofs.Range.{InRange}
use Rattle.tags.proofs.Back.{header_is_tag}
use Rattle.values.specs.Real.{real_bytes, double_bytes}
use Rattle.values.specs.Date.{date_bytes}
use Rattle.values.specs.Time.{time_bytes}
use Rattle.values.specs.ObjectId.{identifier, object_id_bytes}
use Rattle.values.specs.Value.{Value, boolean, real, double, on_date, at_time, object_id, character_string, octet_string, enumerated, bit_string, unsigned_int, signed_int}
use Rattle.values.specs.Reading.{value_from}
use Rattle.values.specs.Writing.{value_bytes, writable_value, value_to}
use Rattle.values.specs.Content.{Content, of_boolean, of_unsigned, of_signed, of_real, of_double, of_octet_string, of_text, of_bit_string, of_enumerated, of_date, of_time, of_object_id}
use Rattle.values.proofs.Parts.{part_bytes, part_bytes_behind}
use Rattle.values.proofs.Booleans.{boolean_is}
use Rattle.values.proofs.Integers.{unsigned_is, signed_is, enumerated_is}
use Rattle.values.proofs.Reals.{real_is, double_is}
use Rattle.values.proofs.OctetStrings.{octets_is}
use Rattle.values.proofs.Texts.{text_is}
use Rattle.values.proofs.BitStrings.{bits_is}
use Rattle.values.proofs.Dates.{date_is}
use Rattle.values.proofs.Times.{time_is}
use Rattle.values.proofs.ObjectIds.{object_id_is}
use Rattle.values.proofs.Exactly.{read_exactly}

-- the value as it reads back where its content begins at a place: text, octets and bits are the part that lies there, as long as the lent bytes
abbrev pub placed : Value → ℕ → List ℕ → Value
placed (boolean b) p lent = boolean b
placed (real x) p lent = real x
placed (double x) p lent = double x
placed (on_date d) p lent = on_date d
placed (at_time t) p lent = at_time t
placed (object_id n i) p lent = object_id n i
placed (character_string q) p lent = character_string (part_at (p + 1) (length lent))
placed (octet_string q) p lent = octet_string (part_at p (length lent))
placed (enumerated x) p lent = enumerated x
placed (bit_string u q) p lent = bit_string u (part_at (p + 1) (length lent))
placed (unsigned_int x) p lent = unsigned_int x
placed (signed_int x) p lent = signed_int x

-- the bytes of a value's part, where it has one, are the lent ones
abbrev pub PartHolds : Value → List ℕ → List ℕ → Type 0
PartHolds (boolean b) ys lent = Unit {0}
PartHolds (real x) ys lent = Unit {0}
PartHolds (double x) ys lent = Unit {0}
PartHolds (on_date d) ys lent = Unit {0}
PartHolds (at_time t) ys lent = Unit {0}
PartHolds (object_id n i) ys lent = Unit {0}
PartHolds (character_string p) ys lent = bytes_in ys p ≡ lent
PartHolds (octet_string p) ys lent = bytes_in ys p ≡ lent
PartHolds (enumerated x) ys lent = Unit {0}
PartHolds (bit_string u p) ys lent = bytes_in ys p ≡ lent
PartHolds (unsigned_int x) ys lent = Unit {0}
PartHolds (signed_int x) ys lent = Unit {0}

-- a value that the program can hold: integers of their widths, floats of their formats
abbrev pub Held : Value → Type 0
Held (boolean b) = Unit {0}
Held (real x) = T (fits binary32 x)
Held (double x) = T (fits binary64 x)
Held (on_date d) = Unit {0}
Held (at_time t) = Unit {0}
Held (object_id n i) = Unit {0}
Held (character_string q) = Unit {0}
Held (octet_string q) = Unit {0}
Held (enumerated x) = x ≤ 4294967295
Held (bit_string u q) = Unit {0}
Held (unsigned_int x) = x < 2 ^ 64
Held (signed_int x) = mag x < 2 ^ 63

-- the tag that a value is written under, and its content
abbrev pub tag_under : Value → List ℕ → Tag
tag_under (boolean b) lent = tag (application 1) (boolean_byte b)
tag_under (unsigned_int x) lent = tag (application 2) (length (unsigned_bytes x))
tag_under (signed_int x) lent = tag (application 3) (length (signed_bytes x))
tag_under (real x) lent = tag (application 4) 4
tag_under (double x) lent = tag (application 4) 8
tag_under (octet_string p) lent = tag (application 6) (length lent)
tag_under (character_string p) lent = tag (application 7) (suc (length lent))
tag_under (bit_string u p) lent = tag (application 8) (suc (length lent))
tag_under (enumerated x) lent = tag (application 9) (length (unsigned_bytes x))
tag_under (on_date d) lent = tag (application 10) 4
tag_under (at_time t) lent = tag (application 11) 4
tag_under (object_id n i) lent = tag (application 12) 4

abbrev pub content_under : Value → List ℕ → List ℕ
content_under (boolean b) lent = []
content_under (unsigned_int x) lent = unsigned_bytes x
content_under (signed_int x) lent = signed_bytes x
content_under (real x) lent = real_bytes x
content_under (double x) lent = double_bytes x
content_under (octet_string p) lent = lent
content_under (character_string p) lent = 0 ∷ lent
content_under (bit_string u p) lent = u ∷ lent
content_under (enumerated x) lent = unsigned_bytes x
content_under (on_date d) lent = date_bytes d
content_under (at_time t) lent = time_bytes t
content_under (object_id n i) lent = object_id_bytes (identifier n i)

-- a value's bytes are its tag's and its content
pub bytes_are : (v : Value) (lent : List ℕ) → value_bytes v lent ≡ tag_bytes (tag_under v lent) ++ content_under v lent
unfolding value_bytes
bytes_are (boolean b) lent = sym (append-nil (tag_bytes (tag (application 1) (boolean_byte b))))
bytes_are (real x) lent = refl
bytes_are (double x) lent = refl
bytes_are (on_date d) lent = refl
bytes_are (at_time t) lent = refl
bytes_are (object_id n i) lent = refl
bytes_are (character_string q) lent = refl
bytes_are (octet_string q) lent = refl
bytes_are (enumerated x) lent = refl
bytes_are (bit_string u q) lent = refl
bytes_are (unsigned_int x) lent = refl
bytes_are (signed_int x) lent = refl

-- the content that is written for a value is that value, each case by its own law
content_is : (v : Value) (lent : List ℕ) → writable_value v lent ≡ can → Held v → (p : ℕ) → Content (tag_under v lent) p (content_under v lent) (placed v p lent)
unfolding writable_value
content_is (boolean b) lent w h p = of_boolean (boolean_is b)
content_is (unsigned_int x) lent w h p = of_unsigned (unsigned_is x h)
content_is (signed_int x) lent w h p = of_signed (signed_is x h)
content_is (real x) lent w h p = of_real (real_is x h)
content_is (double x) lent w h p = of_double (double_is x h)
content_is (octet_string q) lent w h p = of_octet_string (octets_is p lent)
content_is (character_string q) lent w h p = of_text (text_is p lent w)
content_is (bit_string u q) lent w h p = of_bit_string (bits_is u p lent)
content_is (enumerated x) lent w h p = of_enumerated (enumerated_is x h)
content_is (on_date d) lent w h p = of_date (date_is d w)
content_is (at_time t) lent w h p = of_time (time_is t)
content_is (object_id n i) lent w h p = of_object_id (object_id_is (identifier n i) w)

-- its tag is one that bytes can carry
pub tag_in_range : (v : Value) (lent : List ℕ) → length lent ≤ 65535 → InRange (tag_under v lent).number (tag_under v lent).value
tag_in_range (boolean true) lent l = omega arith
tag_in_range (boolean false) lent l = omega arith
tag_in_range (unsigned_int x) lent l = omega (arith, unsigned_length_lem x, length_between x)
tag_in_range (signed_int x) lent l = omega (arith, signed_length_lem x, signed_between x)
tag_in_range (real x) lent l = omega arith
tag_in_range (double x) lent l = omega arith
tag_in_range (octet_string q) lent l = omega arith
tag_in_range (character_string q) lent l = omega arith
tag_in_range (bit_string u q) lent l = omega arith
tag_in_range (enumerated x) lent l = omega (arith, unsigned_length_lem x, length_between x)
tag_in_range (on_date d) lent l = omega arith
tag_in_range (at_time t) lent l = omega arith
tag_in_range (object_id n i) lent l = omega arith

-- content that stands at a place has the lent bytes in the value's part
holds_lent : (v : Value) (lent ys : List ℕ) (p : ℕ) (rest : List ℕ) → drop p ys ≡ content_under v lent ++ rest → PartHolds (placed v p lent) ys lent
holds_lent (boolean b) lent ys p rest e = tt
holds_lent (real x) lent ys p rest e = tt
holds_lent (double x) lent ys p rest e = tt
holds_lent (on_date d) lent ys p rest e = tt
holds_lent (at_time t) lent ys p rest e = tt
holds_lent (object_id n i) lent ys p rest e = tt
holds_lent (character_string q) lent ys p rest e = part_bytes_behind ys p 0 lent rest e
holds_lent (octet_string q) lent ys p rest e = part_bytes ys p lent rest e
holds_lent (enumerated x) lent ys p rest e = tt
holds_lent (bit_string u q) lent ys p rest e = part_bytes_behind ys p u lent rest e
holds_lent (unsigned_int x) lent ys p rest e = tt
holds_lent (signed_int x) lent ys p rest e = tt

-- a value stands at a place of a buffer, up to the next: it is what is read there, and the bytes of its part, where it has one, are the lent ones
pub record Stands (v : Value) (lent ys : List ℕ) (place next : ℕ) : Type 0 where
  pub read : value_from ys place ≡ accepted (placed v (place + length (tag_bytes (tag_under v lent))) lent) next
  pub holds : PartHolds (placed v (place + length (tag_bytes (tag_under v lent))) lent) ys lent

-- whatever `encode` writes, `decode` reads as the same value at the same place, with the next place at its end, and of text, octets and bits the bytes that were lent; what cannot be written is refused 12 or 10 and named by `writable_value`
pub round_trip : (v : Value) (lent : List ℕ) → Held v → (xs : List ℕ) (place next : ℕ) (ys : List ℕ) → value_to v lent xs place ≡ left (accepted tt next) ys → Stands v lent ys place next
unfolding value_to
round_trip v lent h xs place next ys e =
    let t : Tag = tag_under v lent in
    let header : List ℕ = tag_bytes t in
    let content : List ℕ = content_under v lent in
    let c = could_be_written (length lent) (writable_value v lent) (value_bytes v lent) xs place next ys e in
    let w = wrote (length lent) (writable_value v lent) (value_bytes v lent) xs place next ys e in
    let b : length (value_bytes v lent) ≡ length header + length content = ap length (bytes_are v lent) ∙ length-append header content in
    let rest : List ℕ = drop (place + length (value_bytes v lent)) xs in
    let s : length ys ≤ 65535 = omega (arith, ap length w.buffer, over_length (value_bytes v lent) xs place w.room, w.small) in
    let d : drop place ys ≡ header ++ (content ++ rest) =
    ap (drop place) w.buffer ∙ written_here (value_bytes v lent) xs place w.room ∙ ap (λ (l : List ℕ). l ++ rest) (bytes_are v lent) ∙ append_assoc header content rest in
    record {
      read = (read_exactly ys place (placed v (place + length header) lent) next).1 (
        s,
        record {
          found = t;
          header = header;
          is_tag = header_is_tag t.number t.value (tag_in_range v lent c.content);
          content = content;
          is = content_is v lent c.writable h (place + length header);
          rest = rest;
          here = d;
          ends = omega (arith, w.ends);
        },
      );
      holds = holds_lent v lent ys (place + length header) rest (behind ys place header (content ++ rest) d);
    }
