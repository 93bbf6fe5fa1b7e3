-- A value that was read, written again: 12 for the bit strings that cannot be, and else its own bytes exactly where they were canonical.
-- Assumes nothing.
use mathlib.Core.Path.{◌≡◌, refl, ◌∙◌, ap, ap₂, sym, subst}
use mathlib.Core.Logic.{◌↔◌}
use Prim.Native.Nat.{ℕ, ◌+◌, ◌<◌, ◌≤◌}
use native.Mathlib.Omega.{arith}
use mathlib.Core.List.{List, [], ◌++◌}
use lib.Dec.{ltb}
use lib.ListN.{length, take, drop, length-take, length-drop}
use borrow.Author.Tests.{lt-ltb, le-ltb, eq-eqb, ne_eqb}
use Rattle.types.specs.Tag.{application, Tag, tag}
use Rattle.types.specs.Refusal.{amount}
use Rattle.types.specs.Answer.{accepted, refused}
use Rattle.types.specs.Writing.{Left, left, Writable, can, unwritable, over, write_answer, writing}
use Rattle.types.proofs.Choices.{either}
use Rattle.types.proofs.Accepted.{could_be_written}
use Rattle.numbers.specs.Integer.{unsigned_bytes, signed_bytes, Bytes}
use Rattle.numbers.specs.Reading.{Part, bytes_in}
use Rattle.numbers.proofs.Value.{bytes_dropped, bytes_before}
use Rattle.numbers.proofs.Found.{behind}
use Rattle.numbers.proofs.Wrote.{wrote, written_here, write_fits}
use Rattle.tags.specs.Writing.{tag_bytes}
use Rattle.tags.proofs.OneTag.{same_front, one_tag}
use Rattle.tags.proofs.Back.{header_is_tag}
use Rattle.values.specs.Real.{real_bytes, double_bytes}
use Rattle.values.specs.Text.{text_writable}
use Rattle.values.specs.Bits.{Bits, IsBits, bits_writable}
use Rattle.values.specs.Value.{Value, boolean, real, double, on_date, at_time, object_id, character_string, octet_string, enumerated, bit_string, unsigned_int, signed_int}
use Rattle.values.specs.Reading.{value_from}
use Rattle.values.specs.Writing.{value_bytes, writable_value, value_to}
use Rattle.values.specs.Content.{Content, of_boolean, of_unsigned, of_signed, of_real, of_double, of_octet_string, of_text, of_bit_string, of_enumerated, of_date, of_time, of_object_id}
use Rattle.values.proofs.Booleans.{boolean_again, boolean_small}
use Rattle.values.proofs.OctetStrings.{octets_again}
use Rattle.values.proofs.Texts.{text_exactly, text_bytes, text_again}
use Rattle.values.proofs.BitStrings.{bits_exactly, bits_bytes, bits_again}
use Rattle.values.proofs.Dates.{date_again}
use Rattle.values.proofs.Times.{time_again}
use Rattle.values.proofs.ObjectIds.{object_id_again}
use Rattle.values.proofs.Exactly.{ValueAt, read_exactly}
use Rattle.values.proofs.Back.{tag_under, content_under, bytes_are, tag_in_range}

-- the bytes to lend where a value that was read is written again: those of its part
abbrev pub lent_of : Value → List ℕ → List ℕ
lent_of (boolean b) xs = []
lent_of (real x) xs = []
lent_of (double x) xs = []
lent_of (on_date d) xs = []
lent_of (at_time t) xs = []
lent_of (object_id n i) xs = []
lent_of (character_string p) xs = bytes_in xs p
lent_of (octet_string p) xs = bytes_in xs p
lent_of (enumerated x) xs = []
lent_of (bit_string u p) xs = bytes_in xs p
lent_of (unsigned_int x) xs = []
lent_of (signed_int x) xs = []

-- canonical content: a Boolean of 0 or 1, an integer in its fewest bytes, a float that is no other NaN than the one that is written; anything else is always
abbrev pub Kept : {t : Tag} {p : ℕ} {bytes : List ℕ} {v : Value} → Content t p bytes v → Type 0
Kept (of_boolean {v = v} i) = v ≤ 1
Kept (of_unsigned {bytes = bytes} {x = x} i) = unsigned_bytes x ≡ bytes
Kept (of_signed {bytes = bytes} {x = x} i) = signed_bytes x ≡ bytes
Kept (of_real {bytes = bytes} {x = x} i) = real_bytes x ≡ bytes
Kept (of_double {bytes = bytes} {x = x} i) = double_bytes x ≡ bytes
Kept (of_octet_string i) = Unit {0}
Kept (of_text i) = Unit {0}
Kept (of_bit_string i) = Unit {0}
Kept (of_enumerated {bytes = bytes} {x = x} i) = unsigned_bytes x ≡ bytes
Kept (of_date i) = Unit {0}
Kept (of_time i) = Unit {0}
Kept (of_object_id i) = Unit {0}

-- the bit strings that can be read and not written: of more than seven unused bits, or of some where there are no bytes
pub data Barred : Value → Type 0 where
  too_many : {unused : ℕ} {p : Part} → 7 < unused → Barred (bit_string unused p)
  of_nothing : {unused : ℕ} {p : Part} → 0 < unused → p.size ≡ 0 → Barred (bit_string unused p)

-- they are refused 12
barred_cannot : (xs : List ℕ) {v : Value} → Barred v → writable_value v (lent_of v xs) ≡ unwritable
unfolding writable_value bits_writable
barred_cannot xs (too_many {unused} h) = simp (lt-ltb 7 unused h)
barred_cannot xs (of_nothing {unused} {p} h s) =
    let z : length (bytes_in xs p) ≡ 0 = ap (λ (n : ℕ). length (take n (drop p.start xs))) s in
    either (λ (w : Writable). w ≡ unwritable) (ltb 7 unused) (λ e. refl) (λ e. simp (ne_eqb unused 0 (λ q. omega arith), eq-eqb (length (bytes_in xs p)) 0 z))

-- and no others: their part is as long as their bytes
bits_can : {len place : ℕ} {bytes : List ℕ} {b : Bits} (i : IsBits len place bytes b) → (Barred (bit_string b.unused b.part) → ⊥) → bits_writable b.unused i.string ≡ can
bits_can {b = b} i n =
    (bits_exactly b.unused i.string).1 (
      below 7 b.unused (λ h. n (too_many h)),
      λ e. let z = below 0 b.unused (λ h. n (of_nothing h (ap (λ (p : Part). p.size) i.lies ∙ e))) in omega arith,
    )
  where
    below : (most m : ℕ) → (most < m → ⊥) → m ≤ most
    below most m h = omega arith

module _ (xs : List ℕ) where
  -- canonical content is written again under its own tag, each case by its own law
  same_content : {t : Tag} {p : ℕ} {bytes : List ℕ} {v : Value} (c : Content t p bytes v) → Bytes bytes → (rest : List ℕ) → drop p xs ≡ bytes ++ rest → Kept c
      → (tag_under v (lent_of v xs) ≡ t) × (content_under v (lent_of v xs) ≡ bytes)
  same_content (of_boolean i) b rest e k = let a = boolean_again i k in (ap (λ (n : ℕ). tag (application 1) n) a.0, a.1)
  same_content (of_unsigned i) b rest e k = (ap (λ (n : ℕ). tag (application 2) n) (ap length k ∙ i.sized), k)
  same_content (of_signed i) b rest e k = (ap (λ (n : ℕ). tag (application 3) n) (ap length k ∙ i.sized), k)
  same_content (of_real i) b rest e k = (ap (λ (n : ℕ). tag (application 4) n) (sym i.of_length), k)
  same_content (of_double i) b rest e k = (ap (λ (n : ℕ). tag (application 4) n) (sym i.of_length), k)
  same_content (of_octet_string {place = place} {bytes = bytes} i) b rest e k = let a = octets_again xs place bytes rest e i in (ap (λ (n : ℕ). tag (application 6) n) (ap length a ∙ i.sized), a)
  same_content (of_text {place = place} {bytes = bytes} i) b rest e k = let a = text_again xs place bytes rest e i in (ap (λ (n : ℕ). tag (application 7) n) a.1, a.0)
  same_content (of_bit_string {place = place} {bytes = bytes} i) b rest e k = let a = bits_again xs place bytes rest e i in (ap (λ (n : ℕ). tag (application 8) n) a.1, a.0)
  same_content (of_enumerated i) b rest e k = (ap (λ (n : ℕ). tag (application 9) n) (ap length k ∙ i.integer.sized), k)
  same_content (of_date i) b rest e k = let a = date_again i b in (ap (λ (n : ℕ). tag (application 10) n) a.2, a.1)
  same_content (of_time i) b rest e k = let a = time_again i in (ap (λ (n : ℕ). tag (application 11) n) a.1, a.0)
  same_content (of_object_id i) b rest e k = let a = object_id_again i b in (ap (λ (n : ℕ). tag (application 12) n) a.2, a.1)

  -- and content that is written again under its own tag was canonical
  was_canonical : {t : Tag} {p : ℕ} {bytes : List ℕ} {v : Value} (c : Content t p bytes v) → tag_under v (lent_of v xs) ≡ t → content_under v (lent_of v xs) ≡ bytes → Kept c
  was_canonical (of_boolean {b = b} i) e f = subst (λ (n : ℕ). n ≤ 1) (ap (λ (t : Tag). t.value) e) (boolean_small b)
  was_canonical (of_unsigned i) e f = f
  was_canonical (of_signed i) e f = f
  was_canonical (of_real i) e f = f
  was_canonical (of_double i) e f = f
  was_canonical (of_octet_string i) e f = tt
  was_canonical (of_text i) e f = tt
  was_canonical (of_bit_string i) e f = tt
  was_canonical (of_enumerated i) e f = f
  was_canonical (of_date i) e f = tt
  was_canonical (of_time i) e f = tt
  was_canonical (of_object_id i) e f = tt

  -- what was read can be written, but for those bit strings
  can_again : {t : Tag} {p : ℕ} {bytes : List ℕ} {v : Value} (c : Content t p bytes v) → Bytes bytes → (rest : List ℕ) → drop p xs ≡ bytes ++ rest → (Barred v → ⊥) → writable_value v (lent_of v xs) ≡ can
  unfolding writable_value
  can_again (of_boolean i) b rest e n = refl
  can_again (of_unsigned i) b rest e n = refl
  can_again (of_signed i) b rest e n = refl
  can_again (of_real i) b rest e n = refl
  can_again (of_double i) b rest e n = refl
  can_again (of_octet_string i) b rest e n = refl
  can_again (of_text {place = place} {bytes = bytes} i) b rest e n = ap text_writable (text_bytes xs place bytes rest e i) ∙ (text_exactly i.text).1 i.utf8
  can_again (of_bit_string {place = place} {bytes = bytes} {b = s} i) b rest e n = ap (bits_writable s.unused) (bits_bytes xs place bytes rest e i) ∙ bits_can i n
  can_again (of_enumerated i) b rest e n = refl
  can_again (of_date i) b rest e n = (date_again i b).0
  can_again (of_time i) b rest e n = refl
  can_again (of_object_id i) b rest e n = (object_id_again i b).0

  -- its lent bytes are no more than the buffer's
  lent_within : (v : Value) → length (lent_of v xs) ≤ length xs
  lent_within (boolean b) = omega arith
  lent_within (real x) = omega arith
  lent_within (double x) = omega arith
  lent_within (on_date d) = omega arith
  lent_within (at_time t) = omega arith
  lent_within (object_id n i) = omega arith
  lent_within (character_string p) = simp (length-take, length-drop) (omega arith)
  lent_within (octet_string p) = simp (length-take, length-drop) (omega arith)
  lent_within (enumerated x) = omega arith
  lent_within (bit_string u p) = simp (length-take, length-drop) (omega arith)
  lent_within (unsigned_int x) = omega arith
  lent_within (signed_int x) = omega arith

-- what is written again as it stood: no bit string that cannot be written, under the shortest header, of canonical content
pub record Canonical {xs : List ℕ} {place : ℕ} {v : Value} {next : ℕ} (f : ValueAt xs place v next) : Type 0 where
  pub writable : Barred v → ⊥
  pub shortest : f.header ≡ tag_bytes f.found
  pub kept : Kept f.is

-- a write that was accepted: the place after its bytes, and the buffer with them in it
abbrev pub stored : List ℕ → List ℕ → ℕ → Left
stored bytes ys at = left (accepted tt (at + length bytes)) (over ys at bytes)

-- a value that stood at a place, written again at a place of a buffer: a bit string that cannot be written is refused 12;
-- any other is written where there is room; and the bytes written are those that stood there exactly if they were canonical
pub record Again {xs : List ℕ} {place : ℕ} {v : Value} {next : ℕ} (f : ValueAt xs place v next) (ys : List ℕ) (at : ℕ) : Type 0 where
  pub barred : Barred v → value_to v (lent_of v xs) ys at ≡ left (refused 12 (amount 0)) ys
  pub written : (Barred v → ⊥) → at + length (value_bytes v (lent_of v xs)) ≤ length ys → value_to v (lent_of v xs) ys at ≡ stored (value_bytes v (lent_of v xs)) ys at
  pub as_stood : at + length (f.header ++ f.content) ≤ length ys → (value_to v (lent_of v xs) ys at ≡ stored (f.header ++ f.content) ys at) ↔ Canonical f

here : (xs : List ℕ) (place : ℕ) (v : Value) (next : ℕ) (f : ValueAt xs place v next) → drop (place + length f.header) xs ≡ f.content ++ f.rest
here xs place v next f = behind xs place f.header (f.content ++ f.rest) f.here

module _ (xs : List ℕ) (place : ℕ) (v : Value) (next : ℕ) (f : ValueAt xs place v next) (small : length xs ≤ 65535) (only : Bytes f.content) where
  lent_small : length (lent_of v xs) ≤ 65535
  lent_small = omega (arith, lent_within xs v)

  -- where the bytes written for it are those that stood there, its header was the shortest and its content canonical
  own_bytes : value_bytes v (lent_of v xs) ≡ f.header ++ f.content → (f.header ≡ tag_bytes f.found) × Kept f.is
  own_bytes e =
      let u : Tag = tag_under v (lent_of v xs) in
      let o = one_tag f.is_tag (header_is_tag u.number u.value (tag_in_range v (lent_of v xs) lent_small)) f.content (content_under v (lent_of v xs)) (sym e ∙ bytes_are v (lent_of v xs)) in
      (o.same_bytes ∙ ap tag_bytes (sym o.same_tag), was_canonical xs f.is (sym o.same_tag) (sym o.same_rest))

  -- and the other way round
  canonical_own : Canonical f → value_bytes v (lent_of v xs) ≡ f.header ++ f.content
  canonical_own h =
      let s = same_content xs f.is only f.rest (here xs place v next f) h.kept in
      bytes_are v (lent_of v xs) ∙ ap₂ (λ (t : Tag) (l : List ℕ). tag_bytes t ++ l) s.0 s.1 ∙ ap (λ (l : List ℕ). l ++ f.content) (sym h.shortest)

  module _ (ys : List ℕ) (at : ℕ) (little : length ys ≤ 65535) where
    is_written : (Barred v → ⊥) → at + length (value_bytes v (lent_of v xs)) ≤ length ys → value_to v (lent_of v xs) ys at ≡ stored (value_bytes v (lent_of v xs)) ys at
    unfolding value_to
    is_written n room =
        ap (λ (w : Writable). writing (length (lent_of v xs)) w (value_bytes v (lent_of v xs)) ys at) (can_again xs f.is only f.rest (here xs place v next f) n)
        ∙ write_fits (length (lent_of v xs)) (value_bytes v (lent_of v xs)) ys at lent_small little room

    is_refused : at ≤ length ys → Barred v → value_to v (lent_of v xs) ys at ≡ left (refused 12 (amount 0)) ys
    unfolding value_to writing write_answer
    is_refused l h = simp (le-ltb 65535 (length ys) little, le-ltb 65535 (length (lent_of v xs)) lent_small, le-ltb (length ys) at l, barred_cannot xs h)

    was_own : at + length (f.header ++ f.content) ≤ length ys → value_to v (lent_of v xs) ys at ≡ stored (f.header ++ f.content) ys at → Canonical f
    unfolding value_to
    was_own room e =
        let own : List ℕ = f.header ++ f.content in
        let bytes : List ℕ = value_bytes v (lent_of v xs) in
        let w = wrote (length (lent_of v xs)) (writable_value v (lent_of v xs)) bytes ys at (at + length own) (over ys at own) e in
        let c = could_be_written (length (lent_of v xs)) (writable_value v (lent_of v xs)) bytes ys at (at + length own) (over ys at own) e in
        let n : length bytes ≡ length own = omega (arith, w.ends) in
        let d : own ++ drop (at + length own) ys ≡ bytes ++ drop (at + length bytes) ys = sym (written_here own ys at room) ∙ ap (drop at) w.buffer ∙ written_here bytes ys at w.room in
        let s : bytes ≡ own = (same_front bytes (drop (at + length bytes) ys) own (drop (at + length own) ys) n (sym d)).0 in
        let k = own_bytes s in
        record {
          writable = λ h. let z : ◌≡◌ {A = ℕ} 0 1 = cc (barred_cannot xs h, c.writable) in omega arith;
          shortest = k.0;
          kept = k.1;
        }

    again : at ≤ length ys → Again f ys at
    again l = record {
      barred = is_refused l;
      written = is_written;
      as_stood = λ room. (was_own room, λ h. let o = canonical_own h in is_written h.writable (rw o room) ∙ ap (λ (b : List ℕ). stored b ys at) o);
    }

-- whatever `decode` read (by `read_exactly` that is what stood there), `encode` writes again at any place of any buffer as `Again` says
pub written_again : (xs : List ℕ) → Bytes xs → (place : ℕ) (v : Value) (next : ℕ) → value_from xs place ≡ accepted v next → (f : ValueAt xs place v next)
    → (ys : List ℕ) (at : ℕ) → length ys ≤ 65535 → at ≤ length ys → Again f ys at
written_again xs only place v next e f ys at little l =
    let b = subst Bytes (here xs place v next f) (bytes_dropped xs (place + length f.header) only) in
    again xs place v next f ((read_exactly xs place v next).0 e).0 (bytes_before f.content f.rest b) ys at little l
