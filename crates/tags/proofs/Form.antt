-- A tag is written in its form: in the fewest bytes that stand for it, and in no others.
-- Assumes nothing.
use mathlib.Core.Path.{◌≡◌, refl, ◌∙◌, ap, ap₂, sym, subst}
use mathlib.Core.Logic.{inl, inr, ◌↔◌}
use Prim.Native.Nat.{ℕ, zero, suc, ◌+◌, ◌*◌, ◌<◌, ◌≤◌}
use native.Mathlib.Omega.{arith}
use mathlib.Core.List.{List, [], ◌∷◌, ◌++◌, append-nil}
use lib.Dec.{lit<}
use lib.ListN.{length, length-append}
use borrow.Author.Tests.{lt-ltb, le-ltb}
use Rattle.types.specs.Tag.{Number, application, context, opening, closing, Tag, tag}
use Rattle.numbers.specs.Integer.{low_bytes, unsigned_value, Bytes}
use Rattle.numbers.proofs.Value.{value_lt}
use Rattle.numbers.proofs.Low.{low_bytes_are_bytes, low_bytes_of_value}
use Rattle.tags.specs.Header.{class_bit, number_field, low_bits, TellsValue, inline, one, two, four, none, TellsNumber, in_field, in_second, IsTag, of_application, of_context, of_opening, of_closing}
use Rattle.tags.specs.Writing.{low_bits_for, tag_value_bytes, context_bytes, number_bytes, tag_bytes}
use Rattle.tags.specs.Form.{StandsFor, zero_low, first_low, Form}
use Rattle.tags.proofs.Range.{InRange, number_range, in_range}
use Rattle.tags.proofs.Held.{context_short}
use Rattle.tags.proofs.BySize.{split, to_four, from_five, low_lt, few, alone, in_two, in_four, most_one, most_three, most_five}
use Rattle.tags.proofs.Back.{header_is_tag}
use Rattle.tags.proofs.Blocks.{Forms, told_forms}

two_below : (bytes : List ℕ) → length bytes ≡ 2 → Bytes (254 ∷ bytes) → unsigned_value bytes < 65536
two_below bytes h b = rw h at (value_lt bytes (λ i. b (suc i)))

-- no fewer bytes tell a value
value_least : {low v : ℕ} {bytes : List ℕ} → TellsValue low v bytes → Bytes bytes → length (tag_value_bytes v) ≤ length bytes
value_least (inline {low} h) b = omega (arith, ap length (few low h))
value_least (one {b} h k) below = most_one b (omega (arith, below 0))
value_least (two bytes h) b = omega (arith, most_three (unsigned_value bytes) (two_below bytes h b))
value_least (four bytes h) b = omega (arith, most_five (unsigned_value bytes))
value_least (none h) b = omega arith

-- and no others as few, nor other low bits but for 0
record ValueForm (low v : ℕ) (bytes : List ℕ) : Type 0 where
  same : bytes ≡ tag_value_bytes v
  low_same : 0 < v → low ≡ low_bits_for v

value_only : {low v : ℕ} {bytes : List ℕ} → TellsValue low v bytes → Bytes bytes → length bytes ≡ length (tag_value_bytes v) → ValueForm low v bytes
value_only (inline {low} h) b l = record { same = sym (few low h); low_same = λ z. to_four low h }
value_only (one {b} h k) below l =
    split b 5 (λ m. absurd (omega (arith, ap length (few b m))))
    (λ m. record { same = sym (alone b m (omega (arith, below 0))); low_same = λ z. from_five b m })
value_only (two bytes h) b l =
    let v : ℕ = unsigned_value bytes in
    let e : 254 ∷ bytes ≡ 254 ∷ low_bytes 2 v = ap (λ (bs : List ℕ). 254 ∷ bs) (sym (rw h at (low_bytes_of_value bytes (λ i. b (suc i))))) in
    split v 254 (λ m. absurd (omega (arith, most_one v m)))
    (λ m. record { same = e ∙ sym (in_two v m (two_below bytes h b)); low_same = λ z. from_five v (omega arith) })
value_only (four bytes h) b l =
    let v : ℕ = unsigned_value bytes in
    let e : 255 ∷ bytes ≡ 255 ∷ low_bytes 4 v = ap (λ (bs : List ℕ). 255 ∷ bs) (sym (rw h at (low_bytes_of_value bytes (λ i. b (suc i))))) in
    split v 65536 (λ m. absurd (omega (arith, most_three v m)))
    (λ m. record { same = e ∙ sym (in_four v m); low_same = λ z. from_five v (omega arith) })
value_only (none h) b l = record { same = refl; low_same = λ z. absurd (omega arith) }

-- a first byte is its number field, its class and its low bits
first_is : (first : ℕ) → first ≡ number_field first * 16 + class_bit first * 8 + low_bits first
first_is first = omega arith

-- the low bits of other bytes are those that are written, where the value is above 0 or they are the ones of 0
low_is : (v low : ℕ) → (0 < v → low ≡ low_bits_for v) → (v ≡ 0 → low ≡ 0) → low ≡ low_bits_for v
low_is v low f g = split 0 v f (λ h. let z : v ≡ 0 = omega arith in g z ∙ ap low_bits_for (sym z))

-- no fewer bytes tell a context number
number_least : {field n : ℕ} {number : List ℕ} → TellsNumber field n number → (low : ℕ) → length (context_bytes n low) ≤ suc (length number)
number_least (in_field {field} m) low = simp (lt-ltb field 15 m) (omega arith)
number_least (in_second {n = n} m) low = omega (arith, context_short n low)

-- and no others as few
number_only : (first : ℕ) {n : ℕ} {number : List ℕ} → class_bit first ≡ 1 → TellsNumber (number_field first) n number → first < 256 → (low : ℕ) → low_bits first ≡ low → suc (length number) ≡ length (context_bytes n low) → first ∷ number ≡ context_bytes n low
number_only first {n} {number} c m h low k l = by (told_forms first low c m k h)
  where
    by : Forms low n (first ∷ number) → first ∷ number ≡ context_bytes n low
    by (inl (j, e)) = simp (lt-ltb n 15 j) e
    by (inr e) = split n 15 (λ j. absurd (omega (arith, ap length e, simp (lt-ltb n 15 j) at l))) (λ j. simp (le-ltb n 15 j) e)

-- no fewer bytes stand for a tag
least : {t : Tag} {other : List ℕ} → IsTag t other → Bytes other → length (number_bytes t.number t.value) ≤ length other
least (of_application c w) b = omega (arith, value_least w (λ i. b (suc i)))
least (of_context {n = n} {v} {number} {bytes} c m h w) b =
    omega (arith, number_least m (low_bits_for v), value_least w (number_range m bytes b).1, length-append (context_bytes n (low_bits_for v)) (tag_value_bytes v), length-append number bytes)
least (of_opening c m h) b = number_least m 6
least (of_closing c m h) b = number_least m 7

-- and no others as few
only : {t : Tag} {other : List ℕ} → IsTag t other → Bytes other → length other ≡ length (number_bytes t.number t.value) → (t.value ≡ 0 → first_low other ≡ zero_low t.number) → other ≡ number_bytes t.number t.value
only (of_application {first} {v} c w) b l z =
    let f = value_only w (λ i. b (suc i)) (omega arith) in
    let k : low_bits first ≡ low_bits_for v = low_is v (low_bits first) f.low_same z in
    ap₂ ◌∷◌ (let e : first ≡ number_field first * 16 + low_bits_for v = omega (arith, first_is first) in e) f.same
only (of_context {first} {n} {v} {number} {bytes} c m h w) b l z =
    let r = (number_range m bytes b).1 in
    let p = number_least m (low_bits_for v) in
    let q = value_least w r in
    let s = length-append (context_bytes n (low_bits_for v)) (tag_value_bytes v) in
    let t = length-append number bytes in
    let f = value_only w r (omega arith) in
    ap₂ ◌++◌ (number_only first c m (b 0) (low_bits_for v) (low_is v (low_bits first) f.low_same z) (omega arith)) f.same
only (of_opening {first} c m h) b l z = number_only first c m (b 0) 6 h l
only (of_closing {first} c m h) b l z = number_only first c m (b 0) 7 h l

-- a value of 0 is told by the low bits of 0
zero_low_lem : (n : Number) → first_low (number_bytes n 0) ≡ zero_low n
zero_low_lem (application n) = omega arith
zero_low_lem (context n) = split n 15 (λ h. simp (lt-ltb n 15 h) (omega arith)) (λ h. simp (le-ltb n 15 h))
zero_low_lem (opening n) = split n 15 (λ h. simp (lt-ltb n 15 h) (omega arith)) (λ h. simp (le-ltb n 15 h))
zero_low_lem (closing n) = split n 15 (λ h. simp (lt-ltb n 15 h) (omega arith)) (λ h. simp (le-ltb n 15 h))

-- all that is written is below 256
pub also : (b : ℕ) (bs : List ℕ) → b < 256 → Bytes bs → Bytes (b ∷ bs)
also b bs h k zero = h
also b bs h k (suc i) = k i

value_below : (v : ℕ) → Bytes (tag_value_bytes v)
value_below v =
    split v 5 (λ h. rw (few v h) (λ i. lit< tt)) (λ h.
    split v 254 (λ k. rw (alone v h k) (also v [] (omega arith) (λ i. lit< tt))) (λ k.
    split v 65536 (λ l. rw (in_two v k l) (also 254 (low_bytes 2 v) (lit< tt) (low_bytes_are_bytes 2 v)))
    (λ l. rw (in_four v l) (also 255 (low_bytes 4 v) (lit< tt) (low_bytes_are_bytes 4 v)))))

context_below : (n low : ℕ) (bs : List ℕ) → n < 256 → low < 8 → Bytes bs → Bytes (context_bytes n low ++ bs)
context_below n low bs h k b =
    split n 15 (λ l. simp (lt-ltb n 15 l) (also (n * 16 + 8 + low) bs (omega arith) b))
    (λ l. simp (le-ltb n 15 l) (also (248 + low) (n ∷ bs) (omega arith) (also n bs h b)))

number_below : (n : Number) (v : ℕ) → InRange n v → Bytes (number_bytes n v)
number_below (application n) v r = also (n * 16 + low_bits_for v) (tag_value_bytes v) (omega (arith, low_lt v)) (value_below v)
number_below (context n) v r = context_below n (low_bits_for v) (tag_value_bytes v) r.0 (omega (arith, low_lt v)) (value_below v)
number_below (opening n) v r = rw append-nil at (context_below n 6 [] r.0 (lit< tt) (λ i. lit< tt))
number_below (closing n) v r = rw append-nil at (context_below n 7 [] r.0 (lit< tt) (λ i. lit< tt))

-- the bytes that are written for a tag have its form
pub written_form : (n : Number) (v : ℕ) → InRange n v → Form (tag n v) (tag_bytes (tag n v))
unfolding tag_bytes
written_form n v r = record {
  stands = record { whole = header_is_tag n v r; below = number_below n v r };
  least = λ other s. least s.whole s.below;
  only = λ other s l z. only s.whole s.below l z;
  zero = λ e. subst (λ (x : ℕ). first_low (number_bytes n x) ≡ zero_low n) (sym e) (zero_low_lem n);
}

-- and no other bytes have it
pub one_form : {t : Tag} {a b : List ℕ} → Form t a → Form t b → a ≡ b
one_form {t} {a} {b} f g = g.only a f.stands (let l = f.least b g.stands in let k = g.least a f.stands in omega arith) f.zero

-- bytes that stand for a tag are written again for it exactly if they have its form: an opening of 3 that stood as `FE 03` is written `3E`
pub written_again : {t : Tag} {bytes : List ℕ} → StandsFor t bytes → (tag_bytes t ≡ bytes) ↔ Form t bytes
written_again {t} {bytes} s =
    let f = written_form t.number t.value (in_range s.whole s.below) in
    (λ e. subst (Form t) e f, λ g. one_form f g)
