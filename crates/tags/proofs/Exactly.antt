-- A tag is read exactly where its bytes stand: the executable and the declarative definition agree, for every byte list.
-- Assumes nothing.
use mathlib.Core.Path.{◌≡◌, refl, ◌∙◌, ap, sym, subst, subst₂}
use Prim.Native.Nat.{ℕ, suc, ◌+◌, ◌-◌, ◌<◌, ◌≤◌}
use native.Mathlib.Nat.{add-zero}
use native.Mathlib.Omega.{arith}
use mathlib.Core.Bool.{Bool, true, false}
use mathlib.Core.List.{List, [], ◌∷◌, ◌++◌, append_assoc, append-nil}
use lib.Dec.{ltb, eqb}
use lib.ListN.{length, drop, length-append, length-drop}
use lib.Seq.{drop_at}
use borrow.Author.Tests.{lt-ltb, le-ltb, ltb-true, ltb-false, eq-eqb, ne_eqb, eqb-true, eqb-false}
use Rattle.types.specs.Tag.{Number, application, context, opening, closing, Tag, tag}
use Rattle.types.specs.Choice.{if}
use Rattle.types.specs.Answer.{Answer, accepted, refused, then}
use Rattle.types.proofs.Choices.{either, read_on}
use Rattle.numbers.specs.Integer.{unsigned_value}
use Rattle.numbers.specs.Reading.{byte_from, fixed_from}
use Rattle.numbers.proofs.Found.{ByteFound, byte_found, byte_at, fixed_found, fixed_at, behind}
use Rattle.tags.specs.Reading.{number_told, context_number, number_from, tag_value_from, tag_after, tag_from}
use Rattle.tags.specs.Header.{class_bit, number_field, low_bits, TellsValue, inline, one, two, four, none, TellsNumber, in_field, in_second, IsTag, of_application, of_context, of_opening, of_closing}
use Rattle.tags.specs.Writing.{Valueless}
use Rattle.tags.specs.Held.{FieldWide}

-- bytes of a tag that were read from a place on: they tell what they should, and end inside the buffer
record Told (tells : List ℕ → Type 0) (xs : List ℕ) (place next : ℕ) : Type 0 where
  bytes : List ℕ
  told : tells bytes
  here : drop place xs ≡ bytes ++ drop next xs
  ends : next ≡ place + length bytes
  inside : next ≤ length xs

-- no bytes at all
told_by_none : {tells : List ℕ → Type 0} (xs : List ℕ) (place : ℕ) → tells [] → place ≤ length xs → Told tells xs place place
told_by_none xs place t l = record { bytes = []; told = t; here = refl; ends = omega arith; inside = l }

-- one byte
told_by_one : {tells : List ℕ → Type 0} {xs : List ℕ} {place b next : ℕ} → ByteFound xs place b next → tells (b ∷ []) → Told tells xs place next
told_by_one {b = b} f t = record { bytes = b ∷ []; told = t; here = f.here; ends = f.ends; inside = omega (arith, f.ends, f.inside) }

-- a value that was read
abbrev ValueFound : ℕ → List ℕ → (place v next : ℕ) → Type 0
ValueFound low xs place v next = Told (TellsValue low v) xs place next

abbrev ValueOr : ℕ → List ℕ → ℕ → Answer ℕ → Type 0
ValueOr low xs place (accepted v next) = ValueFound low xs place v next
ValueOr low xs place (refused n c) = Unit {0}

-- a marker, and as many bytes as it says
module _ (xs : List ℕ) (place next marker n : ℕ) (f : ByteFound xs place marker next) (tells : (bytes : List ℕ) → length bytes ≡ n → TellsValue 5 (unsigned_value bytes) (marker ∷ bytes)) where
  marked : (a : Answer ℕ) → fixed_from n xs next ≡ a → ValueOr 5 xs place a
  marked (accepted v after) e =
      let g = fixed_found n xs next v after e in
      record {
        bytes = marker ∷ g.bytes;
        told = subst (λ (x : ℕ). TellsValue 5 x (marker ∷ g.bytes)) (sym g.stands) (tells g.bytes g.sized);
        here = f.here ∙ ap (λ (t : List ℕ). marker ∷ t) g.here;
        ends = omega (arith, f.ends, g.ends, g.sized);
        inside = g.inside;
      }
  marked (refused k c) e = tt

long_found : (xs : List ℕ) (place : ℕ) → ValueOr 5 xs place (then (byte_from xs place) (λ b next. if (eqb b 254) (fixed_from 2 xs next) (if (eqb b 255) (fixed_from 4 xs next) (accepted b next))))
long_found xs place =
    read_on (ValueOr 5 xs place) (byte_from xs place)
    (λ b next e.
    let f = byte_found xs place b next e in
    either (ValueOr 5 xs place) (eqb b 254)
    (λ g. let i : b ≡ 254 = eqb-true b 254 g in marked xs place next 254 2 (subst (λ (x : ℕ). ByteFound xs place x next) i f) two (fixed_from 2 xs next) refl)
    (λ g. either (ValueOr 5 xs place) (eqb b 255)
    (λ h. let i : b ≡ 255 = eqb-true b 255 h in marked xs place next 255 4 (subst (λ (x : ℕ). ByteFound xs place x next) i f) four (fixed_from 4 xs next) refl)
    (λ h. told_by_one f (one (eqb-false b 254 g) (eqb-false b 255 h)))))
    (λ n c e. tt)

value_found : (low : ℕ) (xs : List ℕ) (place : ℕ) → place ≤ length xs → ValueOr low xs place (tag_value_from low xs place)
unfolding tag_value_from
value_found low xs place l =
    either (ValueOr low xs place) (ltb low 5)
    (λ e. told_by_none xs place (inline (ltb-true low 5 e)) l)
    (λ e. either (ValueOr low xs place) (eqb low 5)
    (λ f. subst (λ (x : ℕ). ValueOr x xs place (then (byte_from xs place) (λ b next. if (eqb b 254) (fixed_from 2 xs next) (if (eqb b 255) (fixed_from 4 xs next) (accepted b next))))) (sym (eqb-true low 5 f)) (long_found xs place))
    (λ f. let g : low ≡ 5 → ⊥ = eqb-false low 5 f in told_by_none xs place (none (omega (arith, ltb-false low 5 e))) l))

module _ (first : ℕ) (xs : List ℕ) (place : ℕ) where
  -- a number of application class is the field of a byte
  pub field_wide : (n next : ℕ) → number_told first xs place ≡ accepted n next → first < 256 → FieldWide first n
  field_wide n next t h e =
      let z : accepted (number_field first) place ≡ accepted n next = simp (eq-eqb _ _ e) at t in
      let k : number_field first ≡ n = cc in
      omega arith

-- the class and number that a first byte tells, with where they end
data NumberFound (first : ℕ) (xs : List ℕ) (place : ℕ) : Number → ℕ → Type 0 where
  is_application : class_bit first ≡ 0 → NumberFound first xs place (application (number_field first)) place
  is_context : {n next : ℕ} → class_bit first ≡ 1 → Told (TellsNumber (number_field first) n) xs place next → NumberFound first xs place (context_number (low_bits first) n) next

abbrev NumberOr : ℕ → List ℕ → ℕ → Answer Number → Type 0
NumberOr first xs place (accepted n next) = NumberFound first xs place n next
NumberOr first xs place (refused k c) = Unit {0}

number_found : (first : ℕ) (xs : List ℕ) (place : ℕ) → place ≤ length xs → NumberOr first xs place (number_from first xs place)
unfolding number_from
number_found first xs place l = go (eqb (class_bit first) 0) refl
  where
    go : (b : Bool) → eqb (class_bit first) 0 ≡ b
        → NumberOr first xs place (then (if b (accepted (number_field first) place) (if (ltb (number_field first) 15) (accepted (number_field first) place) (byte_from xs place))) (λ n next. accepted (if b (application n) (context_number (low_bits first) n)) next))
    go true e = is_application (eqb-true _ _ e)
    go false e =
        let g : class_bit first ≡ 0 → ⊥ = eqb-false _ _ e in
        let c : class_bit first ≡ 1 = omega arith in
        field (ltb (number_field first) 15) refl c
      where
        field : (b : Bool) → ltb (number_field first) 15 ≡ b → class_bit first ≡ 1
            → NumberOr first xs place (then (if b (accepted (number_field first) place) (byte_from xs place)) (λ n next. accepted (context_number (low_bits first) n) next))
        field true f c = is_context c (told_by_none xs place (in_field (ltb-true _ _ f)) l)
        field false f c = read_on (NumberOr first xs place) (byte_from xs place) (λ n next h. is_context c (told_by_one (byte_found xs place n next h) (in_second (ltb-false _ _ f)))) (λ k d h. tt)

-- a number takes one byte more at the most, inside the buffer
number_length : {field n : ℕ} {bytes : List ℕ} → TellsNumber field n bytes → length bytes ≤ 1
number_length (in_field m) = omega arith
number_length (in_second m) = omega arith

number_within : {first : ℕ} {xs : List ℕ} {place : ℕ} {n : Number} {next : ℕ} → NumberFound first xs place n next → place ≤ length xs → (next ≤ place + 1) × (next ≤ length xs)
number_within (is_application c) l = omega arith
number_within (is_context c m) l = (omega (arith, m.ends, number_length m.told), m.inside)

pub number_ends : (first : ℕ) (xs : List ℕ) (place : ℕ) (n : Number) (next : ℕ) → number_from first xs place ≡ accepted n next → place ≤ length xs → (next ≤ place + 1) × (next ≤ length xs)
number_ends first xs place n next e l = number_within (subst (NumberOr first xs place) e (number_found first xs place l)) l

-- low bits above 5 tell 0, with no bytes
none_told : {low v : ℕ} {bytes : List ℕ} → TellsValue low v bytes → 5 < low → (v ≡ 0) × (bytes ≡ [])
none_told (inline h) l = absurd (omega arith)
none_told (one h k) l = absurd (omega arith)
none_told (two bytes h) l = absurd (omega arith)
none_told (four bytes h) l = absurd (omega arith)
none_told (none h) l = (refl, refl)

-- what is told of a number and a value in context class is one tag, by the low bits
module _ {first n v : ℕ} {number bytes : List ℕ} (c : class_bit first ≡ 1) (m : TellsNumber (number_field first) n number) (w : TellsValue (low_bits first) v bytes) where
  block_told : (k : Number) → 5 < low_bits first → IsTag (tag k 0) (first ∷ number) → IsTag (tag k v) (first ∷ (number ++ bytes))
  block_told k l i =
      let z = none_told w l in
      subst₂ (λ (x : ℕ) (bs : List ℕ). IsTag (tag k x) (first ∷ bs)) (sym z.0) (sym (ap (λ (bs : List ℕ). number ++ bs) z.1 ∙ append-nil number)) i

  context_told : IsTag (tag (context_number (low_bits first) n) v) (first ∷ (number ++ bytes))
  context_told =
      either (λ (k : Number). IsTag (tag k v) (first ∷ (number ++ bytes))) (eqb (low_bits first) 6)
      (λ e. let h : low_bits first ≡ 6 = eqb-true _ _ e in block_told (opening n) (omega arith) (of_opening c m h)) (λ e.
      either (λ (k : Number). IsTag (tag k v) (first ∷ (number ++ bytes))) (eqb (low_bits first) 7)
      (λ f. let h : low_bits first ≡ 7 = eqb-true _ _ f in block_told (closing n) (omega arith) (of_closing c m h)) (λ f.
      let h6 : low_bits first ≡ 6 → ⊥ = eqb-false _ _ e in
      let h7 : low_bits first ≡ 7 → ⊥ = eqb-false _ _ f in
      of_context c m (omega arith) w))

-- a tag that was read: its bytes stand at the place, and end inside the buffer
pub record TagFound (xs : List ℕ) (place : ℕ) (t : Tag) (next : ℕ) : Type 0 where
  pub bytes : List ℕ
  pub is_tag : IsTag t bytes
  pub here : drop place xs ≡ bytes ++ drop next xs
  pub ends : next ≡ place + length bytes
  pub inside : next ≤ length xs
  pub small : length xs ≤ 65535

abbrev TagOr : List ℕ → ℕ → Answer Tag → Type 0
TagOr xs place (accepted t next) = TagFound xs place t next
TagOr xs place (refused n c) = Unit {0}

module _ (first : ℕ) (xs : List ℕ) (place p : ℕ) (f : ByteFound xs place first p) where
  -- the first byte, the number's and the value's
  joined : (n : Number) (after v next : ℕ) → NumberFound first xs p n after → ValueFound (low_bits first) xs after v next → TagFound xs place (tag n v) next
  joined _ _ v next (is_application c) w = record {
    bytes = first ∷ w.bytes;
    is_tag = of_application c w.told;
    here = f.here ∙ ap (λ (l : List ℕ). first ∷ l) w.here;
    ends = omega (arith, f.ends, w.ends);
    inside = w.inside;
    small = f.small;
  }
  joined _ _ v next (is_context c m) w = record {
    bytes = first ∷ (m.bytes ++ w.bytes);
    is_tag = context_told c m.told w.told;
    here = f.here ∙ ap (λ (l : List ℕ). first ∷ l) (m.here ∙ ap (λ (l : List ℕ). m.bytes ++ l) w.here ∙ sym (append_assoc m.bytes w.bytes (drop next xs)));
    ends = omega (arith, f.ends, m.ends, w.ends, length-append m.bytes w.bytes);
    inside = w.inside;
    small = f.small;
  }

  after_found : TagOr xs place (tag_after first xs p)
  unfolding tag_after
  after_found =
      read_on (TagOr xs place) (number_from first xs p)
      (λ n after e.
      let l : p ≤ length xs = omega (arith, f.inside, f.ends) in
      let m : NumberFound first xs p n after = subst (NumberOr first xs p) e (number_found first xs p l) in
      read_on (TagOr xs place) (tag_value_from (low_bits first) xs after)
      (λ v next g. joined n after v next m (subst (ValueOr (low_bits first) xs after) g (value_found (low_bits first) xs after (number_within m l).1)))
      (λ k c g. tt))
      (λ k c e. tt)

-- what was read stands there
pub tag_found_lem : (xs : List ℕ) (place : ℕ) (t : Tag) (next : ℕ) → tag_from xs place ≡ accepted t next → TagFound xs place t next
unfolding tag_from
tag_found_lem xs place t next e =
    subst (TagOr xs place) e
    (read_on (TagOr xs place) (byte_from xs place) (λ first p g. after_found first xs place p (byte_found xs place first p g)) (λ n c g. tt))

module _ (xs : List ℕ) (small : length xs ≤ 65535) where
  -- a value's bytes are read as the value
  value_read : {low v : ℕ} {bytes : List ℕ} → TellsValue low v bytes → (place : ℕ) (rest : List ℕ) → place ≤ length xs → drop place xs ≡ bytes ++ rest → tag_value_from low xs place ≡ accepted v (place + length bytes)
  unfolding tag_value_from
  value_read (inline {low} h) place rest l e = simp (lt-ltb low 5 h, add-zero)
  value_read (one {b} h k) place rest l e = simp (byte_at xs place b rest small e, ne_eqb b 254 h, ne_eqb b 255 k)
  value_read (two bytes h) place rest l e =
      let d : drop (place + 1) xs ≡ bytes ++ rest = behind xs place (254 ∷ []) (bytes ++ rest) e in
      let g : place + 1 ≤ length xs = omega (arith, length-drop place xs, ap length e) in
      let r : fixed_from 2 xs (place + 1) ≡ accepted (unsigned_value bytes) (place + 1 + 2) = rw h at (fixed_at xs (place + 1) bytes rest small g d) in
      let n : place + 1 + 2 ≡ place + suc (length bytes) = omega arith in
      simp (byte_at xs place 254 (bytes ++ rest) small e, r, n)
  value_read (four bytes h) place rest l e =
      let d : drop (place + 1) xs ≡ bytes ++ rest = behind xs place (255 ∷ []) (bytes ++ rest) e in
      let g : place + 1 ≤ length xs = omega (arith, length-drop place xs, ap length e) in
      let r : fixed_from 4 xs (place + 1) ≡ accepted (unsigned_value bytes) (place + 1 + 4) = rw h at (fixed_at xs (place + 1) bytes rest small g d) in
      let n : place + 1 + 4 ≡ place + suc (length bytes) = omega arith in
      simp (byte_at xs place 255 (bytes ++ rest) small e, r, n)
  value_read (none {low} h) place rest l e = simp (le-ltb low 5 (omega arith), ne_eqb low 5 (omega arith), add-zero)

  -- the rest of a tag, where its number is read and its value's bytes follow
  after_read : (first p after v : ℕ) (n : Number) (bytes rest : List ℕ) → number_from first xs p ≡ accepted n after → TellsValue (low_bits first) v bytes → after ≤ length xs → drop after xs ≡ bytes ++ rest
      → tag_after first xs p ≡ accepted (tag n v) (after + length bytes)
  unfolding tag_after
  after_read first p after v n bytes rest e w l d = simp (e, value_read w after rest l d)

  first_read : (first place : ℕ) (rest : List ℕ) → drop place xs ≡ first ∷ rest → tag_from xs place ≡ tag_after first xs (place + 1)
  unfolding tag_from
  first_read first place rest e = simp (byte_at xs place first rest small e)

  -- what a first byte tells, class by class
  number_application : (first p : ℕ) → class_bit first ≡ 0 → number_from first xs p ≡ accepted (application (number_field first)) p
  unfolding number_from
  number_application first p c = simp (eq-eqb _ _ c)

  number_context : (first p : ℕ) {n : ℕ} {number : List ℕ} → class_bit first ≡ 1 → TellsNumber (number_field first) n number → (rest : List ℕ) → drop p xs ≡ number ++ rest
      → number_from first xs p ≡ accepted (context_number (low_bits first) n) (p + length number)
  unfolding number_from
  number_context first p c (in_field m) rest e = simp (c, lt-ltb _ _ m, add-zero)
  number_context first p c (in_second {n = n} m) rest e = simp (c, le-ltb _ _ m, byte_at xs p n rest small e)

  -- a first byte, the bytes of its number and those of its value
  parts_read : (first place v : ℕ) (k : Number) (number bytes rest : List ℕ) → ((p : ℕ) → drop p xs ≡ number ++ (bytes ++ rest) → number_from first xs p ≡ accepted k (p + length number))
      → TellsValue (low_bits first) v bytes → drop place xs ≡ first ∷ (number ++ (bytes ++ rest)) → tag_from xs place ≡ accepted (tag k v) (place + suc (length number + length bytes))
  parts_read first place v k number bytes rest number_is w e =
      let e₂ : drop (place + 1) xs ≡ number ++ (bytes ++ rest) = behind xs place (first ∷ []) (number ++ (bytes ++ rest)) e in
      let l : place + 1 + length number ≤ length xs = omega (arith, length-drop place xs, ap length e, length-append number (bytes ++ rest)) in
      first_read first place (number ++ (bytes ++ rest)) e
      ∙ after_read first (place + 1) (place + 1 + length number) v k bytes rest (number_is (place + 1) e₂) w l (behind xs (place + 1) number (bytes ++ rest) e₂)
      ∙ ap (accepted (tag k v)) (let z : place + 1 + length number + length bytes ≡ place + suc (length number + length bytes) = omega arith in z)

  -- in context class, where the low bits say which kind of tag it is
  context_read : (first place : ℕ) {n v : ℕ} {number bytes : List ℕ} → class_bit first ≡ 1 → TellsNumber (number_field first) n number → TellsValue (low_bits first) v bytes
      → (k : Number) → context_number (low_bits first) n ≡ k → (rest : List ℕ) → drop place xs ≡ first ∷ (number ++ (bytes ++ rest)) → tag_from xs place ≡ accepted (tag k v) (place + suc (length number + length bytes))
  context_read first place {n} {v} {number} {bytes} c m w k is rest e =
      parts_read first place v k number bytes rest (λ p d. number_context first p c m (bytes ++ rest) d ∙ ap (λ (x : Number). accepted x (p + length number)) is) w e

  -- what stands there is read
  pub tag_read : (place : ℕ) (t : Tag) (bytes rest : List ℕ) → drop place xs ≡ bytes ++ rest → IsTag t bytes → tag_from xs place ≡ accepted t (place + length bytes)
  tag_read place _ _ rest e (of_application {first} {v} {bytes} c w) =
      parts_read first place v _ [] bytes rest (λ p d. number_application first p c ∙ ap (accepted (application (number_field first))) (sym (add-zero p))) w e
      ∙ ap (accepted (tag (application (number_field first)) v)) (let z : place + suc (0 + length bytes) ≡ place + suc (length bytes) = omega arith in z)
  tag_read place _ _ rest e (of_context {first} {n} {v} {number} {bytes} c m h w) =
      context_read first place c m w (context n) (simp (ne_eqb (low_bits first) 6 (omega arith), ne_eqb (low_bits first) 7 (omega arith))) rest (e ∙ ap (λ (l : List ℕ). first ∷ l) (append_assoc number bytes rest))
      ∙ ap (λ (j : ℕ). accepted (tag (context n) v) (place + suc j)) (sym (length-append number bytes))
  tag_read place _ _ rest e (of_opening {first} {n} {number} c m h) =
      context_read first place c m (none (omega arith)) (opening n) (simp h) rest e ∙ ap (λ (j : ℕ). accepted (tag (opening n) 0) (place + suc j)) (add-zero (length number))
  tag_read place _ _ rest e (of_closing {first} {n} {number} c m h) =
      context_read first place c m (none (omega arith)) (closing n) (simp h) rest e ∙ ap (λ (j : ℕ). accepted (tag (closing n) 0) (place + suc j)) (add-zero (length number))

-- a tag has one to seven bytes
told_length : {low v : ℕ} {bytes : List ℕ} → TellsValue low v bytes → length bytes ≤ 5
told_length (inline h) = omega arith
told_length (one h k) = omega arith
told_length (two bytes h) = omega arith
told_length (four bytes h) = omega arith
told_length (none h) = omega arith

pub tag_length : {t : Tag} {bytes : List ℕ} → IsTag t bytes → (1 ≤ length bytes) × (length bytes ≤ 7)
tag_length (of_application c w) = omega (arith, told_length w)
tag_length (of_context {number = number} {bytes} c m h w) = omega (arith, number_length m, told_length w, length-append number bytes)
tag_length (of_opening c m h) = omega (arith, number_length m)
tag_length (of_closing c m h) = omega (arith, number_length m)

-- a tag that was read ends after its place, inside the buffer, at most seven bytes on
pub moves_on : (xs : List ℕ) (place : ℕ) (t : Tag) (next : ℕ) → tag_from xs place ≡ accepted t next → (place < next) × (next ≤ place + 7) × (next ≤ length xs)
moves_on xs place t next e =
    let f = tag_found_lem xs place t next e in
    let l = tag_length f.is_tag in
    (omega (arith, f.ends), omega (arith, f.ends), f.inside)

-- a tag is read from its own bytes alone: the same bytes elsewhere, with anything around them, are read as the same tag
pub same_elsewhere : (xs : List ℕ) (place : ℕ) (t : Tag) (next : ℕ) (e : tag_from xs place ≡ accepted t next) (before rest : List ℕ) → length (before ++ ((tag_found_lem xs place t next e).bytes ++ rest)) ≤ 65535
    → tag_from (before ++ ((tag_found_lem xs place t next e).bytes ++ rest)) (length before) ≡ accepted t (length before + (next - place))
same_elsewhere xs place t next e before rest small =
    let f = tag_found_lem xs place t next e in
    tag_read (before ++ (f.bytes ++ rest)) small (length before) t f.bytes rest (drop_at before (f.bytes ++ rest) (length before) refl) f.is_tag
    ∙ ap (accepted t) (let z : length before + length f.bytes ≡ length before + (next - place) = omega (arith, f.ends) in z)

-- an opening and a closing that bytes carry have the value 0
pub block_has_no_value : {t : Tag} {bytes : List ℕ} → IsTag t bytes → Valueless t.number t.value
block_has_no_value (of_application c w) = tt
block_has_no_value (of_context c m h w) = tt
block_has_no_value (of_opening c m h) = refl
block_has_no_value (of_closing c m h) = refl
