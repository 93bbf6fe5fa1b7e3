-- What was read, written again, is the same bytes but for two losses: low bits of the control byte that were ignored, and enumerated values that were not in their shortest form.
-- Assumes nothing.
use mathlib.Core.Path.{◌≡◌, refl, ◌∙◌, ap, ap₂, sym, subst}
use mathlib.Core.Logic.{◌↔◌}
use Prim.Native.Nat.{ℕ, suc, ◌+◌, ◌*◌, ◌/◌, ◌%◌, ◌<◌, ◌≤◌}
use native.Mathlib.Nat.{add-zero}
use native.Mathlib.Omega.{arith}
use mathlib.Core.List.{List, [], ◌∷◌, ◌++◌, append_assoc}
use lib.ListN.{length, get_or, take, drop, set, length-drop, length-append}
use lib.Seq.{get_or-drop}
use Rattle.types.specs.Answer.{accepted}
use Rattle.types.specs.Writing.{Writable, can, left, over, writing}
use Rattle.numbers.specs.Integer.{Bytes}
use Rattle.numbers.proofs.Value.{bytes_dropped, bytes_before, bytes_behind}
use Rattle.numbers.proofs.Found.{behind}
use Rattle.numbers.proofs.Over.{one_replaced}
use Rattle.numbers.proofs.Wrote.{write_fits}
use Rattle.values.specs.Enumerated.{Fewest}
use Rattle.tags.proofs.OneTag.{same_front}
use Rattle.values.proofs.Fewest.{fewest_exactly, one_item}
use Rattle.headers.specs.Header.{Kind, request, simple, complex, segment, error, reject, abort, Field, FieldValue, nibbles, choice, Header, header, row_of, low_nibble}
use Rattle.headers.specs.Reading.{header_from}
use Rattle.headers.specs.Writing.{field_bytes, following_bytes, value_writable, both, writable, header_bytes, header_to}
use Rattle.headers.specs.Bytes.{Carries, as_nibbles, as_number, as_choice, AreFields, none, more, AreEnumerations, no_more, another, TellsKind, IsHeader, of_row}
use Rattle.headers.proofs.Writable.{both_parts, value_exactly}
use Rattle.headers.proofs.Exactly.{read_exactly}
use Rattle.headers.proofs.Back.{low_short, bytes_joined}

-- a control byte with the low nibble that is written for a header
abbrev pub rewritten : Header → ℕ → ℕ
rewritten h control = control / 16 * 16 + low_nibble h.fields

same_byte : {f : Field} {v : FieldValue} {b : ℕ} → Carries f v b → field_bytes v ≡ b ∷ []
same_byte (as_nibbles h e) = ap (λ (n : ℕ). n ∷ []) (sym e)
same_byte as_number = refl
same_byte (as_choice h) = refl

same_fields : {fs : List Field} {vs : List FieldValue} {bytes : List ℕ} → AreFields fs vs bytes → following_bytes vs ≡ bytes
same_fields none = refl
same_fields (more c are) = ap₂ (λ (b bytes : List ℕ). b ++ bytes) (same_byte c) (same_fields are)

-- what a control byte holds takes no bytes behind it, and can be written
held_apart : (k : Kind) (control : ℕ) → (following_bytes ((row_of k).held control) ≡ []) × (writable ((row_of k).held control) ≡ can)
held_apart request control = (refl, refl)
held_apart simple control = (refl, refl)
held_apart complex control = (refl, refl)
held_apart segment control = (refl, refl)
held_apart error control = (refl, refl)
held_apart reject control = (refl, refl)
held_apart abort control = (refl, refl)

-- the bytes of a header are written again as they are, but for the low nibble of the first and the form of its enumerated values
same_bytes : {k : Kind} {control : ℕ} {vs ws : List FieldValue} {bytes items : List ℕ} → TellsKind k control → AreFields (row_of k).follow vs bytes → AreEnumerations (row_of k).enumerations ws items
    → header_bytes (header k ((row_of k).held control ++ (vs ++ ws))) ≡ rewritten (header k ((row_of k).held control ++ (vs ++ ws))) control ∷ (bytes ++ following_bytes ws)
unfolding header_bytes
same_bytes {k} {control} {vs} {ws} {bytes} w are values =
    ap₂ (λ (t : ℕ) (l : List ℕ). (t * 16 + low_nibble ((row_of k).held control ++ (vs ++ ws))) ∷ l) (sym w.of_type)
    (bytes_joined ((row_of k).held control) (vs ++ ws) ∙ ap₂ (λ (a b : List ℕ). a ++ b) (held_apart k control).0 (bytes_joined vs ws ∙ ap (λ (b : List ℕ). b ++ following_bytes ws) (same_fields are)))

-- what bytes carry can be written
value_can : {f : Field} {v : FieldValue} {b : ℕ} → Carries f v b → b < 256 → value_writable v ≡ can
value_can (as_nibbles {a} {b} h e) l = (value_exactly (nibbles a b)).1 (omega arith, omega arith)
value_can as_number l = refl
value_can (as_choice {c} h) l = (value_exactly (choice c)).1 h

all_can : (vs ws : List FieldValue) → writable vs ≡ can → writable ws ≡ can → writable (vs ++ ws) ≡ can
all_can [] ws e f = f
all_can (v ∷ vs) ws e f = let p = both_parts (value_writable v) (writable vs) e in ap₂ both p.0 (all_can vs ws p.1 f)

fields_can : {fs : List Field} {vs : List FieldValue} {bytes : List ℕ} → AreFields fs vs bytes → (rest : List ℕ) → Bytes (bytes ++ rest) → writable vs ≡ can
fields_can none rest l = refl
fields_can (more c are) rest l = ap₂ both (value_can c (l 0)) (fields_can are rest (λ i. l (suc i)))

values_can : {n : ℕ} {vs : List FieldValue} {items : List ℕ} → AreEnumerations n vs items → writable vs ≡ can
values_can no_more = refl
values_can (another i are) = values_can are

-- enumerated values that stood in their shortest forms
abbrev pub AllFewest : {n : ℕ} {vs : List FieldValue} {items : List ℕ} → AreEnumerations n vs items → Type 0
AllFewest no_more = Unit {0}
AllFewest (another {x = x} {item = item} i are) = Fewest x item × AllFewest are

-- they are written again as they stood
fewest_again : {n : ℕ} {vs : List FieldValue} {items : List ℕ} (are : AreEnumerations n vs items) → (rest : List ℕ) → Bytes (items ++ rest) → AllFewest are → following_bytes vs ≡ items
fewest_again no_more rest b few = refl
fewest_again (another {x = x} {item = item} {bytes = items} i are) rest b few =
    let c : Bytes (item ++ (items ++ rest)) = subst Bytes (append_assoc item items rest) b in
    ap₂ (λ (l m : List ℕ). l ++ m) ((fewest_exactly x item (bytes_before item (items ++ rest) c) i).1 few.0) (fewest_again are rest (bytes_behind item (items ++ rest) c) few.1)

-- and no others are
again_fewest : {n : ℕ} {vs : List FieldValue} {items : List ℕ} (are : AreEnumerations n vs items) → (rest : List ℕ) → Bytes (items ++ rest) → length items ≤ 65535 → following_bytes vs ≡ items → AllFewest are
again_fewest no_more rest b l e = tt
again_fewest (another {x = x} {vs = vs} {item = item} {bytes = items} i are) rest b l e =
    let c : Bytes (item ++ (items ++ rest)) = subst Bytes (append_assoc item items rest) b in
    let o = one_item x (following_bytes vs) items i l e in
    ((fewest_exactly x item (bytes_before item (items ++ rest) c) i).0 o.0, again_fewest are rest (bytes_behind item (items ++ rest) c) (omega (arith, length-append item items)) o.1)

-- a header that was read: the bytes that stood there, what writing it at any place of any buffer is, and when that is the bytes that stood there
pub record Again (xs : List ℕ) (place : ℕ) (h : Header) (next : ℕ) : Type 0 where
  pub small : length xs ≤ 65535
  pub control : ℕ
  pub bytes : List ℕ
  pub values : List FieldValue
  pub items : List ℕ
  pub are_values : AreEnumerations (row_of h.kind).enumerations values items
  pub ends : next ≡ place + suc (length (bytes ++ items))
  pub stood : drop place xs ≡ control ∷ ((bytes ++ items) ++ drop next xs)
  pub again : (ys : List ℕ) (at : ℕ) → header_to h ys at ≡ writing 0 can (rewritten h control ∷ (bytes ++ following_bytes values)) ys at
  pub as_stood : (rewritten h control ∷ (bytes ++ following_bytes values) ≡ control ∷ (bytes ++ items)) ↔ ((control % 16 ≡ low_nibble h.fields) × AllFewest are_values)

-- it is the same bytes exactly if no low bit is lost and every enumerated value stood in its shortest form
both_kept : (h : Header) (control : ℕ) (bytes : List ℕ) {n : ℕ} {vs : List FieldValue} {items : List ℕ} (are : AreEnumerations n vs items) (rest : List ℕ) → Bytes (items ++ rest) → length items ≤ 65535
    → (rewritten h control ∷ (bytes ++ following_bytes vs) ≡ control ∷ (bytes ++ items)) ↔ ((control % 16 ≡ low_nibble h.fields) × AllFewest are)
both_kept h control bytes {vs = vs} {items} are rest b l = (
  λ e.
      let low = low_short h.fields in
      let first : rewritten h control ≡ control = ap (λ (l : List ℕ). get_or l 0 0) e in
      let others : bytes ++ following_bytes vs ≡ bytes ++ items = ap (drop 1) e in
      (omega arith, again_fewest are rest b l (same_front bytes (following_bytes vs) bytes items refl others).1),
  λ k.
      let first : rewritten h control ≡ control = let q = k.0 in omega arith in
      ap₂ (λ (c : ℕ) (t : List ℕ). c ∷ (bytes ++ t)) first (fewest_again are rest b k.1),
)

stood_there : {h : Header} {bytes : List ℕ} (xs : List ℕ) (place next : ℕ) (rest : List ℕ) → Bytes xs → length xs ≤ 65535 → drop place xs ≡ bytes ++ rest → next ≡ place + length bytes → IsHeader h bytes → Again xs place h next
unfolding header_to
stood_there xs place next rest only small e n (of_row {k} {control} {vs} {ws} {bytes} {items} w are values) =
    let r : rest ≡ drop next xs = sym (behind xs place (control ∷ (bytes ++ items)) rest e) ∙ ap (λ (m : ℕ). drop m xs) (sym n) in
    let l : Bytes ((control ∷ (bytes ++ items)) ++ rest) = subst Bytes e (bytes_dropped xs place only) in
    let m : Bytes (bytes ++ (items ++ rest)) = subst Bytes (append_assoc bytes items rest) (λ i. l (suc i)) in
    let held : List FieldValue = (row_of k).held control in
    let c : writable (held ++ (vs ++ ws)) ≡ can = all_can held (vs ++ ws) (held_apart k control).1 (all_can vs ws (fields_can are (items ++ rest) m) (values_can values)) in
    let fits : length items ≤ 65535 = omega (arith, length-drop place xs, ap length e, length-append (bytes ++ items) rest, length-append bytes items) in
    record {
      small = small;
      control = control;
      bytes = bytes;
      values = ws;
      items = items;
      are_values = values;
      ends = n;
      stood = e ∙ ap (λ (t : List ℕ). control ∷ ((bytes ++ items) ++ t)) r;
      again = λ ys at. ap₂ (λ (x : Writable) (b : List ℕ). writing 0 x b ys at) c (same_bytes w are values);
      as_stood = both_kept (header k (held ++ (vs ++ ws))) control bytes values rest (bytes_behind bytes (items ++ rest) m) fits;
    }

-- bytes written over themselves, but for the first
first_replaced : (xs : List ℕ) (place b : ℕ) (bytes : List ℕ) → place < length xs → drop (place + 1) xs ≡ bytes ++ drop (place + suc (length bytes)) xs → over xs place (b ∷ bytes) ≡ set xs place b
first_replaced xs place b bytes h e = ap (λ (t : List ℕ). take place xs ++ (b ∷ t)) (sym e) ∙ sym (one_replaced xs place b h)

module _ (xs : List ℕ) (only : Bytes xs) (place next : ℕ) (h : Header) where
  -- whatever `decode` read, `encode` writes anywhere as the bytes that stood there, but for the low nibble of the control byte and the form of its enumerated values
  pub written_again : header_from xs place ≡ accepted h next → Again xs place h next
  written_again e = let f = (read_exactly xs place h next).0 e in stood_there xs place next f.rest only f.small f.here f.ends f.is_header

  -- written where it was read, with every enumerated value in its shortest form, it leaves the whole buffer as it was, but for that nibble
  pub in_place : (e : header_from xs place ≡ accepted h next) → AllFewest (written_again e).are_values → header_to h xs place ≡ left (accepted tt next) (set xs place (rewritten h (get_or xs place 0)))
  in_place e few =
      let a = written_again e in
      let b : ℕ = rewritten h a.control in
      let bytes : List ℕ = a.bytes ++ a.items in
      let stood : Bytes (a.control ∷ (bytes ++ drop next xs)) = subst Bytes a.stood (bytes_dropped xs place only) in
      let own : following_bytes a.values ≡ a.items = fewest_again a.are_values (drop next xs) (bytes_behind a.bytes (a.items ++ drop next xs) (subst Bytes (append_assoc a.bytes a.items (drop next xs)) (λ i. stood (suc i)))) few in
      let sized : length xs ≡ place + suc (length bytes + length (drop next xs)) = omega (arith, length-drop place xs, ap length a.stood, length-append bytes (drop next xs)) in
      let rest : drop (place + 1) xs ≡ bytes ++ drop (place + suc (length bytes)) xs =
      behind xs place (a.control ∷ []) (bytes ++ drop next xs) a.stood ∙ ap (λ (m : ℕ). bytes ++ drop m xs) a.ends in
      let there : get_or xs place 0 ≡ a.control = ap (λ (i : ℕ). get_or xs i 0) (sym (add-zero place)) ∙ sym (get_or-drop place xs 0 0) ∙ ap (λ (l : List ℕ). get_or l 0 0) a.stood in
      a.again xs place
      ∙ ap (λ (l : List ℕ). writing 0 can (b ∷ (a.bytes ++ l)) xs place) own
      ∙ write_fits 0 (b ∷ bytes) xs place (omega arith) a.small (omega arith)
      ∙ ap₂ (λ (m : ℕ) (ys : List ℕ). left (accepted tt m) ys) (sym a.ends) (first_replaced xs place b bytes (omega arith) rest ∙ ap (λ (c : ℕ). set xs place (rewritten h c)) (sym there))
