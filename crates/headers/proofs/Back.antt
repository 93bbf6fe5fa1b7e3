-- What is written reads back: every header that can be written, as itself, with the place behind it.
-- Assumes nothing.
use mathlib.Core.Path.{◌≡◌, refl, ◌∙◌, ap, ap₂, sym, subst, subst₂}
use mathlib.Core.Bool.{Bool, true, false}
use Prim.Native.Nat.{ℕ, suc, ◌+◌, ◌*◌, ◌<◌, ◌≤◌}
use native.Mathlib.Omega.{arith}
use mathlib.Core.List.{List, [], ◌∷◌, ◌++◌, map, append_assoc, append-nil}
use lib.Dec.{eqb, lit<}
use lib.ListN.{length, drop, length-append}
use Rattle.types.specs.Answer.{accepted}
use Rattle.types.specs.Writing.{can, left}
use Rattle.types.proofs.Choices.{either}
use Rattle.types.proofs.Accepted.{could_be_written}
use Rattle.numbers.proofs.Wrote.{wrote, written_here, over_length}
use Rattle.numbers.specs.Integer.{unsigned_length}
use Rattle.values.specs.Enumerated.{enumerated_bytes}
use Rattle.values.proofs.EnumeratedItems.{enumerated_item}
use Rattle.values.proofs.Fewest.{enumerated_length, enumerated_between}
use Rattle.headers.specs.Header.{Kind, request, simple, complex, segment, reject, abort, Field, two_nibbles, one_number, one_choice, FieldValue, nibbles, number, choice, flag, enumeration, Header, header, row_of, low_nibble, kinds, header_of}
use Rattle.headers.specs.Reading.{header_from}
use Rattle.headers.specs.Writing.{field_bytes, following_bytes, value_writable, both, writable, header_bytes, header_to}
use Rattle.headers.specs.Bytes.{as_nibbles, as_number, as_choice, AreFields, none, more, AreEnumerations, no_more, another, TellsKind, IsHeader, of_row}
use Rattle.headers.specs.declared.header.Header as program
use Rattle.headers.specs.declared.header.Header.TheVariants as h
use Rattle.headers.proofs.Writable.{both_parts, value_exactly}
use Rattle.headers.proofs.Exactly.{read_exactly}

-- values that the fixed bytes of a row carry
pub data OfFields : List Field → List FieldValue → Type 0 where
  no_fields : OfFields [] []
  of_nibbles : {a b : ℕ} {fs : List Field} {vs : List FieldValue} → OfFields fs vs → OfFields (two_nibbles ∷ fs) (nibbles a b ∷ vs)
  of_number : {n : ℕ} {fs : List Field} {vs : List FieldValue} → OfFields fs vs → OfFields (one_number ∷ fs) (number n ∷ vs)
  of_choice : {c : ℕ} {fs : List Field} {vs : List FieldValue} → OfFields fs vs → OfFields (one_choice ∷ fs) (choice c ∷ vs)

-- enumerated values of 32 bits, so many
pub data OfValues : ℕ → List FieldValue → Type 0 where
  no_values : OfValues 0 []
  of_value : {n x : ℕ} {vs : List FieldValue} → x ≤ 4294967295 → OfValues n vs → OfValues (suc n) (enumeration x ∷ vs)

-- the control byte that is written for a header
abbrev pub control_of : Header → ℕ
control_of h = (row_of h.kind).pdu_type * 16 + low_nibble h.fields

-- a header that carries what its kind's row says
pub record OfTable (h : Header) : Type 0 where
  pub held : List FieldValue
  pub fixed : List FieldValue
  pub values : List FieldValue
  pub parts : h ≡ header h.kind (held ++ (fixed ++ values))
  pub in_control : (row_of h.kind).held (control_of h) ≡ held
  pub no_bytes : following_bytes held ≡ []
  pub of_fields : OfFields (row_of h.kind).follow fixed
  pub of_values : OfValues (row_of h.kind).enumerations values

-- one whose fixed bytes carry all of it
fixed_only : (k : Kind) (vs : List FieldValue) → ((control : ℕ) → (row_of k).held control ≡ []) → OfFields (row_of k).follow vs → (row_of k).enumerations ≡ 0 → OfTable (header k vs)
fixed_only k vs h o n = record {
  held = [];
  fixed = vs;
  values = [];
  parts = ap (header k) (sym (append-nil vs));
  in_control = h (control_of (header k vs));
  no_bytes = refl;
  of_fields = o;
  of_values = subst (λ (m : ℕ). OfValues m []) (sym n) no_values;
}

-- a header that the program can hold: class and code have 32 bits
abbrev pub Wide : program.Header → Type 0
Wide (h.ConfirmedRequest segments size id c) = Unit {0}
Wide (h.SimpleAck id c) = Unit {0}
Wide (h.ComplexAck id c) = Unit {0}
Wide (h.SegmentAck id sequence window) = Unit {0}
Wide (h.ConfirmedBacnetError id c class code) = (class ≤ 4294967295) × (code ≤ 4294967295)
Wide (h.Reject id reason) = Unit {0}
Wide (h.Abort server id reason) = Unit {0}

-- the flag that an abort's control byte holds is the one that is written there
server_held : (server : Bool) (vs : List FieldValue) → (row_of abort).held (control_of (header abort (flag server ∷ vs))) ≡ flag server ∷ []
server_held true vs = refl
server_held false vs = refl

-- each of them does
pub of_table : (x : program.Header) → Wide x → OfTable (header_of x)
of_table (h.ConfirmedRequest segments size id c) w = fixed_only request _ (λ control. refl) (of_nibbles (of_number (of_choice no_fields))) refl
of_table (h.SimpleAck id c) w = fixed_only simple _ (λ control. refl) (of_number (of_choice no_fields)) refl
of_table (h.ComplexAck id c) w = fixed_only complex _ (λ control. refl) (of_number (of_choice no_fields)) refl
of_table (h.SegmentAck id sequence window) w = fixed_only segment _ (λ control. refl) (of_number (of_number (of_number no_fields))) refl
of_table (h.ConfirmedBacnetError id c class code) w = record {
  held = [];
  fixed = number id ∷ choice c ∷ [];
  values = enumeration class ∷ enumeration code ∷ [];
  parts = refl;
  in_control = refl;
  no_bytes = refl;
  of_fields = of_number (of_choice no_fields);
  of_values = of_value w.0 (of_value w.1 no_values);
}
of_table (h.Reject id reason) w = fixed_only reject _ (λ control. refl) (of_number (of_number no_fields)) refl
of_table (h.Abort server id reason) w = record {
  held = flag server ∷ [];
  fixed = number id ∷ number reason ∷ [];
  values = [];
  parts = refl;
  in_control = server_held server (number id ∷ number reason ∷ []);
  no_bytes = refl;
  of_fields = of_number (of_number no_fields);
  of_values = no_values;
}

-- a header without enumerated values is its control byte and its row's bytes, and 13 carries their number: 4, 3, 3, 4, and 3 of a reject and of an abort
pub header_length : (x : program.Header) → (row_of (header_of x).kind).enumerations ≡ 0 → length (header_bytes (header_of x)) ≡ suc (length (row_of (header_of x).kind).follow)
unfolding header_bytes
header_length (h.ConfirmedRequest segments size id c) e = refl
header_length (h.SimpleAck id c) e = refl
header_length (h.ComplexAck id c) e = refl
header_length (h.SegmentAck id sequence window) e = refl
header_length (h.ConfirmedBacnetError id c class code) e = absurd (omega arith)
header_length (h.Reject id reason) e = refl
header_length (h.Abort server id reason) e = refl

pub lengths : map (λ (k : Kind). suc (length (row_of k).follow)) kinds ≡ 4 ∷ 3 ∷ 3 ∷ 4 ∷ 3 ∷ 3 ∷ 3 ∷ []
lengths = refl

-- that of an error has class and code besides, each in a byte more than the fewest that hold it: 7 to 13 bytes
pub error_length : (id c class code : ℕ) → class ≤ 4294967295 → code ≤ 4294967295 → length (header_bytes (header_of (h.ConfirmedBacnetError id c class code))) ≡ 5 + unsigned_length class + unsigned_length code
unfolding header_bytes
error_length id c class code a b =
    omega (arith, length-append (enumerated_bytes class) (enumerated_bytes code ++ []), length-append (enumerated_bytes code) [], enumerated_length class a, enumerated_length code b)

pub error_between : (id c class code : ℕ) → class ≤ 4294967295 → code ≤ 4294967295
    → (7 ≤ length (header_bytes (header_of (h.ConfirmedBacnetError id c class code)))) × (length (header_bytes (header_of (h.ConfirmedBacnetError id c class code))) ≤ 13)
error_between id c class code a b = omega (arith, error_length id c class code a b, enumerated_length class a, enumerated_length code b, enumerated_between class a, enumerated_between code b)

-- the low nibble that is written has bit 3 clear
pub low_short : (vs : List FieldValue) → low_nibble vs < 8
low_short [] = lit< tt
low_short (nibbles segments size ∷ vs) = either (λ n. n < 8) (eqb segments 0) (λ e. lit< tt) (λ e. lit< tt)
low_short (number n ∷ vs) = lit< tt
low_short (choice c ∷ vs) = lit< tt
low_short (flag true ∷ vs) = lit< tt
low_short (flag false ∷ vs) = lit< tt
low_short (enumeration x ∷ vs) = lit< tt

-- the bytes of values joined are theirs joined, and where all can be written each part can
pub bytes_joined : (vs ws : List FieldValue) → following_bytes (vs ++ ws) ≡ following_bytes vs ++ following_bytes ws
bytes_joined [] ws = refl
bytes_joined (v ∷ vs) ws = ap (λ (l : List ℕ). field_bytes v ++ l) (bytes_joined vs ws) ∙ sym (append_assoc (field_bytes v) (following_bytes vs) (following_bytes ws))

both_writable : (vs ws : List FieldValue) → writable (vs ++ ws) ≡ can → (writable vs ≡ can) × (writable ws ≡ can)
both_writable [] ws e = (refl, e)
both_writable (v ∷ vs) ws e =
    let p = both_parts (value_writable v) (writable (vs ++ ws)) e in
    let q = both_writable vs ws p.1 in
    (ap₂ both p.0 q.0, q.1)

-- what can be written is carried by the bytes that are written
fields_carried : {fs : List Field} {vs : List FieldValue} → OfFields fs vs → writable vs ≡ can → AreFields fs vs (following_bytes vs)
fields_carried no_fields e = none
fields_carried (of_nibbles {a} {b} {vs = vs} o) e =
    let p = both_parts (value_writable (nibbles a b)) (writable vs) e in
    let n = (value_exactly (nibbles a b)).0 p.0 in
    more (as_nibbles {b = b} (omega arith) refl) (fields_carried o p.1)
fields_carried (of_number o) e = more as_number (fields_carried o e)
fields_carried (of_choice {c} {vs = vs} o) e = let p = both_parts (value_writable (choice c)) (writable vs) e in more (as_choice ((value_exactly (choice c)).0 p.0)) (fields_carried o p.1)

values_carried : {n : ℕ} {vs : List FieldValue} → OfValues n vs → AreEnumerations n vs (following_bytes vs)
values_carried no_values = no_more
values_carried (of_value {x = x} h o) = another (enumerated_item x h) (values_carried o)

-- the bytes that are written for a header are that header
pub written_is_header : (h : Header) → OfTable h → writable h.fields ≡ can → IsHeader h (header_bytes h)
unfolding header_bytes
written_is_header h t w =
    let l : low_nibble h.fields < 8 = low_short h.fields in
    let control : ℕ = control_of h in
    let tells : TellsKind h.kind control = record { of_type = omega arith; unsegmented = λ e. omega arith } in
    let all : h.fields ≡ t.held ++ (t.fixed ++ t.values) = ap (λ (x : Header). x.fields) t.parts in
    let can-be = both_writable t.held (t.fixed ++ t.values) (ap writable (sym all) ∙ w) in
    let fields = fields_carried t.of_fields (both_writable t.fixed t.values can-be.1).0 in
    let same : header h.kind ((row_of h.kind).held control ++ (t.fixed ++ t.values)) ≡ h = ap (λ (vs : List FieldValue). header h.kind (vs ++ (t.fixed ++ t.values))) t.in_control ∙ sym t.parts in
    let bytes : following_bytes t.fixed ++ following_bytes t.values ≡ following_bytes h.fields =
    sym (bytes_joined t.fixed t.values) ∙ ap (λ (b : List ℕ). b ++ following_bytes (t.fixed ++ t.values)) (sym t.no_bytes) ∙ sym (bytes_joined t.held (t.fixed ++ t.values)) ∙ ap following_bytes (sym all) in
    subst₂ IsHeader same (ap (λ (b : List ℕ). control ∷ b) bytes) (of_row tells fields (values_carried t.of_values))

-- so whatever was written of the table reads back
written_reads : (h : Header) → OfTable h → (xs : List ℕ) (place next : ℕ) (ys : List ℕ) → header_to h xs place ≡ left (accepted tt next) ys → header_from ys place ≡ accepted h next
unfolding header_to
written_reads h t xs place next ys e =
    let bytes : List ℕ = header_bytes h in
    let w = wrote 0 (writable h.fields) bytes xs place next ys e in
    let s : length ys ≤ 65535 = omega (arith, ap length w.buffer, over_length bytes xs place w.room, w.small) in
    (read_exactly ys place h next).1 (record {
      small = s;
      bytes = bytes;
      rest = drop (place + length bytes) xs;
      here = ap (drop place) w.buffer ∙ written_here bytes xs place w.room;
      is_header = written_is_header h t (could_be_written 0 (writable h.fields) bytes xs place next ys e).writable;
      ends = w.ends;
    })

-- whatever `encode` writes, `decode` reads as the same header, with the place that `encode` answered
pub round_trip : (x : program.Header) → Wide x → (xs : List ℕ) (place next : ℕ) (ys : List ℕ) → header_to (header_of x) xs place ≡ left (accepted tt next) ys → header_from ys place ≡ accepted (header_of x) next
round_trip x w = written_reads (header_of x) (of_table x w)
