-- A header's bytes, said and not computed (ASHRAE 135, 20.1, as 01 restates it): which bytes are one whole header, and what each answer of the reader says of a buffer.
-- Assumes nothing.
use Rattle.std.specs.Prelude.{ℕ, suc, ◌+◌, ◌*◌, ◌/◌, ◌%◌, ◌<◌, ◌≤◌, ◌≡◌, true, List, [], ◌∷◌, ◌++◌, length, drop}
use Rattle.types.specs.Refusal.{Carried, amount}
use Rattle.types.specs.Answer.{Answer, accepted, refused}
use Rattle.values.specs.Enumerated.{IsEnumeratedItem, NoEnumerated}
use Rattle.headers.specs.Header.{Kind, Field, two_nibbles, one_number, one_choice, FieldValue, nibbles, number, choice, enumeration, Header, header, row_of}

-- a byte of a row, and what it carries (the first nibble is below 16 wherever the byte is below 256)
pub data Carries : Field → FieldValue → ℕ → Type 0 where
  as_nibbles : {a b byte : ℕ} → b < 16 → byte ≡ a * 16 + b → Carries two_nibbles (nibbles a b) byte
  as_number : {n : ℕ} → Carries one_number (number n) n
  as_choice : {c : ℕ} → c ≤ 33 → Carries one_choice (choice c) c

-- bytes that are a whole row
pub data AreFields : List Field → List FieldValue → List ℕ → Type 0 where
  none : AreFields [] [] []
  more : {f : Field} {fs : List Field} {v : FieldValue} {vs : List FieldValue} {b : ℕ} {bytes : List ℕ} → Carries f v b → AreFields fs vs bytes → AreFields (f ∷ fs) (v ∷ vs) (b ∷ bytes)

-- bytes that break off before a row's end
pub data BreakOff : List Field → List ℕ → Type 0 where
  here : {f : Field} {fs : List Field} → BreakOff (f ∷ fs) []
  later : {f : Field} {fs : List Field} {v : FieldValue} {b : ℕ} {bytes : List ℕ} → Carries f v b → BreakOff fs bytes → BreakOff (f ∷ fs) (b ∷ bytes)

-- bytes of a row up to a service choice above 33
pub data UpToChoiceAbove : List Field → ℕ → List ℕ → Type 0 where
  at : {fs : List Field} {c : ℕ} → 33 < c → UpToChoiceAbove (one_choice ∷ fs) c (c ∷ [])
  after : {f : Field} {fs : List Field} {v : FieldValue} {b c : ℕ} {bytes : List ℕ} → Carries f v b → UpToChoiceAbove fs c bytes → UpToChoiceAbove (f ∷ fs) c (b ∷ bytes)

-- enumerated values under their own tags, so many, and their bytes
pub data AreEnumerations : ℕ → List FieldValue → List ℕ → Type 0 where
  no_more : AreEnumerations 0 [] []
  another : {n x : ℕ} {vs : List FieldValue} {item bytes : List ℕ} → IsEnumeratedItem x item → AreEnumerations n vs bytes → AreEnumerations (suc n) (enumeration x ∷ vs) (item ++ bytes)

-- a control byte of a kind: its high nibble is the type, and where the kind can come in segments, bit 3 is clear
pub record TellsKind (k : Kind) (control : ℕ) : Type 0 where
  pub of_type : control / 16 ≡ (row_of k).pdu_type
  pub unsegmented : (row_of k).segmentable ≡ true → control / 8 % 2 ≡ 0

-- bytes that are one whole header
pub data IsHeader : Header → List ℕ → Type 0 where
  of_row : {k : Kind} {control : ℕ} {vs ws : List FieldValue} {bytes items : List ℕ} → TellsKind k control
      → AreFields (row_of k).follow vs bytes → AreEnumerations (row_of k).enumerations ws items
      → IsHeader (header k ((row_of k).held control ++ (vs ++ ws))) (control ∷ (bytes ++ items))

-- bytes that break off before the last of a header's fixed bytes
pub data Broken : List ℕ → Type 0 where
  empty : Broken []
  in_row : {k : Kind} {control : ℕ} {bytes : List ℕ} → TellsKind k control → BreakOff (row_of k).follow bytes → Broken (control ∷ bytes)

-- a whole header stands at a place, up to the next one
pub record Found (xs : List ℕ) (place : ℕ) (h : Header) (next : ℕ) : Type 0 where
  pub small : length xs ≤ 65535
  pub bytes : List ℕ
  pub rest : List ℕ
  pub here : drop place xs ≡ bytes ++ rest
  pub is_header : IsHeader h bytes
  pub ends : next ≡ place + length bytes

-- a control byte stands at a place that is of no kind: it is carried
pub record OtherType (xs : List ℕ) (place : ℕ) (c : Carried) : Type 0 where
  pub small : length xs ≤ 65535
  pub control : ℕ
  pub rest : List ℕ
  pub here : drop place xs ≡ control ∷ rest
  pub of_none : (k : Kind) → TellsKind k control → ⊥
  pub carries : c ≡ amount control

-- a header begins at a place, with a service choice above 33: it is carried
pub record ChoiceAbove (xs : List ℕ) (place : ℕ) (c : Carried) : Type 0 where
  pub small : length xs ≤ 65535
  pub kind : Kind
  pub control : ℕ
  pub bytes : List ℕ
  pub rest : List ℕ
  pub here : drop place xs ≡ control ∷ (bytes ++ rest)
  pub of_kind : TellsKind kind control
  pub found : ℕ
  pub up_to : UpToChoiceAbove (row_of kind).follow found bytes
  pub carries : c ≡ amount found

-- what stands from a place on breaks off before the last of a header's fixed bytes: the buffer's end is carried
pub record RunsOut (xs : List ℕ) (place : ℕ) (c : Carried) : Type 0 where
  pub small : length xs ≤ 65535
  pub inside : place ≤ length xs
  pub broken : Broken (drop place xs)
  pub carries : c ≡ amount (length xs)

-- a header begins at a place, with all of its fixed bytes and some of its enumerated values; where the next of them is to stand there is none, for this reason, which is carried
pub record NoEnumeration (xs : List ℕ) (place n : ℕ) (c : Carried) : Type 0 where
  pub small : length xs ≤ 65535
  pub kind : Kind
  pub control : ℕ
  pub fields : List FieldValue
  pub values : List FieldValue
  pub bytes : List ℕ
  pub items : List ℕ
  pub rest : List ℕ
  pub here : drop place xs ≡ control ∷ (bytes ++ (items ++ rest))
  pub of_kind : TellsKind kind control
  pub are_fields : AreFields (row_of kind).follow fields bytes
  pub found : ℕ
  pub are_found : AreEnumerations found values items
  pub not_all : found < (row_of kind).enumerations
  pub none : NoEnumerated xs (place + suc (length bytes + length items)) n c

-- what reading at a place is to answer
pub data Answers (xs : List ℕ) (place : ℕ) : Answer Header → Type 0 where
  too_long : 65535 < length xs → Answers xs place (refused 1 (amount (length xs)))
  past_end : length xs ≤ 65535 → length xs < place → Answers xs place (refused 2 (amount place))
  runs_out : {c : Carried} → RunsOut xs place c → Answers xs place (refused 3 c)
  other_type : {c : Carried} → OtherType xs place c → Answers xs place (refused 17 c)
  choice_above : {c : Carried} → ChoiceAbove xs place c → Answers xs place (refused 11 c)
  no_enumeration : {n : ℕ} {c : Carried} → NoEnumeration xs place n c → Answers xs place (refused n c)
  whole : {h : Header} {next : ℕ} → Found xs place h next → Answers xs place (accepted h next)
