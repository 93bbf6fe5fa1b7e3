-- Writing a header (ASHRAE 135, 20.1, as 01 restates it): one rule for the bytes of every row.
-- Assumes nothing.
use Rattle.std.specs.Prelude.{ℕ, ◌+◌, ◌*◌, ◌≤◌, List, [], ◌∷◌, ◌++◌, ltb}
use Rattle.types.specs.Choice.{if}
use Rattle.types.specs.Refusal.{amount}
use Rattle.types.specs.Writing.{Left, Writable, can, cannot, unwritable, writing}
use Rattle.values.specs.Enumerated.{enumerated_bytes}
use Rattle.headers.specs.Header.{FieldValue, nibbles, number, choice, flag, enumeration, Header, row_of, low_nibble}

-- the bytes behind the control byte that carry a value: a flag has none
abbrev pub field_bytes : FieldValue → List ℕ
field_bytes (nibbles a b) = (a * 16 + b) ∷ []
field_bytes (number n) = n ∷ []
field_bytes (choice c) = c ∷ []
field_bytes (flag b) = []
field_bytes (enumeration x) = enumerated_bytes x

-- those of several, one behind the other
abbrev pub following_bytes : List FieldValue → List ℕ
following_bytes [] = []
following_bytes (v ∷ vs) = field_bytes v ++ following_bytes vs

-- the control byte and the bytes that follow
unfoldable pub header_bytes : Header → List ℕ
header_bytes h = ((row_of h.kind).pdu_type * 16 + low_nibble h.fields) ∷ following_bytes h.fields

-- whether a value can be carried: a nibble has four bits, a service choice goes to 33
abbrev pub choice_writable : ℕ → Writable
choice_writable c = if (ltb 33 c) (cannot 11 (amount c)) can

abbrev pub value_writable : FieldValue → Writable
value_writable (nibbles a b) = if (ltb 15 a) unwritable (if (ltb 15 b) unwritable can)
value_writable (number n) = can
value_writable (choice c) = choice_writable c
value_writable (flag b) = can
value_writable (enumeration x) = can

-- the same, said and not computed
abbrev pub Carriable : FieldValue → Type 0
Carriable (nibbles a b) = (a ≤ 15) × (b ≤ 15)
Carriable (number n) = Unit {0}
Carriable (choice c) = c ≤ 33
Carriable (flag b) = Unit {0}
Carriable (enumeration x) = Unit {0}

abbrev pub AllCarriable : List FieldValue → Type 0
AllCarriable [] = Unit {0}
AllCarriable (v ∷ vs) = Carriable v × AllCarriable vs

abbrev pub both : Writable → Writable → Writable
both can w = w
both (cannot n c) w = cannot n c

-- the first value that cannot be written says why not: nibbles stand before a choice, so 12 comes before 11
abbrev pub writable : List FieldValue → Writable
writable [] = can
writable (v ∷ vs) = both (value_writable v) (writable vs)

-- what writing a header at a place of a buffer answers and leaves
unfoldable pub header_to : Header → List ℕ → ℕ → Left
header_to h xs place = writing 0 (writable h.fields) (header_bytes h) xs place
