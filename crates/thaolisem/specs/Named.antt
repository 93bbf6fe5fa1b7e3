-- What the numbers of a writer name, and the write of what they name; where they name nothing, 12.
-- Assumes nothing.
use Rattle.std.specs.Prelude.{◌≡◌, ℕ, Bool, true, false, List, [], ◌∷◌, ltb, leb, eqb, Some, None}
use Rattle.std.specs.Prelude as program
use Rattle.std.proofs.Math.Option.{Option, none, some}
use Rattle.types.specs.Choice.{if}
use Rattle.types.specs.Tag.{Number, application, context, opening, closing, tag, number_of}
use Rattle.types.specs.Writing.{Left, unwritable, writing}
use Rattle.tags.specs.Writing.{tag_to}
use Rattle.tags.specs.Item.{item_to, number_under, boolean_byte}
use Rattle.types.specs.declared.tag.TagNumber.{TagNumber}

-- the write of what is named; where nothing is, 12, after 01's tests of the buffer, the lent content and the place
abbrev pub named_to : {A : Type 0} → (lent : ℕ) → Option A → (A → List ℕ → ℕ → Left) → List ℕ → (place : ℕ) → Left
named_to lent (some a) to xs place = to a xs place
named_to lent none to xs place = writing lent unwritable [] xs place

-- what is named where a number is at most so large
abbrev pub if_at_most : {A : Type 0} → (most number : ℕ) → Option A → Option A
if_at_most most x named = if (ltb most x) none named

-- whether four numbers fit a byte each
abbrev pub fit_bytes : (first second third fourth : ℕ) → Bool
fit_bytes a b c d = if (ltb 255 a) false (if (ltb 255 b) false (if (ltb 255 c) false (leb d 255)))

-- an application tag's number goes to 15
abbrev pub application_named : ℕ → Option Number
application_named k = if_at_most 15 k (some (application k))

-- a tag's class, 1 application, 2 context, 3 opening, 4 closing, and its number
abbrev pub number_named : (class number : ℕ) → Option Number
number_named class k =
    if (eqb class 1) (application_named k)
    (if (eqb class 2) (some (context k))
    (if (eqb class 3) (some (opening k))
    (if (eqb class 4) (some (closing k))
    none)))

abbrev pub tag_named_to : (class number value : ℕ) → List ℕ → (place : ℕ) → Left
tag_named_to class k value xs place = named_to 0 (number_named class k) (λ x. tag_to (tag x value)) xs place

-- what an integer is written under: 1 the application tag of its kind, 2 a context tag
abbrev pub under_named : (kind class number : ℕ) → Option Number
under_named kind class k =
    if (eqb class 1) (some (application kind))
    (if (eqb class 2) (some (context k))
    none)

abbrev pub integer_named_to : (kind class number : ℕ) → (content : List ℕ) → List ℕ → (place : ℕ) → Left
integer_named_to kind class k content xs place = named_to 0 (under_named kind class k) (λ x. item_to x content) xs place

-- a boolean: 0 or 1
abbrev pub boolean_named : ℕ → Option Bool
boolean_named b = if (eqb b 0) (some false) (if (eqb b 1) (some true) none)

abbrev pub boolean_named_to : (number boolean : ℕ) → List ℕ → (place : ℕ) → Left
boolean_named_to k b xs place = named_to 0 (boolean_named b) (λ x. item_to (context k) (boolean_byte x ∷ [])) xs place

-- what the program names, on paper, by the map of what it names
abbrev pub paper_named_by : {A B : Type 0} → (A → B) → program.Option A → Option B
paper_named_by f (Some x) = some (f x)
paper_named_by f None = none

abbrev pub paper_number_named : program.Option TagNumber → Option Number
paper_number_named = paper_named_by number_of

abbrev pub paper_boolean_named : program.Option Bool → Option Bool
paper_boolean_named = paper_named_by (λ b. b)

abbrev pub paper_under : ℕ → program.Option (program.Option ℕ) → Option Number
paper_under kind = paper_named_by (number_under kind)

-- that it is what class and number name for integers of every kind
abbrev pub NamesUnder : program.Option (program.Option ℕ) → ℕ → ℕ → Type 0
NamesUnder x class k = (kind : ℕ) → paper_under kind x ≡ under_named kind class k
