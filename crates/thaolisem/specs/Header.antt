-- The header that a PDU type and its fields, in their order, name; a field that the type has not is not read, and one too large for its place names nothing.
-- Assumes nothing.
use Rattle.std.specs.Prelude as named
use Rattle.std.specs.Prelude.{ℕ, List, [], ◌∷◌, eqb}
use Rattle.std.proofs.Math.Option.{Option, none, some}
use Rattle.types.specs.Choice.{if}
use Rattle.types.specs.Writing.{Left}
use Rattle.headers.specs.Header.{Header, header, request, simple, complex, segment, error, reject, abort, nibbles, number, choice, flag, enumeration, header_of}
use Rattle.headers.specs.Writing.{header_to}
use Rattle.headers.specs.declared.header.Header as program
use Rattle.thaolisem.specs.Named.{if_at_most, fit_bytes, named_to, paper_named_by}

abbrev pub request_named : (segments size id service : ℕ) → Option Header
request_named s m i c = if (fit_bytes s m i c) (some (header request (nibbles s m ∷ number i ∷ choice c ∷ []))) none

abbrev pub segment_named : (id sequence window : ℕ) → Option Header
segment_named i s w = if (fit_bytes i s w 0) (some (header segment (number i ∷ number s ∷ number w ∷ []))) none

-- a simple acknowledgement is of type 2, a complex one of type 3
abbrev pub acknowledgement_named : (kind id service : ℕ) → Option Header
acknowledgement_named kind i c =
    if (fit_bytes i c 0 0)
    (if (eqb kind 2) (some (header simple (number i ∷ choice c ∷ [])))
    (if (eqb kind 3) (some (header complex (number i ∷ choice c ∷ [])))
    none))
    none

-- a class and a code have 32 bits
abbrev pub error_named : (id service class code : ℕ) → Option Header
error_named i c class code =
    if_at_most 4294967295 class
    (if_at_most 4294967295 code
    (if (fit_bytes i c 0 0) (some (header error (number i ∷ choice c ∷ enumeration class ∷ enumeration code ∷ []))) none))

abbrev pub reject_named : (id reason : ℕ) → Option Header
reject_named i r = if (fit_bytes i r 0 0) (some (header reject (number i ∷ number r ∷ []))) none

-- a server flag is 0 or 1
abbrev pub abort_named : (server id reason : ℕ) → Option Header
abort_named s i r = if_at_most 1 s (if (fit_bytes i r 0 0) (some (header abort (flag (eqb s 1) ∷ number i ∷ number r ∷ []))) none)

abbrev pub header_named : (kind first second third fourth : ℕ) → Option Header
header_named kind a b c d =
    if (eqb kind 0) (request_named a b c d)
    (if (eqb kind 4) (segment_named a b c)
    (if (eqb kind 5) (error_named a b c d)
    (if (eqb kind 6) (reject_named a b)
    (if (eqb kind 7) (abort_named a b c)
    (acknowledgement_named kind a b)))))

-- what writing it at a place of a buffer answers and leaves
abbrev pub header_named_to : (kind first second third fourth : ℕ) → List ℕ → (place : ℕ) → Left
header_named_to kind a b c d xs place = named_to 0 (header_named kind a b c d) header_to xs place

-- the header that the program names
abbrev pub paper_header_named : named.Option program.Header → Option Header
paper_header_named = paper_named_by header_of
