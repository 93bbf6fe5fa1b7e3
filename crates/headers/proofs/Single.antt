-- No two kinds, no two headers and no two answers of the reader are the same on paper, so each promise admits a single one.
-- Assumes nothing.
use mathlib.Core.Path.{◌≡◌, refl}
use Prim.Native.Nat.{ℕ}
use mathlib.Core.Bool.{true, false}
use lib.Dec.{eqb}
use lib.ListN.{get_or}
use Rattle.std.specs.declared.result.Result.{Result}
use Rattle.types.proofs.Single.{told_apart, single_by}
use Rattle.types.specs.declared.refusal.Refusal.{Refusal}
use Rattle.headers.specs.Header.{Kind, request, simple, complex, segment, error, reject, abort, Header, header_of, kind_of, field_numbers}
use Rattle.headers.specs.Reading.{paper_header}
use Rattle.headers.specs.declared.header.Header as program
use Rattle.headers.specs.declared.header.Header.TheVariants as h
use Rattle.headers.specs.declared.kind.Kind as kind
use Rattle.headers.specs.declared.kind.Kind.TheVariants as k

abbrev program_kind : Kind → kind.Kind
program_kind request = k.Request
program_kind simple = k.Simple
program_kind complex = k.Complex
program_kind segment = k.Segment
program_kind error = k.Error
program_kind reject = k.Reject
program_kind abort = k.Abort

kind_back : (x : kind.Kind) → program_kind (kind_of x) ≡ x
kind_back k.Request = refl
kind_back k.Simple = refl
kind_back k.Complex = refl
kind_back k.Segment = refl
kind_back k.Error = refl
kind_back k.Reject = refl
kind_back k.Abort = refl

-- no two kinds are the same on paper
pub single_kind : (x y : kind.Kind) → kind_of x ≡ kind_of y → x ≡ y
single_kind = told_apart kind_of program_kind kind_back

-- the header of a kind and the numbers of its fields, of which a kind may have fewer than four
abbrev pub of_fields : Kind → (first second third fourth : ℕ) → program.Header
of_fields request a b c d = h.ConfirmedRequest a b c d
of_fields simple a b c d = h.SimpleAck a b
of_fields complex a b c d = h.ComplexAck a b
of_fields segment a b c d = h.SegmentAck a b c
of_fields error a b c d = h.ConfirmedBacnetError a b c d
of_fields reject a b c d = h.Reject a b
of_fields abort a b c d = h.Abort (eqb a 1) b c

abbrev pub program_header : Header → program.Header
program_header x =
    let ns = field_numbers x.fields in of_fields x.kind (get_or ns 0 0) (get_or ns 1 0) (get_or ns 2 0) (get_or ns 3 0)

pub header_back_lem : (x : program.Header) → program_header (header_of x) ≡ x
header_back_lem (h.ConfirmedRequest segments size id c) = refl
header_back_lem (h.SimpleAck id c) = refl
header_back_lem (h.ComplexAck id c) = refl
header_back_lem (h.SegmentAck id sequence window) = refl
header_back_lem (h.ConfirmedBacnetError id c class code) = refl
header_back_lem (h.Reject id reason) = refl
header_back_lem (h.Abort true id reason) = refl
header_back_lem (h.Abort false id reason) = refl

-- no two headers are the same on paper
pub single_header : (x y : program.Header) → header_of x ≡ header_of y → x ≡ y
single_header = told_apart header_of program_header header_back_lem

-- no two answers of the reader are
pub single_header_read : (x y : Result (program.Header × ℕ) Refusal) → paper_header x ≡ paper_header y → x ≡ y
single_header_read = single_by header_of program_header header_back_lem
