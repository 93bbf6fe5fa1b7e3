-- Object identifiers: what is read stands there and the other way round, which can be written, what is written reads back, and what was read is written again as it stood.
-- Assumes nothing.
use mathlib.Core.Path.{◌≡◌, refl, ◌∙◌, ap, ap₂, sym, subst}
use mathlib.Core.Logic.{◌↔◌}
use Prim.Native.Nat.{ℕ, ◌+◌, ◌*◌, ◌/◌, ◌%◌, ◌^◌, ◌<◌, ◌≤◌}
use native.Mathlib.Omega.{arith}
use mathlib.Core.List.{List, ◌++◌}
use lib.Dec.{ltb, eqb}
use lib.ListN.{length, drop}
use borrow.Author.Tests.{eq-eqb, eqb-true}
use Rattle.types.specs.Choice.{if}
use Rattle.types.specs.Refusal.{amount}
use Rattle.types.specs.Answer.{accepted}
use Rattle.types.specs.Writing.{can, unwritable}
use Rattle.types.proofs.Choices.{either, read_on}
use Rattle.types.proofs.Accepted.{limit_exactly}
use Rattle.numbers.specs.Integer.{low_bytes, unsigned_value, Bytes}
use Rattle.numbers.specs.Reading.{fixed_from}
use Rattle.numbers.proofs.Found.{fixed_found, fixed_at}
use Rattle.numbers.proofs.Value.{value_lt}
use Rattle.numbers.proofs.Low.{low_bytes_stand, low_bytes_of_value}
use Rattle.values.specs.ObjectId.{ObjectId, id_of, identifier, object_id_under, IsObjectId, object_id_bytes, object_id_writable, ObjectIdWrites}
use Rattle.values.specs.declared.object_id.ObjectId as program
use Rattle.values.proofs.Standing.{StoodOr}

pub object_id_or : (len : ℕ) (xs : List ℕ) (place : ℕ) → StoodOr (λ (p : ℕ). IsObjectId len) xs place (object_id_under len xs place)
unfolding object_id_under
object_id_or len xs place =
    either (StoodOr (λ (p : ℕ). IsObjectId len) xs place) (eqb len 4)
    (λ e. read_on (StoodOr (λ (p : ℕ). IsObjectId len) xs place) (fixed_from 4 xs place)
    (λ n next g.
    let w = fixed_found 4 xs place n next g in
    let s : n ≡ n / 4194304 * 4194304 + n % 4194304 = omega arith in
    let b : n % 4194304 < 4194304 = omega arith in
    record {
      bytes = w.bytes;
      is = record { of_length = eqb-true len 4 e; sized = w.sized; stands = sym w.stands ∙ s; below = b };
      here = w.here;
      ends = omega (arith, w.ends, w.sized);
    })
    (λ n c g. tt))
    (λ e. tt)

-- a number is one type and one instance
module _ (n type instance : ℕ) (e : n ≡ type * 4194304 + instance) (h : instance < 4194304) where
  type_of : n / 4194304 ≡ type
  type_of = omega arith

  instance_of : n % 4194304 ≡ instance
  instance_of = omega arith

pub object_id_read : (xs : List ℕ) (place : ℕ) (bytes rest : List ℕ) → length xs ≤ 65535 → place ≤ length xs → drop place xs ≡ bytes ++ rest → {len : ℕ} {o : ObjectId} → IsObjectId len bytes o
    → object_id_under len xs place ≡ accepted o (place + length bytes)
unfolding object_id_under
object_id_read xs place bytes rest small l e {len} {o} i =
    let n : ℕ = unsigned_value bytes in
    let w : fixed_from 4 xs place ≡ accepted n (place + length bytes) = subst (λ (k : ℕ). fixed_from k xs place ≡ accepted n (place + length bytes)) i.sized (fixed_at xs place bytes rest small l e) in
    simp (eq-eqb len 4 i.of_length, w) (ap₂ (λ (t j : ℕ). accepted (identifier t j) (place + length bytes)) (type_of n o.type o.instance i.stands i.below) (instance_of n o.type o.instance i.stands i.below))

pub object_id_exactly : (o : ObjectId) → (object_id_writable o ≡ can) ↔ ObjectIdWrites o
unfolding object_id_writable
object_id_exactly o =
    let f = limit_exactly 1023 o.type 12 (amount 0) (if (ltb 4194303 o.instance) unwritable can) in
    let g = limit_exactly 4194303 o.instance 12 (amount 0) can in
    (λ e. let p = f.0 e in (p.0, (g.0 p.1).0), λ h. f.1 (h.0, g.1 (h.1, refl)))

pub object_id_is : (o : ObjectId) → object_id_writable o ≡ can → IsObjectId 4 (object_id_bytes o) o
object_id_is o w =
    let f = (object_id_exactly o).0 w in
    let k : ℕ = o.type * 4194304 + o.instance in
    let l : k < 256 ^ 4 = omega arith in
    let b : o.instance < 4194304 = omega arith in
    record { of_length = refl; sized = refl; stands = low_bytes_stand 4 k l; below = b }

pub object_id_again : {len : ℕ} {bytes : List ℕ} {o : ObjectId} → IsObjectId len bytes o → Bytes bytes → (object_id_writable o ≡ can) × (object_id_bytes o ≡ bytes) × (4 ≡ len)
object_id_again {bytes = bytes} {o = o} i b =
    let l : unsigned_value bytes < 256 ^ 4 = rw i.sized at (value_lt bytes b) in
    let s = i.stands in
    let c = i.below in
    let t : o.type ≤ 1023 = omega arith in
    let j : o.instance ≤ 4194303 = omega arith in
    ((object_id_exactly o).1 (t, j), ap (low_bytes 4) (sym s) ∙ (rw i.sized at (low_bytes_of_value bytes b)), sym i.of_length)

-- no two identifiers of the program are the same on paper
abbrev pub program_id : ObjectId → program.ObjectId
program_id o = record { object_type = o.type; instance = o.instance }

pub id_back : (x : program.ObjectId) → program_id (id_of x) ≡ x
id_back x = refl
