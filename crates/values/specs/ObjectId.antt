-- Object identifiers (ASHRAE 135, 20.2.14): ten bits of type, 22 of instance.
-- Assumes nothing.
use Rattle.std.specs.Prelude.{ℕ, ◌+◌, ◌*◌, ◌/◌, ◌%◌, ◌<◌, ◌≤◌, ◌≡◌, List, ltb, eqb, length}
use Rattle.types.specs.Choice.{if}
use Rattle.types.specs.Refusal.{amount}
use Rattle.types.specs.Answer.{Answer, accepted, refused, then}
use Rattle.types.specs.Writing.{Writable, can, unwritable}
use Rattle.numbers.specs.Integer.{low_bytes, unsigned_value}
use Rattle.numbers.specs.Reading.{fixed_from}
use Rattle.values.specs.declared.object_id.ObjectId as program

pub record ObjectId : Type 0 where
  pub type : ℕ
  pub instance : ℕ

abbrev pub identifier : (type instance : ℕ) → ObjectId
identifier t i = record { type = t; instance = i }

abbrev pub id_of : program.ObjectId → ObjectId
id_of o = identifier o.object_type o.instance

-- of another length than 4 it is refused 7, before any byte is read
unfoldable pub object_id_under : ℕ → List ℕ → ℕ → Answer ObjectId
object_id_under len xs place =
    if (eqb len 4)
    (then (fixed_from 4 xs place) (λ n next. accepted (identifier (n / 4194304) (n % 4194304)) next))
    (refused 7 (amount len))

-- the same, said and not computed: content of this length is this identifier
pub record IsObjectId (len : ℕ) (bytes : List ℕ) (o : ObjectId) : Type 0 where
  pub of_length : len ≡ 4
  pub sized : length bytes ≡ 4
  pub stands : unsigned_value bytes ≡ o.type * 4194304 + o.instance
  pub below : o.instance < 4194304

-- the bytes that are written for it
abbrev pub object_id_bytes : ObjectId → List ℕ
object_id_bytes o = low_bytes 4 (o.type * 4194304 + o.instance)

-- a type of ten bits, an instance of 22
unfoldable pub object_id_writable : ObjectId → Writable
object_id_writable o = if (ltb 1023 o.type) unwritable (if (ltb 4194303 o.instance) unwritable can)

abbrev pub ObjectIdWrites : ObjectId → Type 0
ObjectIdWrites o = (o.type ≤ 1023) × (o.instance ≤ 4194303)
