-- A value is written exactly if there is room and it is one of those that can be written.
-- Assumes nothing.
use mathlib.Core.Logic.{◌↔◌}
use Prim.Native.Nat.{ℕ}
use mathlib.Core.List.{List}
use lib.ListN.{length}
use Rattle.types.specs.Writing.{writing}
use Rattle.types.specs.Acceptable.{Acceptable, IsAccepted}
use Rattle.types.proofs.Accepted.{accepted_exactly}
use Rattle.values.specs.Value.{Value}
use Rattle.values.specs.Writing.{value_bytes, Writes, writable_value, value_to}
use Rattle.values.proofs.Fits.{writable_exactly}

-- `encode`: once 1, 2, 12 and 10 are past, it is accepted exactly if there is room
pub value_accepted : (v : Value) (lent xs : List ℕ) (place : ℕ) → IsAccepted (value_to v lent xs place).answer ↔ Acceptable (length lent) (Writes v lent) (length (value_bytes v lent)) xs place
unfolding value_to writing
value_accepted v lent xs place = accepted_exactly (length lent) (writable_value v lent) (length (value_bytes v lent)) xs place (writable_exactly v lent) (value_bytes v lent)
