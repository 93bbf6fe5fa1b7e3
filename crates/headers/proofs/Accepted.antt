-- A header is written exactly if there is room, its nibbles have four bits and its service choice goes to 33.
-- Assumes nothing.
use mathlib.Core.Logic.{◌↔◌}
use Prim.Native.Nat.{ℕ}
use mathlib.Core.List.{List}
use lib.ListN.{length}
use Rattle.types.specs.Writing.{writing}
use Rattle.types.specs.Acceptable.{Acceptable, IsAccepted}
use Rattle.types.proofs.Accepted.{accepted_exactly}
use Rattle.headers.specs.Header.{Header}
use Rattle.headers.specs.Writing.{AllCarriable, writable, header_bytes, header_to}
use Rattle.headers.proofs.Writable.{fields_exactly}

-- `encode`: once 1, 2, 12 and 11 are past, it is accepted exactly if there is room
pub header_accepted : (h : Header) (xs : List ℕ) (place : ℕ) → IsAccepted (header_to h xs place).answer ↔ Acceptable 0 (AllCarriable h.fields) (length (header_bytes h)) xs place
unfolding header_to writing
header_accepted h xs place = accepted_exactly 0 (writable h.fields) (length (header_bytes h)) xs place (fields_exactly h.fields) (header_bytes h)
