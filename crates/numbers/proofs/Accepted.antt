-- Bytes are written exactly if there is room for them, the buffer and what is lent are not too long, and the place lies inside.
-- Assumes nothing.
use mathlib.Core.Path.{refl}
use mathlib.Core.Logic.{◌↔◌}
use Prim.Native.Nat.{ℕ}
use mathlib.Core.List.{List}
use lib.ListN.{length}
use Rattle.types.specs.Writing.{can, writing}
use Rattle.types.specs.Acceptable.{Acceptable, IsAccepted}
use Rattle.types.proofs.Accepted.{accepted_exactly}

-- of any bytes: one byte, a lent slice, the content of an integer
pub bytes_accepted : (lent : ℕ) (bytes xs : List ℕ) (place : ℕ) → IsAccepted (writing lent can bytes xs place).answer ↔ Acceptable lent (Unit {0}) (length bytes) xs place
unfolding writing
bytes_accepted lent bytes xs place = accepted_exactly lent can (length bytes) xs place (λ e. tt, λ h. refl) bytes
