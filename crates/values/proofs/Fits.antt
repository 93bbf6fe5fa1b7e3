-- Which values can be written: the computed and the declarative definition agree, each case by its own law; and what is known where one can.
-- Assumes nothing.
use mathlib.Core.Path.{◌≡◌, refl}
use mathlib.Core.Logic.{◌↔◌}
use Prim.Native.Nat.{ℕ}
use native.Mathlib.Omega.{arith}
use mathlib.Core.List.{List}
use Rattle.types.specs.Refusal.{Carried}
use Rattle.types.specs.Answer.{passed, stopped}
use Rattle.types.specs.Writing.{Writable, can, cannot}
use Rattle.values.specs.ObjectId.{identifier}
use Rattle.values.specs.Value.{Value, boolean, real, double, on_date, at_time, object_id, character_string, octet_string, enumerated, bit_string, unsigned_int, signed_int}
use Rattle.values.specs.Writing.{Writes, writable_value, outcome_of}
use Rattle.values.proofs.Texts.{text_exactly}
use Rattle.values.proofs.BitStrings.{bits_exactly}
use Rattle.values.proofs.Dates.{date_exactly}
use Rattle.values.proofs.ObjectIds.{object_id_exactly}

-- all cases of a value
pub writable_exactly : (v : Value) (lent : List ℕ) → (writable_value v lent ≡ can) ↔ Writes v lent
unfolding writable_value
writable_exactly (boolean b) lent = (λ e. tt, λ h. refl)
writable_exactly (real x) lent = (λ e. tt, λ h. refl)
writable_exactly (double x) lent = (λ e. tt, λ h. refl)
writable_exactly (on_date d) lent = date_exactly d
writable_exactly (at_time t) lent = (λ e. tt, λ h. refl)
writable_exactly (object_id n i) lent = object_id_exactly (identifier n i)
writable_exactly (character_string p) lent = text_exactly lent
writable_exactly (octet_string p) lent = (λ e. tt, λ h. refl)
writable_exactly (enumerated x) lent = (λ e. tt, λ h. refl)
writable_exactly (bit_string u p) lent = bits_exactly u lent
writable_exactly (unsigned_int x) lent = (λ e. tt, λ h. refl)
writable_exactly (signed_int x) lent = (λ e. tt, λ h. refl)

-- a check that passed says that the value can be written
pub passed_can : (w : Writable) → outcome_of w ≡ passed → w ≡ can
passed_can can e = refl
passed_can (cannot n c) e = let z : ◌≡◌ {A = ℕ} 0 1 = cc in absurd (omega arith)

-- and one that stopped says why it cannot
pub stopped_cannot : (w : Writable) (n : ℕ) (c : Carried) → outcome_of w ≡ stopped n c → w ≡ cannot n c
stopped_cannot can n c e = let z : ◌≡◌ {A = ℕ} 0 1 = cc in absurd (omega arith)
stopped_cannot (cannot m d) n c e = cc
