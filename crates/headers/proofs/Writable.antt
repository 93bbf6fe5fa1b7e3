-- Which field values can be written: the computed and the declarative definition agree.
-- Assumes nothing.
use mathlib.Core.Path.{◌≡◌, refl, ap₂}
use mathlib.Core.Logic.{◌↔◌}
use Prim.Native.Nat.{ℕ, ◌≤◌}
use native.Mathlib.Omega.{arith}
use mathlib.Core.List.{List, [], ◌∷◌}
use lib.Dec.{ltb}
use borrow.Author.Tests.{le-ltb}
use Rattle.types.specs.Choice.{if}
use Rattle.types.specs.Refusal.{amount}
use Rattle.types.specs.Writing.{Writable, can, cannot, unwritable}
use Rattle.types.proofs.Accepted.{limit_exactly}
use Rattle.headers.specs.Header.{FieldValue, nibbles, number, choice, flag, enumeration}
use Rattle.headers.specs.Writing.{choice_writable, value_writable, Carriable, AllCarriable, both, writable}

-- what comes last decides alone
pub both_can : (w : Writable) → w ≡ both w can
both_can can = refl
both_can (cannot n c) = refl

-- where both can be written, each can
pub both_parts : (v w : Writable) → both v w ≡ can → (v ≡ can) × (w ≡ can)
both_parts can w e = (refl, e)
both_parts (cannot n c) w e = let z : ◌≡◌ {A = ℕ} 0 1 = cc in absurd (omega arith)

-- nibbles have four bits, and a service choice goes to 33
pub value_exactly : (v : FieldValue) → (value_writable v ≡ can) ↔ Carriable v
value_exactly (nibbles a b) =
    let f = limit_exactly 15 a 12 (amount 0) (if (ltb 15 b) unwritable can) in
    let g = limit_exactly 15 b 12 (amount 0) can in
    (λ e. let p = f.0 e in (p.0, (g.0 p.1).0), λ h. f.1 (h.0, g.1 (h.1, refl)))
value_exactly (number n) = (λ e. tt, λ h. refl)
value_exactly (flag b) = (λ e. tt, λ h. refl)
value_exactly (enumeration x) = (λ e. tt, λ h. refl)
value_exactly (choice c) = let f = limit_exactly 33 c 11 (amount c) can in (λ e. (f.0 e).0, λ h. f.1 (h, refl))

-- and so of all values of a header
pub fields_exactly : (vs : List FieldValue) → (writable vs ≡ can) ↔ AllCarriable vs
fields_exactly [] = (λ e. tt, λ h. refl)
fields_exactly (v ∷ vs) =
    let f = value_exactly v in
    let g = fields_exactly vs in (
      λ e. let p = both_parts (value_writable v) (writable vs) e in (f.0 p.0, g.0 p.1),
      λ h. ap₂ both (f.1 h.0) (g.1 h.1),
    )

-- where both nibbles of a request have four bits, its choice decides
pub request_writable : (segments size id c : ℕ) → segments ≤ 15 → size ≤ 15 → writable (nibbles segments size ∷ number id ∷ choice c ∷ []) ≡ both (choice_writable c) can
request_writable segments size id c p q = simp (le-ltb 15 segments p, le-ltb 15 size q)
