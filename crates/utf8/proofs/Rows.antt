-- Rows of the table: what they begin, and that in an ascending table at most one row begins any bytes.
-- Assumes nothing.
use mathlib.Core.Path.{◌≡◌, refl, sym, ap, subst}
use mathlib.Core.Bool.{Bool, true, false, cond, false≢true, and-eq-true_iff}
use mathlib.Core.List.Memᴰ.{cases_cons as first-or-later}
use mathlib.Core.List.Memᴰ.{head as first}
use mathlib.Core.List.Memᴰ.{not-nil}
use mathlib.Core.List.Memᴰ.{tail as later}
use mathlib.Core.List.{List, [], ◌∷◌, ◌++◌, Memᴰ as OneOf}
use mathlib.Core.Logic.{⊎_elim}
use Prim.Native.Nat.{ℕ, suc, ◌≤◌, zero-le, suc-le-suc}
use native.Mathlib.Omega.{arith}
use lib.ListN.{length, take}
use Rattle.utf8.specs.Table.{%x, CharacterRow, UTF8-1, UTF8-2, UTF8-3, UTF8-4, UTF8-char}
use Rattle.utf8.specs.Text.{Each}
use Rattle.utf8.specs.Text.Each.{none, next}
use Rattle.utf8.specs.Check.{within, begins, sequence_length}
use Rattle.utf8.proofs.Ranges.{in_range, above_range, range_bounds}

-- bytes that begin with a row have one byte in each of its ranges
pub begins_each : (row : CharacterRow) (bytes : List ℕ) → begins row bytes ≡ true → (length row ≤ length bytes) × Each row (take (length row) bytes)
unfolding begins
begins_each [] bytes e = (zero-le, none)
begins_each (range ∷ row) [] e = absurd (false≢true e)
begins_each (%x low high ∷ row) (byte ∷ bytes) e =
    let both = (and-eq-true_iff (within low high byte) (begins row bytes)).0 e in
    let bounds = range_bounds low high byte both.0 in
    let rest = begins_each row bytes both.1 in
    (suc-le-suc rest.0, next bounds.0 bounds.1 rest.1)

-- one byte in each of a row's ranges begins with that row, whatever comes after
pub each_begins : {row : CharacterRow} {bytes : List ℕ} (rest : List ℕ) → Each row bytes → begins row (bytes ++ rest) ≡ true
unfolding begins
each_begins rest none = refl
each_begins rest (next {low} {high} {byte} l h each) = rw (in_range low high byte l h) (each_begins rest each)

-- a row has as many bytes as ranges
pub each_length : {row : CharacterRow} {bytes : List ℕ} → Each row bytes → length bytes ≡ length row
each_length none = refl
each_length (next l h each) = ap suc (each_length each)

-- the rows' first ranges ascend and do not meet, the first from `least` on
unfoldable pub Ascending : ℕ → List CharacterRow → Type 0
Ascending least [] = Unit {0}
Ascending least ([] ∷ rows) = ⊥
Ascending least ((%x low high ∷ row) ∷ rows) = (least ≤ low) × (low ≤ high) × Ascending (suc high) rows

-- the table ascends
pub table_ascends : Ascending 0 UTF8-char
unfolding Ascending UTF8-char UTF8-1 UTF8-2 UTF8-3 UTF8-4
table_ascends = omega arith

-- the bytes begin with one from `least` on
unfoldable pub From : ℕ → List ℕ → Type 0
From least [] = ⊥
From least (byte ∷ bytes) = least ≤ byte

from_less : (least more : ℕ) (bytes : List ℕ) → least ≤ more → From more bytes → From least bytes
unfolding From
from_less least more [] h f = f
from_less least more (byte ∷ bytes) h f = omega arith

from_first : {low high : ℕ} {row : CharacterRow} {bytes : List ℕ} (least : ℕ) → least ≤ low → Each (%x low high ∷ row) bytes → From least bytes
unfolding From
from_first least h (next l k each) = omega arith

-- bytes of a row of an ascending table begin no lower than the table does
pub row_from : (rows : List CharacterRow) (least : ℕ) → Ascending least rows → {row : CharacterRow} {bytes : List ℕ} → OneOf row rows → Each row bytes → From least bytes
unfolding Ascending
row_from [] least a m each = absurd (not-nil m)
row_from ([] ∷ rows) least a m each = absurd a
row_from ((%x low high ∷ tails) ∷ rows) least a {row} {bytes} m each =
    ⊎_elim
    (λ same. from_first least a.0 (subst (λ (r : CharacterRow). Each r bytes) same each))
    (λ m'. from_less least (suc high) bytes (omega arith) (row_from rows (suc high) a.2 m' each))
    (first-or-later m)

-- bytes that begin above a row's first range do not begin with the row
begins_above : (low high : ℕ) (row : CharacterRow) (bytes : List ℕ) → From (suc high) bytes → begins (%x low high ∷ row) bytes ≡ false
unfolding From begins
begins_above low high row [] f = absurd f
begins_above low high row (byte ∷ bytes) f = rw (above_range low high byte f) refl

from_append : (least : ℕ) (bytes rest : List ℕ) → From least bytes → From least (bytes ++ rest)
unfolding From
from_append least [] rest f = absurd f
from_append least (byte ∷ bytes) rest f = f

-- in an ascending table the bytes of a row begin with that row and with no row before it
pub row_found : (rows : List CharacterRow) (least : ℕ) → Ascending least rows → {row : CharacterRow} {bytes : List ℕ} (rest : List ℕ) → OneOf row rows → Each row bytes → sequence_length rows (bytes ++ rest) ≡ length bytes
unfolding Ascending sequence_length
row_found [] least a rest m each = absurd (not-nil m)
row_found ([] ∷ rows) least a rest m each = absurd a
row_found ((%x low high ∷ tails) ∷ rows) least a {row} {bytes} rest m each =
    ⊎_elim
    (λ same. let each' : Each (%x low high ∷ tails) bytes = subst (λ (r : CharacterRow). Each r bytes) same each in rw (each_begins rest each') (sym (each_length each')))
    (λ m'. rw (begins_above low high tails (bytes ++ rest) (from_append (suc high) bytes rest (row_from rows (suc high) a.2 m' each))) (row_found rows (suc high) a.2 rest m' each))
    (first-or-later m)

-- a length found is that of a row, and the bytes are one in each of its ranges
pub found_row : (rows : List CharacterRow) (bytes : List ℕ) (n : ℕ) → sequence_length rows bytes ≡ suc n
    → (suc n ≤ length bytes) × ((row : CharacterRow) × OneOf row rows × Each row (take (suc n) bytes))
unfolding sequence_length
found_row [] bytes n e = absurd (omega arith)
found_row (row ∷ rows) bytes n e = by_test (begins row bytes) refl e (found_row rows bytes n)
  where
    by_test : (t : Bool) → begins row bytes ≡ t → cond t (length row) (sequence_length rows bytes) ≡ suc n
        → (sequence_length rows bytes ≡ suc n → (suc n ≤ length bytes) × ((r : CharacterRow) × OneOf r rows × Each r (take (suc n) bytes)))
        → (suc n ≤ length bytes) × ((r : CharacterRow) × OneOf r (row ∷ rows) × Each r (take (suc n) bytes))
    by_test true b q below =
        let each = begins_each row bytes b in
        (subst (λ (k : ℕ). k ≤ length bytes) q each.0, (row, first refl, subst (λ (k : ℕ). Each row (take k bytes)) q each.1))
    by_test false b q below = let r = below q in (r.0, (r.1.0, later r.1.1, r.1.2))
