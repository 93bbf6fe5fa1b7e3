-- The first byte chooses the row: the code looks at it alone, and the table ascends.
-- Assumes nothing.
use mathlib.Core.Path.{◌≡◌, refl, sym, ap}
use mathlib.Core.Bool.{Bool, true, false, cond, ◌&&◌}
use mathlib.Core.List.Memᴰ.{cases_cons as first-or-later}
use mathlib.Core.List.Memᴰ.{head as first}
use mathlib.Core.List.Memᴰ.{not-nil}
use mathlib.Core.List.Memᴰ.{tail as later}
use mathlib.Core.List.{List, [], ◌∷◌, Memᴰ as OneOf}
use mathlib.Core.Logic.{⊎_elim}
use mathlib.Core.Option.{Option, none, some}
use Prim.Native.Nat.{ℕ, zero, suc, ◌≤◌, ◌<◌}
use native.Mathlib.Omega.{arith}
use lib.ListN.{length, get_or}
use Rattle.std.specs.Prelude.{Some, None}
use Rattle.utf8.specs.Table.{Range, %x, CharacterRow, UTF8-1, UTF8-2, UTF8-3, UTF8-4, UTF8-char}
use Rattle.utf8.specs.Check.{within, begins, sequence_length}
use Rattle.utf8.specs.Lead.{tails_of, ranges, as_tails}
use Rattle.utf8.proofs.Ranges.{in_range, above_range, below_range, outside_range, range_bounds}
use Rattle.utf8.proofs.Rows.{Ascending, table_ascends}

-- the byte lies in no row's first range
unfoldable pub Outside : ℕ → List CharacterRow → Type 0
Outside byte [] = Unit {0}
Outside byte ([] ∷ rows) = Outside byte rows
Outside byte ((%x low high ∷ row) ∷ rows) = (low ≤ byte → high < byte) × Outside byte rows

-- such a byte chooses no row
pub none_chosen : (rows : List CharacterRow) (byte : ℕ) → Outside byte rows → none ≡ tails_of rows byte
unfolding Outside tails_of
none_chosen [] byte o = refl
none_chosen ([] ∷ rows) byte o = none_chosen rows byte o
none_chosen ((%x low high ∷ row) ∷ rows) byte o = rw (outside_range low high byte o.0) (none_chosen rows byte o.1)

-- a row of an ascending table has its first range from where the table begins
range_from : (rows : List CharacterRow) (least : ℕ) → Ascending least rows → {low high : ℕ} {row : CharacterRow} → OneOf (%x low high ∷ row) rows → least ≤ low
unfolding Ascending
range_from [] least a m = absurd (not-nil m)
range_from ([] ∷ rows) least a m = absurd a
range_from ((%x low' high' ∷ row') ∷ rows) least a {low} {high} {row} m =
    ⊎_elim
    (λ same. let e : low ≡ low' = cc in omega arith)
    (λ m'. let h : suc high' ≤ low = range_from rows (suc high') a.2 m' in omega arith)
    (first-or-later m)

-- a byte in the first range of a row chooses that row
pub row_chosen : (rows : List CharacterRow) (least : ℕ) → Ascending least rows → {low high : ℕ} {row : CharacterRow} → OneOf (%x low high ∷ row) rows
    → (byte : ℕ) → low ≤ byte → byte ≤ high → tails_of rows byte ≡ some row
unfolding Ascending tails_of
row_chosen [] least a m byte l h = absurd (not-nil m)
row_chosen ([] ∷ rows) least a m byte l h = absurd a
row_chosen ((%x low' high' ∷ row') ∷ rows) least a {low} {high} {row} m byte l h =
    ⊎_elim
    (λ same. let e : low ≡ low' = cc in let f : high ≡ high' = cc in let g : row ≡ row' = cc in rw (in_range low' high' byte (omega arith) (omega arith)) (ap some (sym g)))
    (λ m'. let from : suc high' ≤ low = range_from rows (suc high') a.2 m' in rw (above_range low' high' byte (omega arith)) (row_chosen rows (suc high') a.2 m' byte l h))
    (first-or-later m)

numbered : (rows : List CharacterRow) (k : ℕ) {range : Range} {row : CharacterRow} → get_or rows k [] ≡ range ∷ row → OneOf (range ∷ row) rows
numbered [] k e = absurd (let z : ◌≡◌ {A = ℕ} 0 1 = cc in omega arith)
numbered (one ∷ rows) zero e = first (sym e)
numbered (one ∷ rows) (suc k) e = later (numbered rows k e)

-- a byte in the first range of the table's row k chooses that row
pub chosen : (k byte : ℕ) {low high : ℕ} {row : CharacterRow} → get_or UTF8-char k [] ≡ %x low high ∷ row → low ≤ byte → byte ≤ high → some row ≡ tails_of UTF8-char byte
chosen k byte e l h = sym (row_chosen UTF8-char 0 table_ascends (numbered UTF8-char k e) byte l h)

-- the row that a first byte chooses, for each of the table's ranges of first bytes and for the bytes between and above them
module _ (byte : ℕ) where
  pub from_00 : byte ≤ 0x7F → tails_of UTF8-char byte ≡ as_tails (Some (record { count = 0; low = 0x80; high = 0xBF }))
  unfolding as_tails ranges UTF8-char UTF8-1 UTF8-2 UTF8-3 UTF8-4
  from_00 h = sym (chosen 0 byte refl (omega arith) h)

  pub from_C2 : 0xC2 ≤ byte → byte ≤ 0xDF → tails_of UTF8-char byte ≡ as_tails (Some (record { count = 1; low = 0x80; high = 0xBF }))
  unfolding as_tails ranges UTF8-char UTF8-1 UTF8-2 UTF8-3 UTF8-4
  from_C2 l h = sym (chosen 1 byte refl l h)

  pub at_E0 : byte ≡ 0xE0 → tails_of UTF8-char byte ≡ as_tails (Some (record { count = 2; low = 0xA0; high = 0xBF }))
  unfolding as_tails ranges UTF8-char UTF8-1 UTF8-2 UTF8-3 UTF8-4
  at_E0 e = sym (chosen 2 byte refl (omega arith) (omega arith))

  pub from_E1 : 0xE1 ≤ byte → byte ≤ 0xEC → tails_of UTF8-char byte ≡ as_tails (Some (record { count = 2; low = 0x80; high = 0xBF }))
  unfolding as_tails ranges UTF8-char UTF8-1 UTF8-2 UTF8-3 UTF8-4
  from_E1 l h = sym (chosen 3 byte refl l h)

  pub at_ED : byte ≡ 0xED → tails_of UTF8-char byte ≡ as_tails (Some (record { count = 2; low = 0x80; high = 0x9F }))
  unfolding as_tails ranges UTF8-char UTF8-1 UTF8-2 UTF8-3 UTF8-4
  at_ED e = sym (chosen 4 byte refl (omega arith) (omega arith))

  pub from_EE : 0xEE ≤ byte → byte ≤ 0xEF → tails_of UTF8-char byte ≡ as_tails (Some (record { count = 2; low = 0x80; high = 0xBF }))
  unfolding as_tails ranges UTF8-char UTF8-1 UTF8-2 UTF8-3 UTF8-4
  from_EE l h = sym (chosen 5 byte refl l h)

  pub at_F0 : byte ≡ 0xF0 → tails_of UTF8-char byte ≡ as_tails (Some (record { count = 3; low = 0x90; high = 0xBF }))
  unfolding as_tails ranges UTF8-char UTF8-1 UTF8-2 UTF8-3 UTF8-4
  at_F0 e = sym (chosen 6 byte refl (omega arith) (omega arith))

  pub from_F1 : 0xF1 ≤ byte → byte ≤ 0xF3 → tails_of UTF8-char byte ≡ as_tails (Some (record { count = 3; low = 0x80; high = 0xBF }))
  unfolding as_tails ranges UTF8-char UTF8-1 UTF8-2 UTF8-3 UTF8-4
  from_F1 l h = sym (chosen 7 byte refl l h)

  pub at_F4 : byte ≡ 0xF4 → tails_of UTF8-char byte ≡ as_tails (Some (record { count = 3; low = 0x80; high = 0x8F }))
  unfolding as_tails ranges UTF8-char UTF8-1 UTF8-2 UTF8-3 UTF8-4
  at_F4 e = sym (chosen 8 byte refl (omega arith) (omega arith))

  pub between : 0x80 ≤ byte → byte < 0xC2 → tails_of UTF8-char byte ≡ as_tails None
  unfolding as_tails Outside UTF8-char UTF8-1 UTF8-2 UTF8-3 UTF8-4
  between l h = sym (none_chosen UTF8-char byte (omega arith))

  pub above : 0xF5 ≤ byte → tails_of UTF8-char byte ≡ as_tails None
  unfolding as_tails Outside UTF8-char UTF8-1 UTF8-2 UTF8-3 UTF8-4
  above l = sym (none_chosen UTF8-char byte (omega arith))

pub ruleset rows_chosen = (from_00, from_C2, at_E0, from_E1, at_ED, from_EE, at_F0, from_F1, at_F4, between, above)

-- what a choice of row says of the bytes after the first: the sequence's length, or 0
unfoldable pub sized : Option CharacterRow → List ℕ → ℕ
sized none bytes = 0
sized (some row) bytes = cond (begins row bytes) (suc (length row)) 0

-- bytes that begin below an ascending table begin with none of its rows
sequence_below : (rows : List CharacterRow) (least byte : ℕ) (bytes : List ℕ) → Ascending least rows → byte < least → sequence_length rows (byte ∷ bytes) ≡ 0
unfolding Ascending sequence_length begins
sequence_below [] least byte bytes a h = refl
sequence_below ([] ∷ rows) least byte bytes a h = absurd a
sequence_below ((%x low high ∷ row) ∷ rows) least byte bytes a h =
    rw (below_range low high byte (omega arith)) (sequence_below rows (suc high) byte bytes a.2 (omega arith))

sequence_by_row : (rows : List CharacterRow) (least byte : ℕ) (bytes : List ℕ) → Ascending least rows → sequence_length rows (byte ∷ bytes) ≡ sized (tails_of rows byte) bytes
unfolding Ascending sequence_length begins tails_of sized
sequence_by_row [] least byte bytes a = refl
sequence_by_row ([] ∷ rows) least byte bytes a = absurd a
sequence_by_row ((%x low high ∷ row) ∷ rows) least byte bytes a = by_test (within low high byte) refl (sequence_by_row rows (suc high) byte bytes a.2)
  where
    by_test : (t : Bool) → within low high byte ≡ t → sequence_length rows (byte ∷ bytes) ≡ sized (tails_of rows byte) bytes
        → cond (t && begins row bytes) (suc (length row)) (sequence_length rows (byte ∷ bytes)) ≡ sized (cond t (some row) (tails_of rows byte)) bytes
    by_test true e below = rw (sequence_below rows (suc high) byte bytes a.2 (omega (arith, range_bounds low high byte e)))
    by_test false e below = below

-- the sequence with which bytes begin goes by the row that the first byte chooses
pub sequence_by_first_byte : (byte : ℕ) (bytes : List ℕ) → sequence_length UTF8-char (byte ∷ bytes) ≡ sized (tails_of UTF8-char byte) bytes
sequence_by_first_byte byte bytes = sequence_by_row UTF8-char 0 byte bytes table_ascends
