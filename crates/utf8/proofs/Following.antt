-- The bytes after a first byte, one at a time, as the code passes them.
-- Assumes nothing.
use mathlib.Core.Path.{◌≡◌, refl, sym, ap, ◌∙◌}
use mathlib.Core.Bool.{Bool, true, false, ◌&&◌}
use mathlib.Core.List.{List, [], ◌∷◌}
use Prim.Native.Nat.{ℕ, zero, suc, ◌+◌, ◌-◌, ◌≤◌, ◌<◌}
use native.Mathlib.Numerals.{add-one, sub-one}
use native.Mathlib.Nat.{not-suc-le-zero}
use lib.ListN.{length, take, drop, get_or, length-drop}
use lib.Seq.{drop-cons, get_or-drop}
use Rattle.std.proofs.lemmas.List.{get_or-take, length-take}
use native.Mathlib.Omega.{arith}
use Rattle.std.specs.Prelude.{Some, None}
use Rattle.utf8.specs.declared.lead.Follow.{Follow}
use Rattle.utf8.specs.Table.{%x, UTF8-char}
use Rattle.utf8.specs.Check.{within, begins, sequence_length}
use Rattle.utf8.specs.Lead.{tails_of, ranges, as_tails}
use Rattle.utf8.proofs.Ranges.{in_range, above_range, below_range}
use Rattle.utf8.proofs.FirstByte.{sized, sequence_by_first_byte}

ranges_length : (count low high : ℕ) → length (ranges count low high) ≡ count
unfolding ranges
ranges_length zero low high = refl
ranges_length (suc count) low high = ap suc (ranges_length count 0x80 0xBF)

module _ (s : List ℕ) (place : ℕ) (inside : place < length s) where
  byte_then_rest : drop place s ≡ get_or s place 0 ∷ drop (place + 1) s
  byte_then_rest = rw (add-one, drop-cons s place 0)

  -- the row that the first byte chooses decides the length
  by_row : sequence_length UTF8-char (drop place s) ≡ sized (tails_of UTF8-char (get_or s place 0)) (drop (place + 1) s)
  by_row = rw byte_then_rest (sequence_by_first_byte (get_or s place 0) (drop (place + 1) s))

  -- a stray byte begins no sequence
  pub stray_begins_none : as_tails None ≡ tails_of UTF8-char (get_or s place 0) → sequence_length UTF8-char (drop place s) ≡ 0
  unfolding as_tails sized
  stray_begins_none e = by_row ∙ rw (← e)

  -- nor does a byte after which a wrong one follows
  pub wrong_begins_none : (f : Follow) → as_tails (Some f) ≡ tails_of UTF8-char (get_or s place 0)
      → begins (ranges f.count f.low f.high) (drop (place + 1) s) ≡ false → sequence_length UTF8-char (drop place s) ≡ 0
  unfolding as_tails sized
  wrong_begins_none f e h = by_row ∙ rw (← e, h)

  -- a byte after which the right ones follow begins a sequence
  pub right_begins : (f : Follow) → as_tails (Some f) ≡ tails_of UTF8-char (get_or s place 0)
      → begins (ranges f.count f.low f.high) (drop (place + 1) s) ≡ true → sequence_length UTF8-char (drop place s) ≡ suc f.count
  unfolding as_tails sized
  right_begins f e h = by_row ∙ rw (← e, h, ranges_length)

-- nothing left to follow
pub nothing_left : (s : List ℕ) (count low high place : ℕ) → count ≡ 0 → begins (ranges count low high) (drop place s) ≡ true
unfolding ranges begins
nothing_left s count low high place e = rw e refl

first_range : (count low high : ℕ) → 0 < count → ranges count low high ≡ %x low high ∷ ranges (count - 1) 0x80 0xBF
unfolding ranges
first_range zero low high h = absurd (not-suc-le-zero h)
first_range (suc count) low high h = ap (λ (k : ℕ). %x low high ∷ ranges k 0x80 0xBF) (sym (sub-one (suc count)))

-- too few bytes do not begin with those that are to follow
pub cut_wrong : (count low high : ℕ) (bytes : List ℕ) → length bytes < count → begins (ranges count low high) bytes ≡ false
unfolding ranges begins
cut_wrong zero low high bytes h = absurd (omega arith)
cut_wrong (suc count) low high [] h = refl
cut_wrong (suc count) low high (byte ∷ bytes) h = rw (cut_wrong count 0x80 0xBF bytes (omega arith)) (and_false (within low high byte))
  where
    and_false : (t : Bool) → t && false ≡ false
    and_false true = refl
    and_false false = refl

module _ (s : List ℕ) (place count low high : ℕ) (some_left : 0 < count) where
  one_byte : place < length s → begins (ranges count low high) (drop place s) ≡ within low high (get_or s place 0) && begins (ranges (count - 1) 0x80 0xBF) (drop (place + 1) s)
  unfolding begins
  one_byte h = rw (first_range count low high some_left, byte_then_rest s place h)

  -- a byte in the range is passed
  pub byte_passed : place < length s → low ≤ get_or s place 0 → get_or s place 0 ≤ high
      → begins (ranges count low high) (drop place s) ≡ begins (ranges (count - 1) 0x80 0xBF) (drop (place + 1) s)
  byte_passed h a b = one_byte h ∙ rw (in_range low high (get_or s place 0) a b)

  -- a byte below the range is wrong
  pub low_wrong : place < length s → get_or s place 0 < low → begins (ranges count low high) (drop place s) ≡ false
  low_wrong h a = one_byte h ∙ rw (below_range low high (get_or s place 0) a)

  -- a byte above the range is wrong
  pub high_wrong : place < length s → high < get_or s place 0 → begins (ranges count low high) (drop place s) ≡ false
  high_wrong h a = one_byte h ∙ rw (above_range low high (get_or s place 0) a)

-- a byte of a part of the text is one of those asked for, stands in the text, and is its byte
pub byte_of_part : (s : List ℕ) (place : ℕ) {n i : ℕ} → i < length (take n (drop place s)) → (i < n) × (place + i < length s) × (get_or (take n (drop place s)) i 0 ≡ get_or s (place + i) 0)
byte_of_part s place {n} {i} h =
    let l : i < n = omega (arith, length-take n (drop place s)) in
    (l, omega (arith, length-take n (drop place s), length-drop place s), rw (get_or-take n (drop place s) i 0 l, get_or-drop))

-- where the part ends inside the text, behind its last byte all that were asked for are passed
pub part_passed : (s : List ℕ) (place : ℕ) {n i : ℕ} → place + n ≤ length s → length (take n (drop place s)) ≤ i → n ≤ i
part_passed s place {n} room h = omega (arith, length-take n (drop place s), length-drop place s)
