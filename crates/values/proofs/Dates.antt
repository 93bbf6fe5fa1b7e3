-- Dates: what is read stands there and the other way round, which can be written, what is written reads back, and what was read is written again as it stood.
-- Assumes nothing.
use mathlib.Core.Path.{◌≡◌, refl, ◌∙◌, ap, sym, subst}
use mathlib.Core.Logic.{◌↔◌}
use Prim.Native.Nat.{ℕ, ◌+◌, ◌-◌, ◌/◌, ◌%◌, ◌≤◌}
use native.Mathlib.Nat.{div-one}
use native.Mathlib.Omega.{arith}
use mathlib.Core.List.{List, [], ◌∷◌, ◌++◌}
use lib.Dec.{ltb, eqb}
use lib.ListN.{length, get_or, take, drop}
use borrow.Author.Tests.{eqb-true}
use Rattle.types.specs.Choice.{if}
use Rattle.types.specs.Refusal.{amount}
use Rattle.types.specs.Answer.{Answer, accepted, refused, then}
use Rattle.types.specs.Writing.{can, unwritable}
use Rattle.types.proofs.Choices.{either, read_on}
use Rattle.types.proofs.Accepted.{limit_exactly}
use Rattle.numbers.specs.Integer.{Bytes, unsigned_value, low_bytes}
use Rattle.numbers.specs.Reading.{Part, bytes_in, slice_from, fixed_from}
use Rattle.numbers.proofs.Found.{slice_found, slice_at}
use Rattle.numbers.proofs.Low.{low_bytes_of_value}
use Rattle.numbers.proofs.Value.{bytes_dropped, bytes_taken}
use Rattle.values.specs.Date.{Date, date_of, date, date_under, IsDate, of_fields, date_bytes, date_writable, DateWrites}
use Rattle.values.specs.declared.date.Date as program
use Rattle.values.proofs.Standing.{StoodOr, four_bytes, first_byte, later_byte}

-- four bytes are a date, whatever the length is called
four_are : (y m d w : ℕ) {len : ℕ} → 4 ≡ len → IsDate len (y ∷ m ∷ d ∷ w ∷ []) (date (y + 1900) m d w)
four_are y m d w e = subst (λ (k : ℕ). IsDate k (y ∷ m ∷ d ∷ w ∷ []) (date (y + 1900) m d w)) e of_fields

pub date_or : (len : ℕ) (xs : List ℕ) (place : ℕ) → StoodOr (λ (p : ℕ). IsDate len) xs place (date_under len xs place)
unfolding date_under
date_or len xs place =
    either (StoodOr (λ (p : ℕ). IsDate len) xs place) (eqb len 4)
    (λ e. read_on (StoodOr (λ (p : ℕ). IsDate len) xs place) (slice_from 4 xs place)
    (λ part next g.
    let s = slice_found 4 xs place part next g in
    let n : place + 4 ≡ next = omega (arith, s.ends) in
    let four : 4 ≡ len = omega (arith, eqb-true len 4 e) in
    record {
      bytes = _;
      is = four_are (get_or xs place 0) (get_or xs (place + 1) 0) (get_or xs (place + 2) 0) (get_or xs (place + 3) 0) four;
      here = four_bytes xs place (omega (arith, s.inside)) ∙ ap (λ (k : ℕ). get_or xs place 0 ∷ get_or xs (place + 1) 0 ∷ get_or xs (place + 2) 0 ∷ get_or xs (place + 3) 0 ∷ drop k xs) n;
      ends = s.ends;
    })
    (λ n c g. tt))
    (λ e. tt)

pub date_read : (xs : List ℕ) (place : ℕ) (rest : List ℕ) → length xs ≤ 65535 → place ≤ length xs → {len : ℕ} {bytes : List ℕ} {d : Date} → IsDate len bytes d → drop place xs ≡ bytes ++ rest
    → date_under len xs place ≡ accepted d (place + length bytes)
unfolding date_under
date_read xs place rest small l (of_fields {y} {m} {d} {w}) e =
    let bytes : List ℕ = y ∷ m ∷ d ∷ w ∷ [] in
    simp (slice_at xs place bytes rest small l e, first_byte xs place bytes rest e, later_byte xs place bytes rest 1 e, later_byte xs place bytes rest 2 e, later_byte xs place bytes rest 3 e)

-- the four fields are the bytes of the number that they stand for
pub date_by_number : (xs : List ℕ) (place : ℕ) → Bytes xs
    → date_under 4 xs place ≡ then (fixed_from 4 xs place) (λ n next. accepted (date (n / 16777216 % 256 + 1900) (n / 65536 % 256) (n / 256 % 256) (n % 256)) next)
unfolding date_under fixed_from
date_by_number xs place h = go (slice_from 4 xs place) refl
  where
    go : (a : Answer Part) → slice_from 4 xs place ≡ a
        → then a (λ p next. accepted (date (get_or xs place 0 + 1900) (get_or xs (place + 1) 0) (get_or xs (place + 2) 0) (get_or xs (place + 3) 0)) next)
        ≡ then (then a (λ p next. accepted (unsigned_value (bytes_in xs p)) next)) (λ n next. accepted (date (n / 16777216 % 256 + 1900) (n / 65536 % 256) (n / 256 % 256) (n % 256)) next)
    go (refused n c) e = refl
    go (accepted p next) e =
        let s = slice_found 4 xs place p next e in
        let bytes : List ℕ = get_or xs place 0 ∷ get_or xs (place + 1) 0 ∷ get_or xs (place + 2) 0 ∷ get_or xs (place + 3) 0 ∷ [] in
        let first : take 4 (drop place xs) ≡ bytes = ap (take 4) (four_bytes xs place (omega (arith, s.inside, s.ends))) in
        let is : bytes_in xs p ≡ bytes = ap (bytes_in xs) s.part_is ∙ first in
        let stand : low_bytes 4 (unsigned_value (bytes_in xs p)) ≡ bytes =
        ap (λ (l : List ℕ). low_bytes 4 (unsigned_value l)) is ∙ low_bytes_of_value bytes (subst Bytes first (bytes_taken 4 (drop place xs) (bytes_dropped xs place h))) in
        ap (λ (l : List ℕ). accepted (date (get_or l 0 0 + 1900) (get_or l 1 0) (get_or l 2 0) (get_or l 3 0)) next) (sym stand) ∙ simp div-one

pub date_exactly : (d : Date) → (date_writable d ≡ can) ↔ DateWrites d
unfolding date_writable
date_exactly d =
    let f = limit_exactly d.year 1900 12 (amount 0) (if (ltb 2155 d.year) unwritable can) in
    let g = limit_exactly 2155 d.year 12 (amount 0) can in
    (λ e. let p = f.0 e in (p.0, (g.0 p.1).0), λ h. f.1 (h.0, g.1 (h.1, refl)))

pub date_is : (d : Date) → date_writable d ≡ can → IsDate 4 (date_bytes d) d
date_is d w =
    let f = (date_exactly d).0 w in
    let e : d.year - 1900 + 1900 ≡ d.year = omega arith in
    subst (λ (y : ℕ). IsDate 4 (date_bytes d) (date y d.month d.day d.weekday)) e of_fields

pub date_again : {len : ℕ} {bytes : List ℕ} {d : Date} → IsDate len bytes d → Bytes bytes → (date_writable d ≡ can) × (date_bytes d ≡ bytes) × (4 ≡ len)
date_again (of_fields {y} {m} {d} {w}) b =
    let e : y + 1900 - 1900 ≡ y = omega arith in
    let l : y + 1900 ≤ 2155 = omega (arith, b 0) in
    ((date_exactly (date (y + 1900) m d w)).1 (omega arith, l), ap (λ (n : ℕ). n ∷ m ∷ d ∷ w ∷ []) e, refl)

-- no two dates of the program are the same on paper
abbrev pub program_date : Date → program.Date
program_date d = record { year = d.year; month = d.month; day = d.day; wday = d.weekday }

pub date_back : (x : program.Date) → program_date (date_of x) ≡ x
date_back x = refl
