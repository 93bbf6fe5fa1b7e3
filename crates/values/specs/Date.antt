-- Dates (ASHRAE 135, 20.2.12): year less 1900, month, day of the month, day of the week, a byte each.
-- Assumes nothing.
use Rattle.std.specs.Prelude.{ℕ, ◌+◌, ◌-◌, ◌≤◌, List, [], ◌∷◌, ltb, eqb, get_or}
use Rattle.types.specs.Choice.{if}
use Rattle.types.specs.Refusal.{amount}
use Rattle.types.specs.Answer.{Answer, accepted, refused, then}
use Rattle.types.specs.Writing.{Writable, can, unwritable}
use Rattle.numbers.specs.Reading.{slice_from}
use Rattle.values.specs.declared.date.Date as program

pub record Date : Type 0 where
  pub year : ℕ
  pub month : ℕ
  pub day : ℕ
  pub weekday : ℕ

abbrev pub date : (year month day weekday : ℕ) → Date
date y m d w = record { year = y; month = m; day = d; weekday = w }

abbrev pub date_of : program.Date → Date
date_of d = date d.year d.month d.day d.wday

-- of another length than 4 it is refused 7, before any byte is read
unfoldable pub date_under : ℕ → List ℕ → ℕ → Answer Date
date_under len xs place =
    if (eqb len 4)
    (then (slice_from 4 xs place) (λ part next.
    accepted (date (get_or xs place 0 + 1900) (get_or xs (place + 1) 0) (get_or xs (place + 2) 0) (get_or xs (place + 3) 0)) next))
    (refused 7 (amount len))

-- the same, said and not computed: content of this length is this date
pub data IsDate : ℕ → List ℕ → Date → Type 0 where
  of_fields : {y m d w : ℕ} → IsDate 4 (y ∷ m ∷ d ∷ w ∷ []) (date (y + 1900) m d w)

-- the bytes that are written for it
abbrev pub date_bytes : Date → List ℕ
date_bytes d = (d.year - 1900) ∷ d.month ∷ d.day ∷ d.weekday ∷ []

-- a year from 1900 to 2155
unfoldable pub date_writable : Date → Writable
date_writable d = if (ltb d.year 1900) unwritable (if (ltb 2155 d.year) unwritable can)

abbrev pub DateWrites : Date → Type 0
DateWrites d = (1900 ≤ d.year) × (d.year ≤ 2155)
