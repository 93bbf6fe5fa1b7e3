-- Times of day (ASHRAE 135, 20.2.13): hour, minute, second, hundredths, each a single byte, so that 3 carries the buffer's end.
-- Assumes nothing.
use Rattle.std.specs.Prelude.{ℕ, ◌+◌, List, [], ◌∷◌, ltb, eqb, length, get_or}
use Rattle.types.specs.Choice.{if}
use Rattle.types.specs.Refusal.{amount}
use Rattle.types.specs.Answer.{Answer, accepted, refused}
use Rattle.values.specs.declared.time.Time as program

pub record Time : Type 0 where
  pub hour : ℕ
  pub minute : ℕ
  pub second : ℕ
  pub hundredths : ℕ

abbrev pub time : (hour minute second hundredths : ℕ) → Time
time h m s c = record { hour = h; minute = m; second = s; hundredths = c }

abbrev pub time_of : program.Time → Time
time_of t = time t.hour t.minute t.second t.hundredths

-- of another length than 4 it is refused 7, before any byte is read
unfoldable pub time_under : ℕ → List ℕ → ℕ → Answer Time
time_under len xs place =
    if (eqb len 4)
    (if (ltb (length xs) (place + 4)) (refused 3 (amount (length xs)))
    (accepted (time (get_or xs place 0) (get_or xs (place + 1) 0) (get_or xs (place + 2) 0) (get_or xs (place + 3) 0)) (place + 4)))
    (refused 7 (amount len))

-- the same, said and not computed: content of this length is this time
pub data IsTime : ℕ → List ℕ → Time → Type 0 where
  of_fields : {h m s c : ℕ} → IsTime 4 (h ∷ m ∷ s ∷ c ∷ []) (time h m s c)

-- the bytes that are written for it
abbrev pub time_bytes : Time → List ℕ
time_bytes t = t.hour ∷ t.minute ∷ t.second ∷ t.hundredths ∷ []
