-- The value that a case and its fields name; a field that the case has not is not read, and one too large for its type names nothing.
-- Assumes nothing.
use Rattle.std.specs.Prelude as named
use Rattle.std.specs.Prelude.{ℕ, List, eqb, length}
use Rattle.std.proofs.Math.Option.{Option, none, some}
use Rattle.std.specs.Float.{binary32, binary64}
use Rattle.std.specs.Float.Ieee.{of_bits}
use Rattle.types.specs.Choice.{if}
use Rattle.types.specs.Writing.{Left}
use Rattle.numbers.specs.Integer.{twos_complement}
use Rattle.numbers.specs.Reading.{part_at}
use Rattle.values.specs.Date.{date}
use Rattle.values.specs.Time.{time}
use Rattle.values.specs.Value.{Value, boolean, real, double, on_date, at_time, object_id, character_string, octet_string, enumerated, bit_string, unsigned_int, signed_int, value_of}
use Rattle.values.specs.Writing.{value_to}
use Rattle.values.specs.declared.value.ApplicationDataValue.{ApplicationDataValue}
use Rattle.thaolisem.specs.Named.{if_at_most, fit_bytes, named_to, paper_named_by}

abbrev pub date_named : (year month day weekday : ℕ) → Option Value
date_named y m d w = if_at_most 65535 y (if (fit_bytes m d w 0) (some (on_date (date y m d w))) none)

abbrev pub time_named : (hour minute second hundredths : ℕ) → Option Value
time_named h m s c = if (fit_bytes h m s c) (some (at_time (time h m s c))) none

abbrev pub object_id_named : (type instance : ℕ) → Option Value
object_id_named k i = if_at_most 65535 k (if_at_most 4294967295 i (some (object_id k i)))

-- text, octets and bits have their content from the lent slice, and bits their unused count besides; a signed integer is named by its two's complement in 64 bits
abbrev pub content_named : ℕ → ℕ → Option Value
content_named case a =
    if (eqb case 7) (some (character_string (part_at 0 0)))
    (if (eqb case 8) (some (octet_string (part_at 0 0)))
    (if (eqb case 9) (if_at_most 255 a (some (bit_string a (part_at 0 0))))
    (if (eqb case 10) (if_at_most 4294967295 a (some (enumerated a)))
    (if (eqb case 11) (some (unsigned_int a))
    (if (eqb case 12) (some (signed_int (twos_complement 8 a)))
    none)))))

-- a float is named by its bits
abbrev pub value_named : (case first second third fourth : ℕ) → Option Value
value_named case a b c d =
    if (eqb case 1) (if_at_most 1 a (some (boolean (eqb a 1))))
    (if (eqb case 2) (if_at_most 4294967295 a (some (real (of_bits binary32 a))))
    (if (eqb case 3) (some (double (of_bits binary64 a)))
    (if (eqb case 4) (date_named a b c d)
    (if (eqb case 5) (time_named a b c d)
    (if (eqb case 6) (object_id_named a b)
    (content_named case a))))))

-- what writing it at a place of a buffer answers and leaves
abbrev pub value_named_to : (case first second third fourth : ℕ) → (lent : List ℕ) → List ℕ → (place : ℕ) → Left
value_named_to case a b c d lent xs place = named_to (length lent) (value_named case a b c d) (λ v. value_to v lent) xs place

-- the value that the program names
abbrev pub paper_named : named.Option ApplicationDataValue → Option Value
paper_named = paper_named_by value_of
