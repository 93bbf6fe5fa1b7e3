-- Values at the edges of document 01's rules, by one statement over their list, which antt computes: each refusal in its order, and what it carries.
-- Assumes nothing.
use mathlib.Core.Path.{◌≡◌, refl}
use Prim.Native.Nat.{ℕ}
use mathlib.Core.Bool.{true}
use mathlib.Core.List.{List, [], ◌∷◌, map}
use lib.IntN.{negsuc}
use Rattle.types.specs.Tag.{application, context, opening, tag}
use Rattle.types.specs.Refusal.{amount, tag_found}
use Rattle.types.specs.Answer.{Answer, accepted, refused}
use Rattle.numbers.specs.Reading.{part_at, byte_from, slice_from, fixed_from, content_from, unsigned_from, signed_from}
use Rattle.tags.specs.Reading.{number_from, tag_value_from, tag_after, tag_from}
use Rattle.utf8.specs.Table.{UTF8-1, UTF8-2, UTF8-3, UTF8-4, UTF8-char}
use Rattle.utf8.specs.Check.{within, begins, sequence_length, after_first, check_from, check_of}
use Rattle.values.specs.Boolean.{boolean_under}
use Rattle.values.specs.Integer.{enumerated_under}
use Rattle.values.specs.Real.{float_under}
use Rattle.values.specs.Text.{text_in, text_under}
use Rattle.values.specs.Bits.{bits_under}
use Rattle.values.specs.Date.{date, date_under}
use Rattle.values.specs.Time.{time, time_under}
use Rattle.values.specs.ObjectId.{object_id_under}
use Rattle.values.specs.Value.{Value, boolean, on_date, at_time, object_id, character_string, octet_string, enumerated, bit_string, signed_int}
use Rattle.values.specs.Reading.{real_or_double, of_kind, under_tag, value_from}

abbrev pub buffers : List (List ℕ)
buffers =
    (0x21 ∷ []) ∷ (0x20 ∷ []) ∷ (0x11 ∷ []) ∷ (0x14 ∷ []) ∷ (0x32 ∷ 0xFF ∷ 0x7F ∷ [])
    ∷ (0xA4 ∷ 0xFF ∷ 0x0C ∷ 0x1F ∷ 0x07 ∷ []) ∷ (0xA3 ∷ 0x01 ∷ 0x02 ∷ 0x03 ∷ []) ∷ (0xA4 ∷ 0x01 ∷ []) ∷ (0xB4 ∷ 0x01 ∷ [])
    ∷ (0xB4 ∷ 0x17 ∷ 0x3B ∷ 0x3B ∷ 0x63 ∷ []) ∷ (0xC4 ∷ 0x02 ∷ 0x00 ∷ 0x00 ∷ 0x05 ∷ [])
    ∷ (0x70 ∷ []) ∷ (0x71 ∷ 0x05 ∷ []) ∷ (0x75 ∷ 0x09 ∷ 0x04 ∷ []) ∷ (0x71 ∷ 0x00 ∷ []) ∷ (0x74 ∷ 0x00 ∷ 0xE2 ∷ 0x82 ∷ 0x41 ∷ [])
    ∷ (0x80 ∷ []) ∷ (0x81 ∷ 0x09 ∷ []) ∷ (0x60 ∷ [])
    ∷ (0x95 ∷ 0x05 ∷ 0x01 ∷ 0x00 ∷ 0x00 ∷ 0x00 ∷ 0x00 ∷ []) ∷ (0x94 ∷ 0xFF ∷ 0xFF ∷ 0xFF ∷ 0xFF ∷ [])
    ∷ (0x00 ∷ []) ∷ (0x55 ∷ 0x08 ∷ []) ∷ (0x1C ∷ []) ∷ (0x43 ∷ []) ∷ (0xFE ∷ 0x0F ∷ []) ∷ []

abbrev pub answers : List (Answer Value)
answers =
    refused 3 (amount 2) ∷ refused 7 (amount 0) ∷ accepted (boolean true) 1 ∷ accepted (boolean true) 1 ∷ accepted (signed_int (negsuc 128)) 3
    ∷ accepted (on_date (date 2155 12 31 7)) 5 ∷ refused 7 (amount 3) ∷ refused 3 (amount 5) ∷ refused 3 (amount 2)
    ∷ accepted (at_time (time 23 59 59 99)) 5 ∷ accepted (object_id 8 5) 5
    ∷ refused 7 (amount 0) ∷ refused 9 (amount 5) ∷ refused 9 (amount 4) ∷ accepted (character_string (part_at 2 0)) 2 ∷ refused 10 (amount 0)
    ∷ refused 7 (amount 0) ∷ accepted (bit_string 9 (part_at 2 0)) 2 ∷ accepted (octet_string (part_at 1 0)) 1
    ∷ refused 18 (amount 0) ∷ accepted (enumerated 4294967295) 5
    ∷ refused 8 (tag_found (tag (application 0) 0)) ∷ refused 8 (tag_found (tag (application 5) 8)) ∷ refused 8 (tag_found (tag (context 1) 4)) ∷ refused 7 (amount 3) ∷ refused 8 (tag_found (tag (opening 15) 0)) ∷ []

pub edges : map (λ (xs : List ℕ). value_from xs 0) buffers ≡ answers
unfolding byte_from slice_from fixed_from content_from unsigned_from signed_from number_from tag_value_from tag_after tag_from UTF8-1 UTF8-2 UTF8-3 UTF8-4 UTF8-char within begins sequence_length after_first check_from check_of boolean_under float_under real_or_double text_in text_under bits_under enumerated_under date_under time_under object_id_under of_kind under_tag value_from
edges = refl
