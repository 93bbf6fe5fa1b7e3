-- The headers of document 01's sample of the program, with one more for 17, one for 11 and one for each kind written, and the inputs that request K2 and its readings name, by one statement over their lists, which antt computes.
-- Assumes nothing.
use mathlib.Core.Path.{◌≡◌, refl}
use Prim.Native.Nat.{ℕ}
use mathlib.Core.Bool.{true, false}
use mathlib.Core.List.{List, [], ◌∷◌, map}
use Rattle.types.specs.Tag.{application, context, opening, tag}
use Rattle.types.specs.Refusal.{amount, tag_found}
use Rattle.types.specs.Answer.{Answer, accepted, refused}
use Rattle.numbers.specs.Integer.{unsigned_length, unsigned_bytes}
use Rattle.numbers.specs.Reading.{byte_from, slice_from, fixed_from, content_from, unsigned_from}
use Rattle.tags.specs.Reading.{number_from, tag_value_from, tag_after, tag_from, expected_from}
use Rattle.tags.specs.Writing.{tag_bytes}
use Rattle.values.specs.Integer.{enumerated_under}
use Rattle.values.specs.Enumerated.{enumerated_from}
use Rattle.headers.specs.Header.{request, simple, complex, segment, error, reject, abort, nibbles, number, choice, flag, enumeration, Header, header}
use Rattle.headers.specs.Reading.{header_after, header_from}
use Rattle.headers.specs.Writing.{header_bytes}

-- the sample's three frames; a segmented complex acknowledgement of one byte; a simple one with choice 34
abbrev pub frames : List (List ℕ)
frames =
    (0x00 ∷ 0x05 ∷ 0x01 ∷ 0x0C ∷ 0x0C ∷ 0x00 ∷ 0x80 ∷ 0x00 ∷ 0x05 ∷ 0x19 ∷ 0x55 ∷ [])
    ∷ (0x30 ∷ 0x01 ∷ 0x0C ∷ 0x0C ∷ 0x00 ∷ 0x80 ∷ 0x00 ∷ 0x05 ∷ 0x19 ∷ 0x55 ∷ 0x3E ∷ 0x44 ∷ 0x42 ∷ 0x90 ∷ 0x00 ∷ 0x00 ∷ 0x3F ∷ [])
    ∷ (0x20 ∷ 0x01 ∷ [])
    ∷ (0x38 ∷ [])
    ∷ (0x20 ∷ 0x01 ∷ 0x22 ∷ [])
    ∷ []

-- errors, rejects and aborts: three that are read, the last with low bits that are ignored; another of a reason of 255; a class in five bytes, and bytes behind the code that are no part of the header;
-- 3 behind the control byte, where bit 3 is no segment's; 11 before any class; 4 for an application tag, a context tag and an opening; 7 for lengths 0 and 9; 3 for the class's tag, its content and the code's tag; 18 where no code follows; 17 for type 1
abbrev pub answering : List (List ℕ)
answering =
    (0x50 ∷ 0x07 ∷ 0x0C ∷ 0x91 ∷ 0x02 ∷ 0x91 ∷ 0x20 ∷ [])
    ∷ (0x60 ∷ 0x07 ∷ 0x09 ∷ [])
    ∷ (0x71 ∷ 0x07 ∷ 0x04 ∷ [])
    ∷ (0x7E ∷ 0x07 ∷ 0x04 ∷ [])
    ∷ (0x60 ∷ 0x07 ∷ 0xFF ∷ [])
    ∷ (0x5F ∷ 0x07 ∷ 0x0C ∷ 0x95 ∷ 0x05 ∷ 0x00 ∷ 0x00 ∷ 0x00 ∷ 0x00 ∷ 0x02 ∷ 0x91 ∷ 0x20 ∷ 0x3F ∷ [])
    ∷ (0x58 ∷ 0x07 ∷ 0x09 ∷ [])
    ∷ (0x50 ∷ 0x07 ∷ 0x22 ∷ [])
    ∷ (0x50 ∷ 0x07 ∷ 0x0C ∷ 0x21 ∷ [])
    ∷ (0x50 ∷ 0x07 ∷ 0x0C ∷ 0x99 ∷ 0x01 ∷ 0x91 ∷ 0x20 ∷ [])
    ∷ (0x50 ∷ 0x07 ∷ 0x0A ∷ 0x0E ∷ 0x91 ∷ 0x02 ∷ 0x91 ∷ 0x20 ∷ 0x0F ∷ [])
    ∷ (0x50 ∷ 0x07 ∷ 0x0C ∷ 0x90 ∷ [])
    ∷ (0x50 ∷ 0x07 ∷ 0x0C ∷ 0x95 ∷ 0x09 ∷ [])
    ∷ (0x50 ∷ 0x07 ∷ 0x0C ∷ [])
    ∷ (0x50 ∷ 0x07 ∷ 0x0C ∷ 0x92 ∷ [])
    ∷ (0x50 ∷ 0x07 ∷ 0x0C ∷ 0x91 ∷ 0x02 ∷ [])
    ∷ (0x50 ∷ 0x07 ∷ 0x0C ∷ 0x95 ∷ 0x05 ∷ 0x01 ∷ 0x00 ∷ 0x00 ∷ 0x00 ∷ 0x00 ∷ [])
    ∷ (0x10 ∷ [])
    ∷ []

abbrev pub answered : List (Answer Header)
answered =
    accepted (header error (number 7 ∷ choice 12 ∷ enumeration 2 ∷ enumeration 32 ∷ [])) 7
    ∷ accepted (header reject (number 7 ∷ number 9 ∷ [])) 3
    ∷ accepted (header abort (flag true ∷ number 7 ∷ number 4 ∷ [])) 3
    ∷ accepted (header abort (flag false ∷ number 7 ∷ number 4 ∷ [])) 3
    ∷ accepted (header reject (number 7 ∷ number 255 ∷ [])) 3
    ∷ accepted (header error (number 7 ∷ choice 12 ∷ enumeration 2 ∷ enumeration 32 ∷ [])) 12
    ∷ refused 3 (amount 3)
    ∷ refused 11 (amount 34)
    ∷ refused 4 (tag_found (tag (application 2) 1))
    ∷ refused 4 (tag_found (tag (context 9) 1))
    ∷ refused 4 (tag_found (tag (opening 0) 0))
    ∷ refused 7 (amount 0)
    ∷ refused 7 (amount 9)
    ∷ refused 3 (amount 3)
    ∷ refused 3 (amount 6)
    ∷ refused 3 (amount 5)
    ∷ refused 18 (amount 0)
    ∷ refused 17 (amount 16)
    ∷ []

abbrev pub answers : List (Answer Header)
answers =
    accepted (header request (nibbles 0 5 ∷ number 1 ∷ choice 12 ∷ [])) 4
    ∷ accepted (header complex (number 1 ∷ choice 12 ∷ [])) 3
    ∷ refused 3 (amount 2)
    ∷ refused 17 (amount 0x38)
    ∷ refused 11 (amount 34)
    ∷ []

-- a request that accepts no segments and one that does; a simple, a complex and a segment acknowledgement; two errors, a reject, and an abort of a server and of a client
abbrev pub headers : List Header
headers =
    header request (nibbles 0 5 ∷ number 1 ∷ choice 12 ∷ [])
    ∷ header request (nibbles 7 5 ∷ number 1 ∷ choice 12 ∷ [])
    ∷ header simple (number 1 ∷ choice 15 ∷ [])
    ∷ header complex (number 1 ∷ choice 12 ∷ [])
    ∷ header segment (number 1 ∷ number 2 ∷ number 3 ∷ [])
    ∷ header error (number 7 ∷ choice 12 ∷ enumeration 2 ∷ enumeration 32 ∷ [])
    ∷ header error (number 7 ∷ choice 12 ∷ enumeration 65536 ∷ enumeration 4294967295 ∷ [])
    ∷ header reject (number 7 ∷ number 9 ∷ [])
    ∷ header abort (flag true ∷ number 7 ∷ number 4 ∷ [])
    ∷ header abort (flag false ∷ number 7 ∷ number 4 ∷ [])
    ∷ []

abbrev pub written : List (List ℕ)
written =
    (0x00 ∷ 0x05 ∷ 0x01 ∷ 0x0C ∷ [])
    ∷ (0x02 ∷ 0x75 ∷ 0x01 ∷ 0x0C ∷ [])
    ∷ (0x20 ∷ 0x01 ∷ 0x0F ∷ [])
    ∷ (0x30 ∷ 0x01 ∷ 0x0C ∷ [])
    ∷ (0x40 ∷ 0x01 ∷ 0x02 ∷ 0x03 ∷ [])
    ∷ (0x50 ∷ 0x07 ∷ 0x0C ∷ 0x91 ∷ 0x02 ∷ 0x91 ∷ 0x20 ∷ [])
    ∷ (0x50 ∷ 0x07 ∷ 0x0C ∷ 0x93 ∷ 0x01 ∷ 0x00 ∷ 0x00 ∷ 0x94 ∷ 0xFF ∷ 0xFF ∷ 0xFF ∷ 0xFF ∷ [])
    ∷ (0x60 ∷ 0x07 ∷ 0x09 ∷ [])
    ∷ (0x71 ∷ 0x07 ∷ 0x04 ∷ [])
    ∷ (0x70 ∷ 0x07 ∷ 0x04 ∷ [])
    ∷ []

pub sample : (map (λ (f : List ℕ). header_from f 0) frames ≡ answers) × (map (λ (f : List ℕ). header_from f 0) answering ≡ answered) × (map header_bytes headers ≡ written)
unfolding header_from header_after byte_from header_bytes enumerated_from enumerated_under expected_from tag_from tag_after number_from tag_value_from fixed_from unsigned_from content_from slice_from tag_bytes unsigned_bytes unsigned_length
sample = (refl, refl, refl)
