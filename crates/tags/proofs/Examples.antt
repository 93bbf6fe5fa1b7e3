-- Document 01's starred examples, all twelve with their headers, tags read in either form of a block's number (document 02, K1), and integers by the room that there is (K14), by one statement over each list, which antt computes.
-- Assumes nothing.
use mathlib.Core.Path.{◌≡◌, refl, ap}
use Prim.Native.Nat.{ℕ}
use native.Mathlib.Omega.{arith}
use mathlib.Core.List.{List, [], ◌∷◌, map}
use lib.Dec.{lit<}
use lib.ListN.{length}
use lib.IntN.{pos, negsuc}
use Rattle.types.specs.Padded.{padded}
use Rattle.types.specs.Tag.{application, context, opening, closing, Tag, tag}
use Rattle.types.specs.Refusal.{amount, tag_found}
use Rattle.types.specs.Answer.{Answer, accepted, refused}
use Rattle.types.specs.Writing.{Left, left, write_answer, writing}
use Rattle.numbers.specs.Integer.{unsigned_length, signed_length, unsigned_bytes, signed_bytes, Bytes}
use Rattle.numbers.specs.Reading.{byte_from, slice_from, fixed_from, content_from, unsigned_from}
use Rattle.tags.specs.Reading.{number_from, tag_value_from, tag_after, tag_from, expected_from}
use Rattle.tags.specs.Writing.{tag_bytes, tag_value_allowed}
use Rattle.tags.specs.Item.{item_bytes, item_to, item_lent_to}
use Rattle.tags.specs.Room.{ReadsUnsigned}
use Rattle.tags.proofs.Form.{also}
use Rattle.tags.proofs.ReadsAs.{unsigned_kind, begins_no_other}

-- unsigned 0 and 256; signed 127, 128, -128 and -129; octet headers of 253, 300, 65,535 and 65,536; context 14 and 15 with value 4
abbrev pub written : List (List ℕ)
written =
    item_bytes (application 2) (unsigned_bytes 0) ∷ item_bytes (application 2) (unsigned_bytes 256)
    ∷ item_bytes (application 3) (signed_bytes (pos 127)) ∷ item_bytes (application 3) (signed_bytes (pos 128))
    ∷ item_bytes (application 3) (signed_bytes (negsuc 127)) ∷ item_bytes (application 3) (signed_bytes (negsuc 128))
    ∷ tag_bytes (tag (application 6) 253) ∷ tag_bytes (tag (application 6) 300) ∷ tag_bytes (tag (application 6) 65535) ∷ tag_bytes (tag (application 6) 65536)
    ∷ tag_bytes (tag (context 14) 4) ∷ tag_bytes (tag (context 15) 4) ∷ []

abbrev pub expected : List (List ℕ)
expected =
    (0x21 ∷ 0x00 ∷ []) ∷ (0x22 ∷ 0x01 ∷ 0x00 ∷ [])
    ∷ (0x31 ∷ 0x7F ∷ []) ∷ (0x32 ∷ 0x00 ∷ 0x80 ∷ [])
    ∷ (0x31 ∷ 0x80 ∷ []) ∷ (0x32 ∷ 0xFF ∷ 0x7F ∷ [])
    ∷ (0x65 ∷ 0xFD ∷ []) ∷ (0x65 ∷ 0xFE ∷ 0x01 ∷ 0x2C ∷ []) ∷ (0x65 ∷ 0xFE ∷ 0xFF ∷ 0xFF ∷ []) ∷ (0x65 ∷ 0xFF ∷ 0x00 ∷ 0x01 ∷ 0x00 ∷ 0x00 ∷ [])
    ∷ (0xEC ∷ []) ∷ (0xFC ∷ 0x0F ∷ []) ∷ []

pub starred : written ≡ expected
unfolding tag_bytes unsigned_bytes unsigned_length signed_bytes signed_length
starred = refl

-- openings of 3 in the field and behind it, of 15 and of 255; closings of 3 likewise; one whose number is missing; a context tag of 3 behind the field; application 15, which neither opens nor closes
abbrev pub blocks : List (List ℕ)
blocks =
    (0x3E ∷ []) ∷ (0xFE ∷ 0x03 ∷ []) ∷ (0xFE ∷ 0x0F ∷ []) ∷ (0xFE ∷ 0xFF ∷ []) ∷ (0x3F ∷ []) ∷ (0xFF ∷ 0x03 ∷ [])
    ∷ (0xFE ∷ []) ∷ (0xF9 ∷ 0x03 ∷ []) ∷ (0xF6 ∷ []) ∷ (0xF7 ∷ []) ∷ []

abbrev pub blocks_read : List (Answer Tag)
blocks_read =
    accepted (tag (opening 3) 0) 1 ∷ accepted (tag (opening 3) 0) 2 ∷ accepted (tag (opening 15) 0) 2 ∷ accepted (tag (opening 255) 0) 2 ∷ accepted (tag (closing 3) 0) 1 ∷ accepted (tag (closing 3) 0) 2
    ∷ refused 3 (amount 1) ∷ accepted (tag (context 3) 1) 2 ∷ accepted (tag (application 15) 0) 1 ∷ accepted (tag (application 15) 0) 1 ∷ []

-- where context 15 is expected, its opening is another tag
pub both_forms : (map (λ (xs : List ℕ). tag_from xs 0) blocks ≡ blocks_read) × (expected_from (context 15) (0xFE ∷ 0x0F ∷ []) 0 ≡ refused 4 (tag_found (tag (opening 15) 0)))
unfolding byte_from slice_from fixed_from number_from tag_value_from tag_after tag_from expected_from
both_forms = (refl, refl)

-- unsigned 0 under context 15 at place 1 of four bytes and of three, and the largest enumerated value of 64 bits in ten bytes and in nine
abbrev pub rooms : List Left
rooms =
    item_to (context 15) (unsigned_bytes 0) (0xAA ∷ 0xAA ∷ 0xAA ∷ 0xAA ∷ []) 1 ∷ item_to (context 15) (unsigned_bytes 0) (0xAA ∷ 0xAA ∷ 0xAA ∷ []) 1
    ∷ item_to (application 9) (unsigned_bytes 0xFFFFFFFFFFFFFFFF) (padded 10 []) 0 ∷ item_to (application 9) (unsigned_bytes 0xFFFFFFFFFFFFFFFF) (padded 9 []) 0 ∷ []

abbrev pub rooms_left : List Left
rooms_left =
    left (accepted tt 4) (0xAA ∷ 0xF9 ∷ 0x0F ∷ 0x00 ∷ []) ∷ left (refused 13 (amount 3)) (0xAA ∷ 0xAA ∷ 0xAA ∷ [])
    ∷ left (accepted tt 10) (0x95 ∷ 0x08 ∷ 0xFF ∷ 0xFF ∷ 0xFF ∷ 0xFF ∷ 0xFF ∷ 0xFF ∷ 0xFF ∷ 0xFF ∷ []) ∷ left (refused 13 (amount 10)) (padded 9 []) ∷ []

pub by_room : rooms ≡ rooms_left
unfolding item_to item_lent_to writing write_answer tag_bytes tag_value_allowed unsigned_bytes unsigned_length
by_room = refl

-- 7 under application 2 in its shortest form, with the length behind the first byte, and with a byte of content too many
pub reads_alike : ReadsUnsigned (application 2) 7 (0x21 ∷ 0x07 ∷ []) × ReadsUnsigned (application 2) 7 (0x25 ∷ 0x01 ∷ 0x07 ∷ []) × ReadsUnsigned (application 2) 7 (0x22 ∷ 0x00 ∷ 0x07 ∷ [])
unfolding byte_from slice_from fixed_from content_from unsigned_from number_from tag_value_from tag_after tag_from
reads_alike = (
  record { bytes = also 0x21 (0x07 ∷ []) (lit< tt) seven; found = tag (application 2) 1; after = 1; next = 2; tag_read = refl; number = refl; integer_read = refl; whole = refl },
  record { bytes = also 0x25 (0x01 ∷ 0x07 ∷ []) (lit< tt) (also 0x01 (0x07 ∷ []) (lit< tt) seven); found = tag (application 2) 1; after = 2; next = 3; tag_read = refl; number = refl; integer_read = refl; whole = refl },
  record { bytes = also 0x22 (0x00 ∷ 0x07 ∷ []) (lit< tt) (also 0x00 (0x07 ∷ []) (lit< tt) seven); found = tag (application 2) 2; after = 1; next = 3; tag_read = refl; number = refl; integer_read = refl; whole = refl },
)
  where
    seven : Bytes (0x07 ∷ [])
    seven = also 0x07 [] (lit< tt) (λ i. lit< tt)

-- with a byte behind it, it does not read so
pub not_with_more : ReadsUnsigned (application 2) 7 (0x21 ∷ 0x07 ∷ 0x00 ∷ []) → ⊥
not_with_more r =
    let more : ◌≡◌ {A = List ℕ} (0x00 ∷ []) [] = begins_no_other unsigned_kind unsigned_kind (application 2) (application 2) 7 7 (0x21 ∷ 0x07 ∷ []) (0x00 ∷ []) reads_alike.0 r in
    omega (arith, ap length more)
