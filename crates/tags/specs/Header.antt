-- A tag's bytes, said and not computed (ASHRAE 135, 20.2.1, as 01 restates it): which bytes are one whole tag and nothing more.
-- Assumes nothing.
use Rattle.std.specs.Prelude.{ℕ, ◌/◌, ◌%◌, ◌<◌, ◌≤◌, ◌≡◌, List, [], ◌∷◌, ◌++◌, length}
use Rattle.types.specs.Tag.{application, context, opening, closing, Tag, tag}
use Rattle.numbers.specs.Integer.{unsigned_value}

-- bit 3 of a tag's first byte, its class: 0 is application, 1 context (20.2.1.1)
abbrev pub class_bit : ℕ → ℕ
class_bit first = first / 8 % 2

-- bits 7 to 4, its number field, which is at most 15 in a byte (20.2.1.2)
abbrev pub number_field : ℕ → ℕ
number_field first = first / 16

-- the three low bits, its length, value or type (20.2.1.3)
abbrev pub low_bits : ℕ → ℕ
low_bits first = first % 8

-- low bits, the value that they tell, and the bytes that follow for it (20.2.1.3.1)
pub data TellsValue : ℕ → ℕ → List ℕ → Type 0 where
  inline : {low : ℕ} → low < 5 → TellsValue low low []
  one : {b : ℕ} → (b ≡ 254 → ⊥) → (b ≡ 255 → ⊥) → TellsValue 5 b (b ∷ [])
  two : (bytes : List ℕ) → length bytes ≡ 2 → TellsValue 5 (unsigned_value bytes) (254 ∷ bytes)
  four : (bytes : List ℕ) → length bytes ≡ 4 → TellsValue 5 (unsigned_value bytes) (255 ∷ bytes)
  none : {low : ℕ} → 5 < low → TellsValue low 0 []

-- a number field in context class, the number that it tells, and the bytes that follow for it: below 15 it is the number, and 15 says that the second byte is, whatever that is (20.2.1.2)
pub data TellsNumber : ℕ → ℕ → List ℕ → Type 0 where
  in_field : {field : ℕ} → field < 15 → TellsNumber field field []
  in_second : {field n : ℕ} → 15 ≤ field → TellsNumber field n (n ∷ [])

-- bytes that are one whole tag (20.2.1.4, 20.2.1.5): in context class low bits 6 open and 7 close, with no bytes for a value (20.2.1.3.2)
pub data IsTag : Tag → List ℕ → Type 0 where
  of_application : {first v : ℕ} {bytes : List ℕ} → class_bit first ≡ 0
      → TellsValue (low_bits first) v bytes → IsTag (tag (application (number_field first)) v) (first ∷ bytes)
  of_context : {first n v : ℕ} {number bytes : List ℕ} → class_bit first ≡ 1 → TellsNumber (number_field first) n number → low_bits first < 6
      → TellsValue (low_bits first) v bytes → IsTag (tag (context n) v) (first ∷ (number ++ bytes))
  of_opening : {first n : ℕ} {number : List ℕ} → class_bit first ≡ 1 → TellsNumber (number_field first) n number → low_bits first ≡ 6
      → IsTag (tag (opening n) 0) (first ∷ number)
  of_closing : {first n : ℕ} {number : List ℕ} → class_bit first ≡ 1 → TellsNumber (number_field first) n number → low_bits first ≡ 7
      → IsTag (tag (closing n) 0) (first ∷ number)
