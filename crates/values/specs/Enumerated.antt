-- An enumerated value under its own tag (ASHRAE 135, 20.2.11): read, written, and which bytes are one.
-- Assumes nothing.
use Rattle.std.specs.Prelude.{ℕ, ◌+◌, ◌<◌, ◌≤◌, ◌≡◌, ◌⊎◌, List, ◌++◌, length, drop, Result}
use Rattle.types.specs.Tag.{application, Tag, tag}
use Rattle.types.specs.Refusal.{Carried, amount, tag_found}
use Rattle.types.specs.Answer.{Answer, accepted, refused, then, paper_read}
use Rattle.numbers.specs.Integer.{unsigned_value, unsigned_bytes, Bytes}
use Rattle.tags.specs.Header.{IsTag}
use Rattle.tags.specs.Reading.{tag_from, expected_from}
use Rattle.tags.specs.Item.{item_bytes}
use Rattle.values.specs.Integer.{enumerated_under, IsInteger, IsEnumerated}
use Rattle.types.specs.declared.refusal.Refusal.{Refusal}

-- the enumerated value at a place: application tag 9, another being refused 4, and its content
unfoldable pub enumerated_from : List ℕ → ℕ → Answer ℕ
enumerated_from xs place = then (expected_from (application 9) xs place) (λ t next. enumerated_under t.value xs next)

-- its bytes as they are written: the content in the fewest
abbrev pub enumerated_bytes : ℕ → List ℕ
enumerated_bytes x = item_bytes (application 9) (unsigned_bytes x)

abbrev pub paper_enumerated : Result (ℕ × ℕ) Refusal → Answer ℕ
paper_enumerated = paper_read

-- bytes that are one whole enumerated value under its tag, said and not computed
pub data IsEnumeratedItem : ℕ → List ℕ → Type 0 where
  under_nine : {len x : ℕ} {head content : List ℕ} → IsTag (tag (application 9) len) head → IsEnumerated len content x → IsEnumeratedItem x (head ++ content)

-- bytes that are one in its shortest form: no bytes that are the same one are fewer
abbrev pub Fewest : ℕ → List ℕ → Type 0
Fewest x bytes = (other : List ℕ) → Bytes other → IsEnumeratedItem x other → length bytes ≤ length other

-- why none is read at a place inside a buffer, with the refusal's number and what it carries: no whole tag stands there, and the tag's own 3 is carried; another tag; its length is not 1 to 8;
-- its content passes the end, and the place where it should end is carried; it has more than 32 bits
pub data NoEnumerated (xs : List ℕ) (place : ℕ) : ℕ → Carried → Type 0 where
  tag_runs_out : {c : Carried} → tag_from xs place ≡ refused 3 c → NoEnumerated xs place 3 c
  other_tag : {t : Tag} (head rest : List ℕ) → drop place xs ≡ head ++ rest → IsTag t head → (t.number ≡ application 9 → ⊥) → NoEnumerated xs place 4 (tag_found t)
  other_length : {len : ℕ} (head rest : List ℕ) → drop place xs ≡ head ++ rest → IsTag (tag (application 9) len) head → (len < 1) ⊎ (8 < len) → NoEnumerated xs place 7 (amount len)
  content_runs_out : {len : ℕ} (head rest : List ℕ) → drop place xs ≡ head ++ rest → IsTag (tag (application 9) len) head → 1 ≤ len → len ≤ 8 → length rest < len → NoEnumerated xs place 3 (amount (place + length head + len))
  too_large : (len x : ℕ) (head content rest : List ℕ) → drop place xs ≡ head ++ (content ++ rest) → IsTag (tag (application 9) len) head → IsInteger unsigned_value len content x → 4294967295 < x → NoEnumerated xs place 18 (amount 0)

-- what reading one at a place is to answer
pub data EnumeratedAnswers (xs : List ℕ) (place : ℕ) : Answer ℕ → Type 0 where
  buffer_too_long : 65535 < length xs → EnumeratedAnswers xs place (refused 1 (amount (length xs)))
  place_past_end : length xs ≤ 65535 → length xs < place → EnumeratedAnswers xs place (refused 2 (amount place))
  is_none : {n : ℕ} {c : Carried} → length xs ≤ 65535 → place ≤ length xs → NoEnumerated xs place n c → EnumeratedAnswers xs place (refused n c)
  is_there : {x next : ℕ} (bytes rest : List ℕ) → length xs ≤ 65535 → drop place xs ≡ bytes ++ rest → IsEnumeratedItem x bytes → next ≡ place + length bytes → EnumeratedAnswers xs place (accepted x next)
