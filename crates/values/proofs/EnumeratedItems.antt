-- Enumerated values under their own tag: each answer of the reader is given exactly in its case, and what is written for one is that one.
-- Assumes nothing.
use mathlib.Core.Path.{◌≡◌, refl, ◌∙◌, ap, sym, subst}
use mathlib.Core.Logic.{◌⊎◌, inl, inr}
use mathlib.Core.Bool.{Bool, true, false}
use Prim.Native.Nat.{ℕ, ◌+◌, ◌<◌, ◌≤◌}
use native.Mathlib.Omega.{arith}
use mathlib.Core.List.{List, ◌++◌, append_assoc}
use lib.Dec.{ltb}
use lib.ListN.{length, drop, length-drop, length-append}
use borrow.Author.Tests.{lt-ltb, le-ltb, ltb-true, ltb-false}
use Rattle.types.specs.Choice.{if}
use Rattle.types.specs.Tag.{Number, application, Tag, tag}
use Rattle.types.specs.Refusal.{Carried, amount, tag_found}
use Rattle.types.specs.Answer.{Answer, accepted, refused, then}
use Rattle.types.proofs.Choices.{either}
use Rattle.types.proofs.Class.{same_exactly}
use Rattle.numbers.specs.Integer.{unsigned_value, unsigned_bytes}
use Rattle.numbers.specs.Reading.{slice_from, content_from, unsigned_from}
use Rattle.numbers.proofs.Found.{unsigned_found, behind}
use Rattle.numbers.proofs.Shortest.{unsigned_length_lem}
use Rattle.numbers.proofs.Least.{length_between}
use Rattle.tags.specs.Header.{IsTag}
use Rattle.tags.specs.Reading.{tag_from, same_number, expected_from}
use Rattle.tags.proofs.Exactly.{TagFound, tag_found_lem, tag_read, tag_length}
use Rattle.tags.proofs.Range.{OrRunsOut, tag_or_run_out}
use Rattle.tags.proofs.Refusals.{too_long, past_end}
use Rattle.tags.proofs.Back.{header_is_tag}
use Rattle.values.specs.Integer.{enumerated_under, IsInteger, IsEnumerated}
use Rattle.values.specs.Enumerated.{enumerated_from, enumerated_bytes, IsEnumeratedItem, under_nine, NoEnumerated, tag_runs_out, other_tag, other_length, content_runs_out, too_large, EnumeratedAnswers, buffer_too_long, place_past_end, is_none, is_there}
use Rattle.values.proofs.Integers.{is_integer, unsigned_read, enumerated_read, enumerated_is}

-- what holds of each case of reading an unsigned integer at a place inside a buffer holds of reading it
module _ (len : ℕ) (xs : List ℕ) (place : ℕ) (small : length xs ≤ 65535) (inside : place ≤ length xs) where
  unsigned_cases : (P : Answer ℕ → Type 0)
      → ((len < 1) ⊎ (8 < len) → P (refused 7 (amount len)))
      → (1 ≤ len → len ≤ 8 → length xs < place + len → P (refused 3 (amount (place + len))))
      → ((x next : ℕ) → unsigned_from len xs place ≡ accepted x next → P (accepted x next))
      → P (unsigned_from len xs place)
  unfolding unsigned_from content_from slice_from
  unsigned_cases P other short found = go (ltb len 1) refl (ltb 8 len) refl (ltb (length xs) (place + len)) refl
    where
      go : (a : Bool) → ltb len 1 ≡ a → (b : Bool) → ltb 8 len ≡ b → (c : Bool) → ltb (length xs) (place + len) ≡ c → P (unsigned_from len xs place)
      go true e b f c g = simp (le-ltb 65535 (length xs) small, le-ltb (length xs) place inside, e) (other (inl (ltb-true len 1 e)))
      go false e true f c g = simp (le-ltb 65535 (length xs) small, le-ltb (length xs) place inside, e, f) (other (inr (ltb-true 8 len f)))
      go false e false f true g = simp (le-ltb 65535 (length xs) small, le-ltb (length xs) place inside, e, f, g) (short (omega (arith, ltb-false len 1 e)) (ltb-false 8 len f) (ltb-true (length xs) (place + len) g))
      go false e false f false g = simp (le-ltb 65535 (length xs) small, le-ltb (length xs) place inside, e, f, g) (found _ _ (simp (le-ltb 65535 (length xs) small, le-ltb (length xs) place inside, e, f, g)))

-- what a tag of application class and number 9 is to be followed by
module _ (xs : List ℕ) (place : ℕ) where
  -- where such a tag was read, its content says which case it is
  content_answered : (v next : ℕ) → TagFound xs place (tag (application 9) v) next → EnumeratedAnswers xs place (enumerated_under v xs next)
  unfolding enumerated_under
  content_answered v next f =
      unsigned_cases v xs next f.small f.inside (λ (a : Answer ℕ). EnumeratedAnswers xs place (then a (λ x end. if (ltb 4294967295 x) (refused 18 (amount 0)) (accepted x end))))
      (λ o. is_none f.small inside (other_length f.bytes (drop next xs) f.here f.is_tag o))
      (λ s m l. is_none f.small inside (subst (λ (p : ℕ). NoEnumerated xs place 3 (amount (p + v))) (sym f.ends) (content_runs_out f.bytes (drop next xs) f.here f.is_tag s m (omega (arith, length-drop next xs, f.inside)))))
      (λ x end e.
      let i = unsigned_found v xs next x end e in
      let h : drop place xs ≡ f.bytes ++ (i.bytes ++ drop end xs) = f.here ∙ ap (λ (l : List ℕ). f.bytes ++ l) i.here in
      either (EnumeratedAnswers xs place) (ltb 4294967295 x)
      (λ g. is_none f.small inside (too_large v x f.bytes i.bytes (drop end xs) h f.is_tag (is_integer i) (ltb-true 4294967295 x g)))
      (λ g. is_there (f.bytes ++ i.bytes) (drop end xs) f.small (h ∙ sym (append_assoc f.bytes i.bytes (drop end xs)))
      (under_nine f.is_tag (record { integer = is_integer i; fits = ltb-false 4294967295 x g }))
      (omega (arith, f.ends, i.ends, i.sized, length-append f.bytes i.bytes))))
    where
      inside : place ≤ length xs
      inside = omega (arith, f.ends, f.inside)

  -- where any tag was read, its class and number say whether it is that one
  tag_answered : (n : Number) (v next : ℕ) → TagFound xs place (tag n v) next
      → EnumeratedAnswers xs place (then (if (same_number n (application 9)) (accepted (tag n v) next) (refused 4 (tag_found (tag n v)))) (λ t end. enumerated_under t.value xs end))
  tag_answered n v next f = go (same_number n (application 9)) refl
    where
      go : (b : Bool) → same_number n (application 9) ≡ b → EnumeratedAnswers xs place (then (if b (accepted (tag n v) next) (refused 4 (tag_found (tag n v)))) (λ t end. enumerated_under t.value xs end))
      go true e = content_answered v next (subst (λ (m : Number). TagFound xs place (tag m v) next) ((same_exactly n (application 9)).0 e) f)
      go false e = is_none f.small (omega (arith, f.ends, f.inside)) (other_tag f.bytes (drop next xs) f.here f.is_tag (λ g.
          let z = (same_exactly n (application 9)).1 g in
          let y : ◌≡◌ {A = ℕ} 0 1 = cc in omega arith))

  -- the reader answers what it is to answer
  pub enumerated_answered : EnumeratedAnswers xs place (enumerated_from xs place)
  unfolding enumerated_from expected_from
  enumerated_answered = go (ltb 65535 (length xs)) refl (ltb (length xs) place) refl
    where
      read : length xs ≤ 65535 → place ≤ length xs → (a : Answer Tag) → tag_from xs place ≡ a
          → EnumeratedAnswers xs place (then (then a (λ t next. if (same_number t.number (application 9)) (accepted t next) (refused 4 (tag_found t)))) (λ t end. enumerated_under t.value xs end))
      read s l (accepted t next) e = tag_answered t.number t.value next (tag_found_lem xs place t next e)
      read s l (refused n c) e =
          let r = subst (OrRunsOut xs (place + 7)) e (tag_or_run_out xs s place l) in
          is_none s l (subst (λ (m : ℕ). NoEnumerated xs place m c) (sym r.number) (tag_runs_out (e ∙ ap (λ (m : ℕ). refused m c) r.number)))

      go : (a : Bool) → ltb 65535 (length xs) ≡ a → (b : Bool) → ltb (length xs) place ≡ b → EnumeratedAnswers xs place (enumerated_from xs place)
      go true e b f = let h = ltb-true 65535 (length xs) e in simp (too_long xs place h) (buffer_too_long h)
      go false e true f = let s = ltb-false 65535 (length xs) e in let h = ltb-true (length xs) place f in simp (past_end xs place s h) (place_past_end s h)
      go false e false f = read (ltb-false 65535 (length xs) e) (ltb-false (length xs) place f) (tag_from xs place) refl

  -- a whole tag of that class and number stands there: what is under it is read on
  module _ (small : length xs ≤ 65535) (len : ℕ) (head rest : List ℕ) (e : drop place xs ≡ head ++ rest) (is : IsTag (tag (application 9) len) head) where
    under_read : enumerated_from xs place ≡ enumerated_under len xs (place + length head)
    unfolding enumerated_from expected_from
    under_read = simp (tag_read xs small place (tag (application 9) len) head rest e is)

    reaches : length xs ≡ place + length head + length rest
    reaches = omega (arith, length-drop place xs, ap length e, length-append head rest, (tag_length is).0)

    -- a length that is not 1 to 8 is refused before any byte of the content is read
    length_refused : (len < 1) ⊎ (8 < len) → enumerated_from xs place ≡ refused 7 (amount len)
    unfolding enumerated_under unsigned_from content_from
    length_refused (inl h) = let r = reaches in under_read ∙ simp (le-ltb 65535 (length xs) small, le-ltb (length xs) (place + length head) (omega arith), lt-ltb len 1 h)
    length_refused (inr h) = let r = reaches in under_read ∙ simp (le-ltb 65535 (length xs) small, le-ltb (length xs) (place + length head) (omega arith), le-ltb len 1 (omega arith), lt-ltb 8 len h)

    short_refused : 1 ≤ len → len ≤ 8 → length rest < len → enumerated_from xs place ≡ refused 3 (amount (place + length head + len))
    unfolding enumerated_under unsigned_from content_from slice_from
    short_refused s m h = let r = reaches in under_read ∙ simp (le-ltb 65535 (length xs) small, le-ltb (length xs) (place + length head) (omega arith), le-ltb len 1 s, le-ltb 8 len m, lt-ltb (length xs) (place + length head + len) (omega arith))

  -- and its content, where it is whole
  module _ (small : length xs ≤ 65535) (len : ℕ) (head content rest : List ℕ) (e : drop place xs ≡ head ++ (content ++ rest)) (is : IsTag (tag (application 9) len) head) where
    large_refused : (x : ℕ) → IsInteger unsigned_value len content x → 4294967295 < x → enumerated_from xs place ≡ refused 18 (amount 0)
    unfolding enumerated_under
    large_refused x i g = under_read small len head (content ++ rest) e is ∙ simp (unsigned_read xs (place + length head) content rest small (behind xs place head (content ++ rest) e) i, lt-ltb 4294967295 x g)

    item_read : {x : ℕ} → IsEnumerated len content x → enumerated_from xs place ≡ accepted x (place + length (head ++ content))
    item_read {x} i =
        under_read small len head (content ++ rest) e is
        ∙ enumerated_read xs (place + length head) content rest small (behind xs place head (content ++ rest) e) i
        ∙ ap (accepted x) (let z : place + length head + length content ≡ place + length (head ++ content) = omega (arith, length-append head content) in z)

  none_read : length xs ≤ 65535 → place ≤ length xs → {n : ℕ} {c : Carried} → NoEnumerated xs place n c → enumerated_from xs place ≡ refused n c
  unfolding enumerated_from expected_from
  none_read s l (tag_runs_out e) = simp e
  none_read s l (other_tag {t} head rest e is o) = simp (tag_read xs s place t head rest e is, other (same_number t.number (application 9)) refl)
    where
      other : (b : Bool) → same_number t.number (application 9) ≡ b → same_number t.number (application 9) ≡ false
      other true f = absurd (o ((same_exactly t.number (application 9)).0 f))
      other false f = f
  none_read s l (other_length {len} head rest e is o) = length_refused s len head rest e is o
  none_read s l (content_runs_out {len} head rest e is p q r) = short_refused s len head rest e is p q r
  none_read s l (too_large len x head content rest e is i g) = large_refused s len head content rest e is x i g

  there_read : {x : ℕ} {bytes : List ℕ} → length xs ≤ 65535 → (rest : List ℕ) → drop place xs ≡ bytes ++ rest → IsEnumeratedItem x bytes → enumerated_from xs place ≡ accepted x (place + length bytes)
  there_read s rest e (under_nine {len} {x} {head} {content} is i) = item_read s len head content rest (e ∙ append_assoc head content rest) is i

  -- what the reader is to answer it answers, and nothing else
  pub enumerated_answers : (a : Answer ℕ) → EnumeratedAnswers xs place a → enumerated_from xs place ≡ a
  unfolding enumerated_from expected_from
  enumerated_answers _ (buffer_too_long h) = simp (too_long xs place h)
  enumerated_answers _ (place_past_end s h) = simp (past_end xs place s h)
  enumerated_answers _ (is_none s l n) = none_read s l n
  enumerated_answers _ (is_there {x} bytes rest s e i n) = there_read s rest e i ∙ ap (accepted x) (sym n)

-- the bytes that are written for a number of 32 bits are that number
pub enumerated_item : (x : ℕ) → x ≤ 4294967295 → IsEnumeratedItem x (enumerated_bytes x)
enumerated_item x h = under_nine (header_is_tag (application 9) (length (unsigned_bytes x)) (omega (arith, unsigned_length_lem x, length_between x))) (enumerated_is x h)

-- an enumerated value has 32 bits, and takes two bytes at the least
pub item_fits : {x : ℕ} {bytes : List ℕ} → IsEnumeratedItem x bytes → x ≤ 4294967295
item_fits (under_nine is i) = i.fits

pub item_length : {x : ℕ} {bytes : List ℕ} → IsEnumeratedItem x bytes → 2 ≤ length bytes
item_length (under_nine {head = head} {content = content} is i) = omega (arith, length-append head content, (tag_length is).0, i.integer.some, i.integer.sized)
