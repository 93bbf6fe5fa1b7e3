-- The rule for the bytes of a row, proved once over every row: they are read as what they carry, and refused exactly where they break off or have a service choice above 33.
-- Assumes nothing.
use mathlib.Core.Path.{◌≡◌, refl, ◌∙◌, ap, sym, subst}
use Prim.Native.Nat.{ℕ, suc, ◌+◌, ◌/◌, ◌%◌, ◌<◌, ◌≤◌}
use native.Mathlib.Nat.{add-zero, div-add-mod'}
use native.Mathlib.Numerals.{add-one}
use native.Mathlib.Omega.{arith}
use mathlib.Core.List.{List, [], ◌∷◌, ◌++◌}
use lib.Dec.{ltb, leb}
use lib.ListN.{length, drop, length-drop, drop_of_length-le}
use lib.Seq.{drop-cons}
use borrow.Author.Tests.{lt-ltb, le-ltb, ltb-true, ltb-false, le-leb, leb-true, leb-false}
use Rattle.types.specs.Refusal.{amount}
use Rattle.types.specs.Answer.{Answer, accepted, refused, then}
use Rattle.types.proofs.Choices.{either}
use Rattle.numbers.specs.Reading.{byte_from}
use Rattle.numbers.proofs.Found.{ByteFound, byte_at, behind}
use Rattle.headers.specs.Header.{Field, two_nibbles, one_number, one_choice, FieldValue}
use Rattle.headers.specs.Reading.{told, fields_from}
use Rattle.headers.specs.Bytes.{Carries, as_nibbles, as_number, as_choice, AreFields, none, more, BreakOff, here, later, UpToChoiceAbove, at, after}

-- what holds of each case of reading a byte holds of reading it
pub byte_cases : (xs : List ℕ) (place : ℕ) (P : Answer ℕ → Type 0)
    → (65535 < length xs → P (refused 1 (amount (length xs))))
    → (length xs ≤ 65535 → length xs < place → P (refused 2 (amount place)))
    → (length xs ≤ 65535 → place ≤ length xs → drop place xs ≡ [] → P (refused 3 (amount (length xs))))
    → ((b next : ℕ) → ByteFound xs place b next → P (accepted b next))
    → P (byte_from xs place)
unfolding byte_from
byte_cases xs place P long past end found =
    either P (ltb 65535 (length xs)) (λ e. long (ltb-true 65535 (length xs) e)) (λ e.
    let s : length xs ≤ 65535 = ltb-false 65535 (length xs) e in
    either P (ltb (length xs) place) (λ f. past s (ltb-true (length xs) place f)) (λ f.
    either P (leb (length xs) place)
    (λ g. end s (ltb-false (length xs) place f) (drop_of_length-le xs {i = place} (leb-true (length xs) place g)))
    (λ g. let l : place < length xs = leb-false (length xs) place g in
    found _ _ (record { small = s; inside = l; ends = refl; here = rw (add-one place, drop-cons xs place 0 l) }))))

-- where nothing is left, a byte is refused 3 with the end
pub byte_missing : (xs : List ℕ) (place : ℕ) → length xs ≤ 65535 → place ≤ length xs → drop place xs ≡ [] → byte_from xs place ≡ refused 3 (amount (length xs))
unfolding byte_from
byte_missing xs place small inside e =
    let l : length xs ≤ place = omega (arith, length-drop place xs, ap length e) in
    simp (le-ltb 65535 (length xs) small, le-ltb (length xs) place inside, le-leb (length xs) place l)

-- a byte that carries a value is told as it, and any other is a service choice above 33
module _ (b next : ℕ) where
  pub told_cases : (f : Field) (P : Answer FieldValue → Type 0) → ((v : FieldValue) → Carries f v b → P (accepted v next)) → (f ≡ one_choice → 33 < b → P (refused 11 (amount b))) → P (told f b next)
  told_cases two_nibbles P g h = g _ (as_nibbles {a = b / 16} {b = b % 16} {byte = b} (omega arith) (sym (div-add-mod' b 16)))
  told_cases one_number P g h = g _ as_number
  told_cases one_choice P g h = either P (ltb 33 b) (λ e. h refl (ltb-true 33 b e)) (λ e. g _ (as_choice (ltb-false 33 b e)))

pub told_carried : {f : Field} {v : FieldValue} {b : ℕ} (next : ℕ) → Carries f v b → told f b next ≡ accepted v next
told_carried next (as_nibbles {a} {b} {byte} h e) =
    let q : byte / 16 ≡ a = omega arith in
    let r : byte % 16 ≡ b = omega arith in
    rw (q, r)
told_carried next as_number = refl
told_carried next (as_choice {c} h) = simp (le-ltb 33 c h)

-- what reading a row's bytes at a place is to answer
pub data RowAnswers (fs : List Field) (xs : List ℕ) (place : ℕ) : Answer (List FieldValue) → Type 0 where
  whole_row : {vs : List FieldValue} {next : ℕ} (bytes rest : List ℕ) → drop place xs ≡ bytes ++ rest → AreFields fs vs bytes → next ≡ place + length bytes → RowAnswers fs xs place (accepted vs next)
  broken_row : BreakOff fs (drop place xs) → RowAnswers fs xs place (refused 3 (amount (length xs)))
  choice_above_in_row : {c : ℕ} (bytes rest : List ℕ) → drop place xs ≡ bytes ++ rest → UpToChoiceAbove fs c bytes → RowAnswers fs xs place (refused 11 (amount c))

-- behind a byte the place is one further
stepped : (xs : List ℕ) (place b : ℕ) (rest : List ℕ) → drop place xs ≡ b ∷ rest → drop (place + 1) xs ≡ rest
stepped xs place b rest e = behind xs place (b ∷ []) rest e

module _ (xs : List ℕ) (small : length xs ≤ 65535) where
  -- one byte more in front of a row
  in_front : {f : Field} {fs : List Field} {v : FieldValue} {b next : ℕ} (place : ℕ) → ByteFound xs place b next → Carries f v b → (a : Answer (List FieldValue)) → RowAnswers fs xs next a
      → RowAnswers (f ∷ fs) xs place (then a (λ vs end. accepted (v ∷ vs) end))
  in_front {b = b} place g c (accepted vs end) (whole_row bytes rest e are n) =
      let m : end ≡ place + suc (length bytes) = omega (arith, g.ends) in
      whole_row (b ∷ bytes) rest (g.here ∙ ap (λ (t : List ℕ). b ∷ t) e) (more c are) m
  in_front {f} {fs} {b = b} place g c (refused _ _) (broken_row o) = broken_row (subst (BreakOff (f ∷ fs)) (sym g.here) (later c o))
  in_front {b = b} place g c (refused _ _) (choice_above_in_row bytes rest e u) = choice_above_in_row (b ∷ bytes) rest (g.here ∙ ap (λ (t : List ℕ). b ∷ t) e) (after c u)

  pub row_sound : (fs : List Field) (place : ℕ) → place ≤ length xs → RowAnswers fs xs place (fields_from fs xs place)
  row_sound [] place l = whole_row [] (drop place xs) refl none (sym (add-zero place))
  row_sound (f ∷ fs) place l =
      byte_cases xs place (λ r. RowAnswers (f ∷ fs) xs place (then r (λ b after. then (told f b after) (λ v behind. then (fields_from fs xs behind) (λ vs next. accepted (v ∷ vs) next)))))
      (λ h. absurd (omega arith))
      (λ s h. absurd (omega arith))
      (λ s i e. broken_row (subst (BreakOff (f ∷ fs)) (sym e) here))
      (λ b after g.
      told_cases b after f (λ r. RowAnswers (f ∷ fs) xs place (then r (λ v behind. then (fields_from fs xs behind) (λ vs next. accepted (v ∷ vs) next))))
      (λ v c. in_front place g c (fields_from fs xs after) (row_sound fs after (omega (arith, g.ends, g.inside))))
      (λ q h. choice_above_in_row (b ∷ []) (drop after xs) g.here (subst (λ (x : Field). UpToChoiceAbove (x ∷ fs) b (b ∷ [])) (sym q) (at h))))

  row_whole : {fs : List Field} {vs : List FieldValue} {bytes : List ℕ} (place : ℕ) (rest : List ℕ) → drop place xs ≡ bytes ++ rest → AreFields fs vs bytes → fields_from fs xs place ≡ accepted vs (place + length bytes)
  row_whole place rest e none = ap (accepted []) (sym (add-zero place))
  row_whole place rest e (more {f} {fs} {v} {vs} {b} {bytes} c are) =
      let s : place + 1 + length bytes ≡ place + suc (length bytes) = omega arith in
      simp (byte_at xs place b (bytes ++ rest) small e, told_carried (place + 1) c, row_whole (place + 1) rest (stepped xs place b (bytes ++ rest) e) are)
      (ap (accepted (v ∷ vs)) s)

  row_broken : {fs : List Field} {bytes : List ℕ} (place : ℕ) → place ≤ length xs → drop place xs ≡ bytes → BreakOff fs bytes → fields_from fs xs place ≡ refused 3 (amount (length xs))
  row_broken place l e here = simp (byte_missing xs place small l e)
  row_broken place l e (later {b = b} {bytes = bytes} c o) =
      let m : place + 1 ≤ length xs = omega (arith, length-drop place xs, ap length e) in
      simp (byte_at xs place b bytes small e, told_carried (place + 1) c, row_broken (place + 1) m (stepped xs place b bytes e) o)

  row_choice_above : {fs : List Field} {c : ℕ} {bytes : List ℕ} (place : ℕ) (rest : List ℕ) → drop place xs ≡ bytes ++ rest → UpToChoiceAbove fs c bytes → fields_from fs xs place ≡ refused 11 (amount c)
  row_choice_above place rest e (at {c = c} h) = simp (byte_at xs place c rest small e, lt-ltb 33 c h)
  row_choice_above place rest e (after {b = b} {bytes = bytes} c u) =
      simp (byte_at xs place b (bytes ++ rest) small e, told_carried (place + 1) c, row_choice_above (place + 1) rest (stepped xs place b (bytes ++ rest) e) u)

  pub row_complete : (fs : List Field) (place : ℕ) → place ≤ length xs → (a : Answer (List FieldValue)) → RowAnswers fs xs place a → fields_from fs xs place ≡ a
  row_complete fs place l (accepted vs next) (whole_row bytes rest e are n) = row_whole place rest e are ∙ ap (accepted vs) (sym n)
  row_complete fs place l _ (broken_row o) = row_broken place l refl o
  row_complete fs place l _ (choice_above_in_row bytes rest e u) = row_choice_above place rest e u
