-- The rule for what stands behind a control byte, proved once over every row: the fixed bytes, and then the enumerated values, each of which is read as what it is, or refused exactly where there is none.
-- Assumes nothing.
use mathlib.Core.Path.{◌≡◌, refl, ◌∙◌, ap, sym, subst}
use Prim.Native.Nat.{ℕ, zero, suc, ◌+◌, ◌<◌, ◌≤◌}
use native.Mathlib.Nat.{add-zero}
use native.Mathlib.Omega.{arith}
use mathlib.Core.List.{List, [], ◌∷◌, ◌++◌, append_assoc}
use lib.ListN.{length, drop, length-drop, length-append}
use Rattle.types.specs.Refusal.{Carried, amount}
use Rattle.types.specs.Answer.{Answer, accepted, refused, then}
use Rattle.numbers.proofs.Found.{behind}
use Rattle.values.specs.Enumerated.{enumerated_from, IsEnumeratedItem, NoEnumerated, EnumeratedAnswers, buffer_too_long, place_past_end, is_none, is_there}
use Rattle.values.proofs.EnumeratedItems.{enumerated_answered, enumerated_answers}
use Rattle.headers.specs.Header.{FieldValue, enumeration, HeaderRow}
use Rattle.headers.specs.Reading.{fields_from, enumerations_from, following_from}
use Rattle.headers.specs.Bytes.{AreFields, BreakOff, UpToChoiceAbove, AreEnumerations, no_more, another}
use Rattle.headers.proofs.Row.{RowAnswers, whole_row, broken_row, choice_above_in_row, row_sound, row_complete}

-- what reading so many enumerated values at a place is to answer
pub data ValuesAnswer (n : ℕ) (xs : List ℕ) (place : ℕ) : Answer (List FieldValue) → Type 0 where
  whole_values : {vs : List FieldValue} {next : ℕ} (items rest : List ℕ) → drop place xs ≡ items ++ rest → AreEnumerations n vs items → next ≡ place + length items → ValuesAnswer n xs place (accepted vs next)
  no_value : {k : ℕ} {c : Carried} (found : ℕ) (vs : List FieldValue) (items rest : List ℕ) → drop place xs ≡ items ++ rest → AreEnumerations found vs items → found < n → NoEnumerated xs (place + length items) k c → ValuesAnswer n xs place (refused k c)

-- bytes, and others behind them where they end
joined_here : (xs : List ℕ) (place next : ℕ) (bytes rest items after : List ℕ) → drop place xs ≡ bytes ++ rest → next ≡ place + length bytes → drop next xs ≡ items ++ after → drop place xs ≡ bytes ++ (items ++ after)
joined_here xs place next bytes rest items after e n f =
    e ∙ ap (λ (l : List ℕ). bytes ++ l) (sym (behind xs place bytes rest e) ∙ ap (λ (p : ℕ). drop p xs) (sym n) ∙ f)

module _ (xs : List ℕ) (small : length xs ≤ 65535) where
  -- one value more in front of others
  value_in_front : {n x next : ℕ} {item : List ℕ} (place : ℕ) (rest : List ℕ) → drop place xs ≡ item ++ rest → IsEnumeratedItem x item → next ≡ place + length item → (a : Answer (List FieldValue)) → ValuesAnswer n xs next a
      → ValuesAnswer (suc n) xs place (then a (λ vs end. accepted (enumeration x ∷ vs) end))
  value_in_front {next = next} {item} place rest e i m (accepted vs end) (whole_values items after f are k) =
      let z : end ≡ place + length (item ++ items) = omega (arith, length-append item items) in
      whole_values (item ++ items) after (joined_here xs place next item rest items after e m f ∙ sym (append_assoc item items after)) (another i are) z
  value_in_front {n} {x} {next} {item} place rest e i m (refused _ _) (no_value {k} {c} found vs items after f are l why) =
      no_value (suc found) (enumeration x ∷ vs) (item ++ items) after (joined_here xs place next item rest items after e m f ∙ sym (append_assoc item items after)) (another i are) (omega arith)
      (subst (λ (p : ℕ). NoEnumerated xs p k c) (let z : next + length items ≡ place + length (item ++ items) = omega (arith, length-append item items) in z) why)

  values_sound : (n place : ℕ) → place ≤ length xs → ValuesAnswer n xs place (enumerations_from n xs place)
  values_sound zero place l = whole_values [] (drop place xs) refl no_more (sym (add-zero place))
  values_sound (suc n) place l = go (λ next i. values_sound n next i) (enumerated_from xs place) (enumerated_answered xs place)
    where
      go : ((next : ℕ) → next ≤ length xs → ValuesAnswer n xs next (enumerations_from n xs next)) → (a : Answer ℕ) → EnumeratedAnswers xs place a → ValuesAnswer (suc n) xs place (then a (λ x behind. then (enumerations_from n xs behind) (λ vs next. accepted (enumeration x ∷ vs) next)))
      go more _ (buffer_too_long h) = absurd (omega arith)
      go more _ (place_past_end s h) = absurd (omega arith)
      go more _ (is_none {n = k} {c} s i why) = no_value 0 [] [] (drop place xs) refl no_more (omega arith) (subst (λ (p : ℕ). NoEnumerated xs p k c) (sym (add-zero place)) why)
      go more _ (is_there {x} {next} item rest s e i m) =
          value_in_front place rest e i m (enumerations_from n xs next) (more next (omega (arith, length-drop place xs, ap length e, length-append item rest)))

  values_whole : {n : ℕ} {vs : List FieldValue} {items : List ℕ} (place : ℕ) (rest : List ℕ) → drop place xs ≡ items ++ rest → AreEnumerations n vs items → enumerations_from n xs place ≡ accepted vs (place + length items)
  values_whole place rest e no_more = ap (accepted []) (sym (add-zero place))
  values_whole place rest e (another {n} {x} {vs} {item} {bytes = items} i are) =
      let f : drop place xs ≡ item ++ (items ++ rest) = e ∙ append_assoc item items rest in
      simp (enumerated_answers xs place (accepted x (place + length item)) (is_there item (items ++ rest) small f i refl), values_whole (place + length item) rest (behind xs place item (items ++ rest) f) are)
      (ap (accepted (enumeration x ∷ vs)) (let z : place + length item + length items ≡ place + length (item ++ items) = omega (arith, length-append item items) in z))

  no_value_lem : {found : ℕ} {vs : List FieldValue} {items : List ℕ} {k : ℕ} {c : Carried} (n place : ℕ) (rest : List ℕ) → place ≤ length xs → drop place xs ≡ items ++ rest → AreEnumerations found vs items → found < n → NoEnumerated xs (place + length items) k c
      → enumerations_from n xs place ≡ refused k c
  no_value_lem zero place rest l e are few why = absurd (omega arith)
  no_value_lem {k = k} {c} (suc n) place rest l e no_more few why = simp (enumerated_answers xs place (refused k c) (is_none small l (subst (λ (p : ℕ). NoEnumerated xs p k c) (add-zero place) why)))
  no_value_lem {k = k} {c} (suc n) place rest l e (another {x = x} {item = item} {bytes = items} i are) few why =
      let f : drop place xs ≡ item ++ (items ++ rest) = e ∙ append_assoc item items rest in
      let z : place + length (item ++ items) ≡ place + length item + length items = omega (arith, length-append item items) in
      simp (
        enumerated_answers xs place (accepted x (place + length item)) (is_there item (items ++ rest) small f i refl),
        no_value_lem n (place + length item) rest (omega (arith, length-drop place xs, ap length f, length-append item (items ++ rest))) (behind xs place item (items ++ rest) f) are (omega arith) (subst (λ (p : ℕ). NoEnumerated xs p k c) z why),
      )

  values_complete : (n place : ℕ) → place ≤ length xs → (a : Answer (List FieldValue)) → ValuesAnswer n xs place a → enumerations_from n xs place ≡ a
  values_complete n place l (accepted vs next) (whole_values items rest e are m) = values_whole place rest e are ∙ ap (accepted vs) (sym m)
  values_complete n place l _ (no_value found vs items rest e are few why) = no_value_lem n place rest l e are few why

-- what reading what stands behind a control byte is to answer
pub data FollowingAnswers (r : HeaderRow) (xs : List ℕ) (place : ℕ) : Answer (List FieldValue) → Type 0 where
  whole_following : {vs ws : List FieldValue} {next : ℕ} (bytes items rest : List ℕ) → drop place xs ≡ bytes ++ (items ++ rest) → AreFields r.follow vs bytes → AreEnumerations r.enumerations ws items → next ≡ place + (length bytes + length items)
      → FollowingAnswers r xs place (accepted (vs ++ ws) next)
  broken_following : BreakOff r.follow (drop place xs) → FollowingAnswers r xs place (refused 3 (amount (length xs)))
  choice_above_following : {c : ℕ} (bytes rest : List ℕ) → drop place xs ≡ bytes ++ rest → UpToChoiceAbove r.follow c bytes → FollowingAnswers r xs place (refused 11 (amount c))
  no_value_following : {k : ℕ} {c : Carried} (found : ℕ) (vs ws : List FieldValue) (bytes items rest : List ℕ) → drop place xs ≡ bytes ++ (items ++ rest) → AreFields r.follow vs bytes → AreEnumerations found ws items → found < r.enumerations
      → NoEnumerated xs (place + (length bytes + length items)) k c → FollowingAnswers r xs place (refused k c)

module _ (r : HeaderRow) (xs : List ℕ) (small : length xs ≤ 65535) where
  -- the values behind fixed bytes that were read
  behind_fields : {vs : List FieldValue} {next : ℕ} (place : ℕ) (bytes rest : List ℕ) → drop place xs ≡ bytes ++ rest → AreFields r.follow vs bytes → next ≡ place + length bytes → (a : Answer (List FieldValue)) → ValuesAnswer r.enumerations xs next a
      → FollowingAnswers r xs place (then a (λ ws end. accepted (vs ++ ws) end))
  behind_fields {next = next} place bytes rest e are m (accepted ws end) (whole_values items after f values k) =
      let z : end ≡ place + (length bytes + length items) = omega arith in
      whole_following bytes items after (joined_here xs place next bytes rest items after e m f) are values z
  behind_fields {vs} {next} place bytes rest e are m (refused _ _) (no_value {k} {c} found ws items after f values few why) =
      no_value_following found vs ws bytes items after (joined_here xs place next bytes rest items after e m f) are values few
      (subst (λ (p : ℕ). NoEnumerated xs p k c) (let z : next + length items ≡ place + (length bytes + length items) = omega arith in z) why)

  pub following_sound : (place : ℕ) → place ≤ length xs → FollowingAnswers r xs place (following_from r xs place)
  following_sound place l = go (fields_from r.follow xs place) (row_sound xs small r.follow place l)
    where
      go : (a : Answer (List FieldValue)) → RowAnswers r.follow xs place a → FollowingAnswers r xs place (then a (λ vs behind. then (enumerations_from r.enumerations xs behind) (λ ws next. accepted (vs ++ ws) next)))
      go (accepted vs next) (whole_row bytes rest e are m) =
          behind_fields place bytes rest e are m (enumerations_from r.enumerations xs next) (values_sound xs small r.enumerations next (omega (arith, length-drop place xs, ap length e, length-append bytes rest)))
      go _ (broken_row o) = broken_following o
      go _ (choice_above_in_row bytes rest e u) = choice_above_following bytes rest e u

  -- fixed bytes that stand there are read, and what is behind them is read on
  fields_read : {vs : List FieldValue} (place : ℕ) (bytes rest : List ℕ) → place ≤ length xs → drop place xs ≡ bytes ++ rest → AreFields r.follow vs bytes → (a : Answer (List FieldValue)) → ValuesAnswer r.enumerations xs (place + length bytes) a
      → following_from r xs place ≡ then a (λ ws next. accepted (vs ++ ws) next)
  fields_read {vs} place bytes rest l e are a v =
      let m : place + length bytes ≤ length xs = omega (arith, length-drop place xs, ap length e, length-append bytes rest) in
      ap (λ (b : Answer (List FieldValue)). then b (λ ws behind. then (enumerations_from r.enumerations xs behind) (λ zs next. accepted (ws ++ zs) next))) (row_complete xs small r.follow place l (accepted vs (place + length bytes)) (whole_row bytes rest e are refl))
      ∙ ap (λ (b : Answer (List FieldValue)). then b (λ ws next. accepted (vs ++ ws) next)) (values_complete xs small r.enumerations (place + length bytes) m a v)

  row_refused : (place n : ℕ) (c : Carried) → place ≤ length xs → RowAnswers r.follow xs place (refused n c) → following_from r xs place ≡ refused n c
  row_refused place n c l w =
      ap (λ (b : Answer (List FieldValue)). then b (λ vs behind. then (enumerations_from r.enumerations xs behind) (λ ws next. accepted (vs ++ ws) next))) (row_complete xs small r.follow place l (refused n c) w)

  pub following_complete : (place : ℕ) → place ≤ length xs → (a : Answer (List FieldValue)) → FollowingAnswers r xs place a → following_from r xs place ≡ a
  following_complete place l _ (whole_following {vs} {ws} {next} bytes items rest e are values m) =
      let z : next ≡ place + length bytes + length items = omega arith in
      fields_read place bytes (items ++ rest) l e are (accepted ws next) (whole_values items rest (behind xs place bytes (items ++ rest) e) values z)
  following_complete place l _ (broken_following o) = row_refused place 3 (amount (length xs)) l (broken_row o)
  following_complete place l _ (choice_above_following {c} bytes rest e u) = row_refused place 11 (amount c) l (choice_above_in_row bytes rest e u)
  following_complete place l _ (no_value_following {k} {c} found vs ws bytes items rest e are values few why) =
      fields_read place bytes (items ++ rest) l e are (refused k c) (no_value found ws items rest (behind xs place bytes (items ++ rest) e) values few
      (subst (λ (p : ℕ). NoEnumerated xs p k c) (let z : place + (length bytes + length items) ≡ place + length bytes + length items = omega arith in z) why))
