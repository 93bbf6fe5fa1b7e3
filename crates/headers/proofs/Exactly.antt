-- A header is read exactly where its bytes stand, and each refusal is given exactly in its case: the executable and the declarative definition agree, for every byte list and place.
-- Assumes nothing.
use mathlib.Core.Path.{◌≡◌, refl, ◌∙◌, ap, sym, subst}
use mathlib.Core.Logic.{◌↔◌, ◌⊎◌, inl, inr, ⊎_elim}
use mathlib.Core.Bool.{false}
use Prim.Native.Nat.{ℕ, suc, ◌+◌, ◌*◌, ◌≤◌}
use native.Mathlib.Omega.{arith}
use mathlib.Core.List.{List, [], ◌∷◌, ◌++◌, append_assoc}
use lib.Dec.{eqb}
use lib.ListN.{length, drop, length-drop, length-append}
use borrow.Author.Tests.{lt-ltb, le-ltb, eqb-false}
use Rattle.types.specs.Refusal.{Carried, amount}
use Rattle.types.specs.Answer.{Answer, accepted, refused, then}
use Rattle.numbers.specs.Reading.{byte_from}
use Rattle.numbers.proofs.Found.{ByteFound, byte_at, behind}
use Rattle.headers.specs.Header.{Kind, Field, FieldValue, Header, header, row_of}
use Rattle.values.specs.Enumerated.{NoEnumerated, tag_runs_out, other_tag, other_length, content_runs_out, too_large}
use Rattle.values.proofs.EnumeratedItems.{item_length}
use Rattle.headers.specs.Reading.{following_from, kind_from, header_after, header_from}
use Rattle.headers.specs.Bytes.{AreFields, none, more, BreakOff, AreEnumerations, no_more, another, TellsKind, IsHeader, of_row, Broken, empty, in_row, Found, OtherType, ChoiceAbove, RunsOut, NoEnumeration, Answers, too_long, past_end, runs_out, other_type, choice_above, no_enumeration, whole}
use Rattle.headers.proofs.Row.{byte_cases, byte_missing}
use Rattle.headers.proofs.Following.{FollowingAnswers, whole_following, broken_following, choice_above_following, no_value_following, following_sound, following_complete}
use Rattle.headers.proofs.Control.{after_cases, after_told, after_none}

-- fixed bytes are as many as their row says, and an enumerated value has two at the least
fields_length : {fs : List Field} {vs : List FieldValue} {bytes : List ℕ} → AreFields fs vs bytes → length bytes ≡ length fs
fields_length none = refl
fields_length (more c are) = ap suc (fields_length are)

values_length : {n : ℕ} {vs : List FieldValue} {items : List ℕ} → AreEnumerations n vs items → n * 2 ≤ length items
values_length no_more = omega arith
values_length (another {item = item} {bytes = items} i are) = omega (arith, length-append item items, item_length i, values_length are)

-- so a header is its control byte and its row's bytes, and where it has no enumerated values nothing else
is_length : {h : Header} {bytes : List ℕ} → IsHeader h bytes → (suc (length (row_of h.kind).follow + (row_of h.kind).enumerations * 2) ≤ length bytes) × ((row_of h.kind).enumerations ≡ 0 → length bytes ≡ suc (length (row_of h.kind).follow))
is_length (of_row {bytes = bytes} {items = items} w are values) =
    (omega (arith, length-append bytes items, fields_length are, values_length values), λ e. let z = no_values values e in omega (arith, length-append bytes items, fields_length are))
  where
    no_values : {n : ℕ} {vs : List FieldValue} {more : List ℕ} → AreEnumerations n vs more → n ≡ 0 → length more ≡ 0
    no_values no_more e = refl
    no_values (another i rest) e = absurd (omega arith)

-- the refusals of an enumerated value that are no other part's of a header, and those that are another's
abbrev pub OfValue : ℕ → Type 0
OfValue n = (n ≡ 4) ⊎ ((n ≡ 7) ⊎ (n ≡ 18))

not_of_value : (n : ℕ) → eqb n 4 ≡ false → eqb n 7 ≡ false → eqb n 18 ≡ false → OfValue n → ⊥
not_of_value n a b c (inl e) = eqb-false n 4 a e
not_of_value n a b c (inr (inl e)) = eqb-false n 7 b e
not_of_value n a b c (inr (inr e)) = eqb-false n 18 c e

never : {xs : List ℕ} {place n : ℕ} {c : Carried} → NoEnumerated xs place n c → (n ≡ 11 → ⊥) × (n ≡ 17 → ⊥)
never (tag_runs_out e) = (eqb-false 3 11 refl, eqb-false 3 17 refl)
never (other_tag head rest e is o) = (eqb-false 4 11 refl, eqb-false 4 17 refl)
never (other_length head rest e is o) = (eqb-false 7 11 refl, eqb-false 7 17 refl)
never (content_runs_out head rest e is s m l) = (eqb-false 3 11 refl, eqb-false 3 17 refl)
never (too_large len x head content rest e is i g) = (eqb-false 18 11 refl, eqb-false 18 17 refl)

module _ (xs : List ℕ) (place : ℕ) where
  -- what stands behind a control byte that tells its kind makes a header
  with_control : (control next : ℕ) → ByteFound xs place control next → (k : Kind) → TellsKind k control → (a : Answer (List FieldValue)) → FollowingAnswers (row_of k) xs next a
      → Answers xs place (then a (λ vs end. accepted (header k ((row_of k).held control ++ vs)) end))
  with_control control next g k w _ (whole_following {next = end} bytes items rest e are values n) =
      let m : end ≡ place + suc (length (bytes ++ items)) = omega (arith, g.ends, length-append bytes items) in
      let f : drop place xs ≡ control ∷ ((bytes ++ items) ++ rest) = g.here ∙ ap (λ (t : List ℕ). control ∷ t) (e ∙ sym (append_assoc bytes items rest)) in
      whole (record { small = g.small; bytes = control ∷ (bytes ++ items); rest = rest; here = f; is_header = of_row w are values; ends = m })
  with_control control next g k w _ (broken_following o) =
      runs_out (record { small = g.small; inside = omega (arith, g.inside); broken = subst Broken (sym g.here) (in_row w o); carries = refl })
  with_control control next g k w _ (choice_above_following {c} bytes rest e u) =
      choice_above (record { small = g.small; kind = k; control = control; bytes = bytes; rest = rest; here = g.here ∙ ap (λ (t : List ℕ). control ∷ t) e; of_kind = w; found = c; up_to = u; carries = refl })
  with_control control next g k w _ (no_value_following {k = n} {c} found vs ws bytes items rest e are values few why) =
      no_enumeration (record {
        small = g.small;
        kind = k;
        control = control;
        fields = vs;
        values = ws;
        bytes = bytes;
        items = items;
        rest = rest;
        here = g.here ∙ ap (λ (t : List ℕ). control ∷ t) e;
        of_kind = w;
        are_fields = are;
        found = found;
        are_found = values;
        not_all = few;
        none = subst (λ (p : ℕ). NoEnumerated xs p n c) (let z : next + (length bytes + length items) ≡ place + suc (length bytes + length items) = omega (arith, g.ends) in z) why;
      })

  -- the reader answers what it is to answer
  pub answered : Answers xs place (header_from xs place)
  unfolding header_from
  answered =
      byte_cases xs place (λ r. Answers xs place (then r (λ control after. header_after control xs after)))
      too_long
      past_end
      (λ s i e. runs_out (record { small = s; inside = i; broken = subst Broken (sym e) empty; carries = refl }))
      (λ control next g.
      after_cases control xs next (Answers xs place)
      (λ k w. with_control control next g k w (following_from (row_of k) xs next) (following_sound (row_of k) xs g.small next (omega (arith, g.ends, g.inside))))
      (λ n. other_type (record { small = g.small; control = control; rest = drop next xs; here = g.here; of_none = n; carries = refl })))

  -- what is known of a buffer where a control byte stands
  module _ (small : length xs ≤ 65535) (control : ℕ) (rest : List ℕ) (e : drop place xs ≡ control ∷ rest) where
    inside : place + 1 ≤ length xs
    inside = omega (arith, length-drop place xs, ap length e)

    further : drop (place + 1) xs ≡ rest
    further = behind xs place (control ∷ []) rest e

    of_kind_lem : (k : Kind) → TellsKind k control → header_from xs place ≡ kind_from k ((row_of k).held control) xs (place + 1)
    unfolding header_from
    of_kind_lem k w = simp (byte_at xs place control rest small e) (after_told control xs (place + 1) k w)

    of_none_lem : ((k : Kind) → TellsKind k control → ⊥) → header_from xs place ≡ refused 17 (amount control)
    unfolding header_from
    of_none_lem n = simp (byte_at xs place control rest small e) (after_none control xs (place + 1) n)

    -- and its row behind it
    of_row_lem : (k : Kind) → TellsKind k control → (a : Answer (List FieldValue)) → FollowingAnswers (row_of k) xs (place + 1) a → header_from xs place ≡ then a (λ vs next. accepted (header k ((row_of k).held control ++ vs)) next)
    of_row_lem k w a r = of_kind_lem k w ∙ ap (λ (x : Answer (List FieldValue)). then x (λ vs next. accepted (header k ((row_of k).held control ++ vs)) next)) (following_complete (row_of k) xs small (place + 1) inside a r)

  whole_read : {h : Header} {next : ℕ} → (bytes rest : List ℕ) → length xs ≤ 65535 → drop place xs ≡ bytes ++ rest → next ≡ place + length bytes → IsHeader h bytes → header_from xs place ≡ accepted h next
  whole_read {next = next} _ rest small e n (of_row {k} {control} {vs} {ws} {bytes} {items} w are values) =
      let m : next ≡ place + 1 + (length bytes + length items) = omega (arith, length-append bytes items) in
      let f : drop place xs ≡ control ∷ (bytes ++ (items ++ rest)) = e ∙ ap (λ (t : List ℕ). control ∷ t) (append_assoc bytes items rest) in
      of_row_lem small control (bytes ++ (items ++ rest)) f k w (accepted (vs ++ ws) next) (whole_following bytes items rest (further small control (bytes ++ (items ++ rest)) f) are values m)

  broken_read : (bytes : List ℕ) → length xs ≤ 65535 → place ≤ length xs → drop place xs ≡ bytes → Broken bytes → header_from xs place ≡ refused 3 (amount (length xs))
  unfolding header_from
  broken_read _ small l e empty = simp (byte_missing xs place small l e)
  broken_read _ small l e (in_row {k} {control} {bytes} w o) =
      of_row_lem small control bytes e k w (refused 3 (amount (length xs))) (broken_following (subst (BreakOff (row_of k).follow) (sym (further small control bytes e)) o))

  none_read : {n : ℕ} {c : Carried} → NoEnumeration xs place n c → header_from xs place ≡ refused n c
  none_read {n} {c} r =
      let rest : List ℕ = r.bytes ++ (r.items ++ r.rest) in
      of_row_lem r.small r.control rest r.here r.kind r.of_kind (refused n c)
      (no_value_following r.found r.fields r.values r.bytes r.items r.rest (further r.small r.control rest r.here) r.are_fields r.are_found r.not_all
      (subst (λ (p : ℕ). NoEnumerated xs p n c) (let z : place + suc (length r.bytes + length r.items) ≡ place + 1 + (length r.bytes + length r.items) = omega arith in z) r.none))

  -- what the reader is to answer it answers, and nothing else
  pub answers : (a : Answer Header) → Answers xs place a → header_from xs place ≡ a
  unfolding header_from byte_from
  answers _ (too_long h) = simp (lt-ltb 65535 (length xs) h)
  answers _ (past_end s h) = simp (le-ltb 65535 (length xs) s, lt-ltb (length xs) place h)
  answers _ (runs_out r) = broken_read (drop place xs) r.small r.inside refl r.broken ∙ ap (refused 3) (sym r.carries)
  answers _ (other_type r) = of_none_lem r.small r.control r.rest r.here r.of_none ∙ ap (refused 17) (sym r.carries)
  answers _ (choice_above r) =
      of_row_lem r.small r.control (r.bytes ++ r.rest) r.here r.kind r.of_kind (refused 11 (amount r.found)) (choice_above_following r.bytes r.rest (further r.small r.control (r.bytes ++ r.rest) r.here) r.up_to)
      ∙ ap (refused 11) (sym r.carries)
  answers _ (no_enumeration r) = none_read r
  answers _ (whole r) = whole_read r.bytes r.rest r.small r.here r.ends r.is_header

  -- an answer tells which case it is
  abbrev Case : Answer Header → Type 0
  Case (accepted h next) = Found xs place h next
  Case (refused n c) = (n ≡ 3 → RunsOut xs place c ⊎ NoEnumeration xs place n c) × (n ≡ 11 → ChoiceAbove xs place c) × (n ≡ 17 → OtherType xs place c) × (OfValue n → NoEnumeration xs place n c)

  case : (a : Answer Header) → Answers xs place a → Case a
  case _ (too_long h) = (λ e. absurd (eqb-false 1 3 refl e), λ e. absurd (eqb-false 1 11 refl e), λ e. absurd (eqb-false 1 17 refl e), λ o. absurd (not_of_value 1 refl refl refl o))
  case _ (past_end s h) = (λ e. absurd (eqb-false 2 3 refl e), λ e. absurd (eqb-false 2 11 refl e), λ e. absurd (eqb-false 2 17 refl e), λ o. absurd (not_of_value 2 refl refl refl o))
  case _ (runs_out r) = (λ e. inl r, λ e. absurd (eqb-false 3 11 refl e), λ e. absurd (eqb-false 3 17 refl e), λ o. absurd (not_of_value 3 refl refl refl o))
  case _ (other_type r) = (λ e. absurd (eqb-false 17 3 refl e), λ e. absurd (eqb-false 17 11 refl e), λ e. r, λ o. absurd (not_of_value 17 refl refl refl o))
  case _ (choice_above r) = (λ e. absurd (eqb-false 11 3 refl e), λ e. r, λ e. absurd (eqb-false 11 17 refl e), λ o. absurd (not_of_value 11 refl refl refl o))
  case _ (no_enumeration r) = (λ e. inr r, λ e. absurd ((never r.none).0 e), λ e. absurd ((never r.none).1 e), λ o. r)
  case _ (whole r) = r

  which : (a : Answer Header) → header_from xs place ≡ a → Case a
  which a e = case a (subst (Answers xs place) e answered)

  -- a header is read exactly where its bytes stand, with the place behind them
  pub read_exactly : (h : Header) (next : ℕ) → (header_from xs place ≡ accepted h next) ↔ Found xs place h next
  read_exactly h next = (which (accepted h next), λ r. answers (accepted h next) (whole r))

  -- 3 exactly where what stands there breaks off: before the last fixed byte, carrying the buffer's end; or inside an enumerated value, as its own 3
  pub runs_out_exactly : (c : Carried) → (header_from xs place ≡ refused 3 c) ↔ (RunsOut xs place c ⊎ NoEnumeration xs place 3 c)
  runs_out_exactly c = (λ e. (which (refused 3 c) e).0 refl, ⊎_elim (λ r. answers (refused 3 c) (runs_out r)) (λ r. answers (refused 3 c) (no_enumeration r)))

  -- 4, 7 and 18 exactly where an enumerated value is to stand and something else does: another tag, another length, more than 32 bits
  pub no_enumeration_exactly : (n : ℕ) (c : Carried) → OfValue n → (header_from xs place ≡ refused n c) ↔ NoEnumeration xs place n c
  no_enumeration_exactly n c o = (λ e. (which (refused n c) e).3 o, λ r. answers (refused n c) (no_enumeration r))

  -- 11 exactly where a service choice above 33 stands in a header, carrying it
  pub choice_above_exactly : (c : Carried) → (header_from xs place ≡ refused 11 c) ↔ ChoiceAbove xs place c
  choice_above_exactly c = (λ e. (which (refused 11 c) e).1 refl, λ r. answers (refused 11 c) (choice_above r))

  -- 17 exactly where the control byte is of no kind, carrying it, whatever follows
  pub other_type_exactly : (c : Carried) → (header_from xs place ≡ refused 17 c) ↔ OtherType xs place c
  other_type_exactly c = (λ e. (which (refused 17 c) e).2 refl, λ r. answers (refused 17 c) (other_type r))

  -- a header that was read ends inside the buffer, behind the bytes of its row and two at the least for each enumerated value
  pub moves_on : (h : Header) (next : ℕ) → header_from xs place ≡ accepted h next → (place + suc (length (row_of h.kind).follow + (row_of h.kind).enumerations * 2) ≤ next) × (next ≤ length xs)
  moves_on h next e =
      let f = (read_exactly h next).0 e in
      let l = is_length f.is_header in
      (omega (arith, f.ends), omega (arith, f.ends, length-drop place xs, ap length f.here, length-append f.bytes f.rest))

  -- and where it has none of these, just behind the bytes of its row
  pub as_its_row : (h : Header) (next : ℕ) → header_from xs place ≡ accepted h next → (row_of h.kind).enumerations ≡ 0 → next ≡ place + suc (length (row_of h.kind).follow)
  as_its_row h next e n = let f = (read_exactly h next).0 e in omega (arith, f.ends, (is_length f.is_header).1 n)
