-- The line at a place: where it ends, what its decoded digits say of it, and what is left in the lent frame.
-- Assumes nothing.
use mathlib.Core.Path.{◌≡◌, refl, ◌∙◌, ap, sym}
use mathlib.Core.Bool.{Bool, true, false}
use mathlib.Core.List.{List}
use Prim.Native.Nat.{ℕ, ◌+◌, ◌-◌, ◌*◌, ◌≤◌, ◌<◌}
use native.Mathlib.Omega.{arith}
use lib.Dec.{ltb, eqb}
use lib.ListN.{length, take, drop, length-drop}
use lib.Seq.{sets, sets-eq, drop-drop}
use borrow.Author.Tests.{lt-ltb, le-ltb, ltb-true, ltb-false, eq-eqb, ne_eqb, eqb-false}
use Rattle.std.proofs.lemmas.Slice.{between_to_end}
use Rattle.types.specs.Choice.{if}
use Rattle.types.specs.Refusal.{Carried, amount}
use Rattle.types.specs.Writing.{over}
use Rattle.types.proofs.Choices.{either}
use Rattle.lines.specs.Hexadecimal.{most_bytes, pairs, leading, is_frame}
use Rattle.lines.specs.Lines.{until_newline, End, line_ends, no_line, ending_by, end_from, a_frame, no_frame, not_ended, not_read, line_by, line_from}
use Rattle.lines.proofs.Digits.{pairs_of_line, line_behind_pairs, leading_count, frame_by_count, frame_leading}
use Rattle.lines.proofs.Ends.{line_inside}

-- a line that ends does so where its bytes end, and the next begins behind its own start
ends_as : (ended : Bool) (place last there e next : ℕ) → place ≤ there → there ≤ last → line_ends e next ≡ ending_by ended place last there → (e ≡ there) × (place < next) × (next ≤ last)
ends_as ended place last there e next h k =
    either (λ (x : End). line_ends e next ≡ x → (e ≡ there) × (place < next) × (next ≤ last)) (ltb there last)
    (λ t q. let l : there < last = ltb-true there last t in let a : e ≡ there = cc in let b : next ≡ there + 1 = cc in (a, omega arith, omega arith))
    (λ t. either (λ (x : End). line_ends e next ≡ x → (e ≡ there) × (place < next) × (next ≤ last)) ended
    (λ d. either (λ (x : End). line_ends e next ≡ x → (e ≡ there) × (place < next) × (next ≤ last)) (eqb place last)
    (λ f q. let z : ◌≡◌ {A = ℕ} 0 1 = cc in absurd (omega arith))
    (λ f q. let l : last ≤ there = ltb-false there last t in let g : place ≡ last → ⊥ = eqb-false place last f in let a : e ≡ last = cc in let b : next ≡ last = cc in (omega arith, omega arith, omega arith)))
    (λ d q. let z : ◌≡◌ {A = ℕ} 0 1 = cc in absurd (omega arith)))

pub ends_there : (ended : Bool) (xs : List ℕ) (place e next : ℕ) → place ≤ length xs → line_ends e next ≡ end_from ended xs place → (e ≡ place + length (until_newline (drop place xs))) × (place < next) × (next ≤ length xs)
unfolding end_from
ends_there ended xs place e next h = ends_as ended place (length xs) (place + length (until_newline (drop place xs))) e next (omega arith) (omega (arith, line_inside (drop place xs), length-drop place xs))

-- the bytes of the digits from a place on are those of its line
leading_of_line : (xs : List ℕ) → leading (until_newline xs) ≡ leading xs
leading_of_line xs = ap (take most_bytes) (pairs_of_line xs)

-- what follows for the line from what is decoded: so many bytes, and so many digits
module _ (xs : List ℕ) (place : ℕ) (inside : place ≤ length xs) (frame frame' : List ℕ) (bytes : ℕ) (stored' : frame' ≡ sets frame 0 (leading (take (length xs - place) (drop place xs)))) (counted' : bytes ≡ length (leading (take (length xs - place) (drop place xs)))) where
  whole : take (length xs - place) (drop place xs) ≡ drop place xs
  whole = between_to_end xs place (length xs) (omega arith)

  stored : frame' ≡ sets frame 0 (leading (drop place xs))
  stored = stored' ∙ ap (λ (l : List ℕ). sets frame 0 (leading l)) whole

  counted : bytes ≡ length (leading (drop place xs))
  counted = counted' ∙ ap (λ (l : List ℕ). length (leading l)) whole

  pub behind_digits : (digits : ℕ) → digits ≡ place + 2 * bytes → place + length (until_newline (drop place xs)) ≡ digits + length (until_newline (drop digits xs))
  behind_digits digits e =
      let w = leading_count (drop place xs) in
      let n : place + (bytes + bytes) ≡ digits = omega arith in
      let g : drop (bytes + bytes) (drop place xs) ≡ drop digits xs = drop-drop (bytes + bytes) place xs ∙ rw n refl in
      let b : length (until_newline (drop place xs)) ≡ bytes + bytes + length (until_newline (drop digits xs)) = line_behind_pairs bytes (drop place xs) (omega (arith, w.1, counted)) ∙ rw g refl in
      omega arith

  pub frame_of_line : length frame ≡ most_bytes → frame' ≡ over frame 0 (leading (until_newline (drop place xs)))
  frame_of_line room =
      let w = leading_count (drop place xs) in
      stored ∙ sets-eq (leading (drop place xs)) frame 0 (omega (arith, w.0)) ∙ rw (leading_of_line (drop place xs)) refl

  -- the line's leading bytes are so many
  line_count : length (leading (until_newline (drop place xs))) ≡ bytes
  line_count = ap length (leading_of_line (drop place xs)) ∙ sym counted

  module _ (ended : Bool) (end next : ℕ) (ending : line_ends end next ≡ end_from ended xs place) where
    by_frame : (good : Bool) → is_frame (until_newline (drop place xs)) ≡ good → if good (a_frame (length (pairs (until_newline (drop place xs)))) next) (no_frame next) ≡ line_from ended xs place
    unfolding line_from
    by_frame good e = simp (le-ltb (length xs) place inside, sym ending, e)

    -- where it ends with its digits it is a frame's, and else it is none
    pub frame_there : end ≡ place + 2 * bytes → a_frame bytes next ≡ line_from ended xs place
    frame_there e =
        let l : List ℕ = until_newline (drop place xs) in
        let n = line_count in
        let w = ends_there ended xs place end next inside ending in
        let f : is_frame l ≡ true = frame_by_count l ∙ eq-eqb (length l) (length (leading l) + length (leading l)) (omega (arith, w.0)) in
        ap (λ (k : ℕ). a_frame k next) (sym n ∙ ap length (frame_leading l f)) ∙ by_frame true f

    pub other_there : (end ≡ place + 2 * bytes → ⊥) → no_frame next ≡ line_from ended xs place
    other_there h =
        let l : List ℕ = until_newline (drop place xs) in
        let n = line_count in
        let w = ends_there ended xs place end next inside ending in
        by_frame false (frame_by_count l ∙ ne_eqb (length l) (length (leading l) + length (leading l)) (λ e. h (omega (arith, w.0))))

-- the other answers
pub past_end : (ended : Bool) (xs : List ℕ) (place : ℕ) → length xs < place → not_read 2 (amount place) ≡ line_from ended xs place
unfolding line_from
past_end ended xs place h = simp (lt-ltb (length xs) place h)

pub none_there : (ended : Bool) (xs : List ℕ) (place : ℕ) → place ≤ length xs → no_line ≡ end_from ended xs place → not_ended ≡ line_from ended xs place
unfolding line_from
none_there ended xs place h e = simp (le-ltb (length xs) place h, sym e)

-- what an answer tells: where the line ends, and whether it is a frame's
module _ (ended : Bool) (xs : List ℕ) (place : ℕ) (inside : place ≤ length xs) where
  by_end : (x : End) → end_from ended xs place ≡ x → line_by x (until_newline (drop place xs)) ≡ line_from ended xs place
  unfolding line_from
  by_end x e = simp (le-ltb (length xs) place inside, e)

  -- a frame's line
  pub record FrameTold (bytes next : ℕ) : Type 0 where
    pub end : ℕ
    pub ending : line_ends end next ≡ end_from ended xs place
    pub good : is_frame (until_newline (drop place xs)) ≡ true
    pub counted : bytes ≡ length (pairs (until_newline (drop place xs)))

  -- another line
  pub record OtherTold (next : ℕ) : Type 0 where
    pub end : ℕ
    pub ending : line_ends end next ≡ end_from ended xs place
    pub good : is_frame (until_newline (drop place xs)) ≡ false

  pub frame_told : (bytes next : ℕ) → a_frame bytes next ≡ line_from ended xs place → FrameTold bytes next
  frame_told bytes next e = go (end_from ended xs place) refl (is_frame (until_newline (drop place xs))) refl
    where
      go : (x : End) → end_from ended xs place ≡ x → (t : Bool) → is_frame (until_newline (drop place xs)) ≡ t → FrameTold bytes next
      go no_line q t g = let p : a_frame bytes next ≡ not_ended = e ∙ sym (by_end no_line q) in let z : ◌≡◌ {A = ℕ} 0 1 = cc in absurd (omega arith)
      go (line_ends b n) q true g =
          let p : a_frame bytes next ≡ a_frame (length (pairs (until_newline (drop place xs)))) n = e ∙ sym (by_end (line_ends b n) q) ∙ rw g refl in
          let m : next ≡ n = cc in
          record { end = b; ending = ap (line_ends b) m ∙ sym q; good = g; counted = cc }
      go (line_ends b n) q false g = let p : a_frame bytes next ≡ no_frame n = e ∙ sym (by_end (line_ends b n) q) ∙ rw g refl in let z : ◌≡◌ {A = ℕ} 0 1 = cc in absurd (omega arith)

  pub other_told : (next : ℕ) → no_frame next ≡ line_from ended xs place → OtherTold next
  other_told next e = go (end_from ended xs place) refl (is_frame (until_newline (drop place xs))) refl
    where
      go : (x : End) → end_from ended xs place ≡ x → (t : Bool) → is_frame (until_newline (drop place xs)) ≡ t → OtherTold next
      go no_line q t g = let p : no_frame next ≡ not_ended = e ∙ sym (by_end no_line q) in let z : ◌≡◌ {A = ℕ} 0 1 = cc in absurd (omega arith)
      go (line_ends b n) q true g = let p : no_frame next ≡ a_frame (length (pairs (until_newline (drop place xs)))) n = e ∙ sym (by_end (line_ends b n) q) ∙ rw g refl in let z : ◌≡◌ {A = ℕ} 0 1 = cc in absurd (omega arith)
      go (line_ends b n) q false g =
          let p : no_frame next ≡ no_frame n = e ∙ sym (by_end (line_ends b n) q) ∙ rw g refl in
          let m : next ≡ n = cc in
          record { end = b; ending = ap (line_ends b) m ∙ sym q; good = g }

  pub none_told : not_ended ≡ line_from ended xs place → no_line ≡ end_from ended xs place
  none_told e = go (end_from ended xs place) refl (is_frame (until_newline (drop place xs))) refl
    where
      go : (x : End) → end_from ended xs place ≡ x → (t : Bool) → is_frame (until_newline (drop place xs)) ≡ t → no_line ≡ end_from ended xs place
      go no_line q t g = sym q
      go (line_ends b n) q true g = let p : not_ended ≡ a_frame (length (pairs (until_newline (drop place xs)))) n = e ∙ sym (by_end (line_ends b n) q) ∙ rw g refl in let z : ◌≡◌ {A = ℕ} 0 1 = cc in absurd (omega arith)
      go (line_ends b n) q false g = let p : not_ended ≡ no_frame n = e ∙ sym (by_end (line_ends b n) q) ∙ rw g refl in let z : ◌≡◌ {A = ℕ} 0 1 = cc in absurd (omega arith)

  -- a place inside is not refused
  pub never_refused : (n : ℕ) (k : Carried) → not_read n k ≡ line_from ended xs place → ⊥
  never_refused n k e = go (end_from ended xs place) refl (is_frame (until_newline (drop place xs))) refl
    where
      go : (x : End) → end_from ended xs place ≡ x → (t : Bool) → is_frame (until_newline (drop place xs)) ≡ t → ⊥
      go no_line q t g = let p : not_read n k ≡ not_ended = e ∙ sym (by_end no_line q) in let z : ◌≡◌ {A = ℕ} 0 1 = cc in omega arith
      go (line_ends b m) q true g = let p : not_read n k ≡ a_frame (length (pairs (until_newline (drop place xs)))) m = e ∙ sym (by_end (line_ends b m) q) ∙ rw g refl in let z : ◌≡◌ {A = ℕ} 0 1 = cc in omega arith
      go (line_ends b m) q false g = let p : not_read n k ≡ no_frame m = e ∙ sym (by_end (line_ends b m) q) ∙ rw g refl in let z : ◌≡◌ {A = ℕ} 0 1 = cc in omega arith

  -- a frame has no more bytes than a frame may have
  pub told_few : {bytes next : ℕ} → FrameTold bytes next → bytes ≤ most_bytes
  told_few w = omega (arith, w.counted, ap length (frame_leading (until_newline (drop place xs)) w.good), (leading_count (until_newline (drop place xs))).0)
