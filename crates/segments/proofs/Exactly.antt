-- A frame is accepted exactly if it is a segment that goes on from the state and has room: the executable and the declarative definition agree, for every state, frame and buffer.
-- Assumes nothing.
use Rattle.std.proofs.Common.{◌≡◌, ℕ, ◌+◌, ◌/◌, ◌%◌, ◌<◌, ◌≤◌, Bool, true, false, not, eqb, ltb, List, [], ◌∷◌, length, sym, refl, ap, ◌∙◌, subst, arith, ltb-false, le-ltb, eq-eqb, eqb-true}
use borrow.Author.Tests.{eqb-false}
use Rattle.types.specs.Choice.{if}
use Rattle.types.specs.Refusal.{Carried}
use Rattle.types.specs.Answer.{Outcome, passed, stopped}
use Rattle.types.proofs.Choices.{either}
use Rattle.headers.specs.Header.{complex, row_of}
use Rattle.headers.specs.Bytes.{none, more, as_number, as_choice}
use Rattle.segments.specs.State.{State}
use Rattle.segments.specs.Segment.{control_of, invoke_id_of, sequence_of, window_of, choice_of, service_part, tells_segment, more_follow}
use Rattle.segments.specs.Taking.{After, after, refused, window_allowed, same_answer, as_due, answer_then, joining, after_outcome, takes}
use Rattle.segments.specs.Accepts.{Segment, bit, IsSegment, of_bytes, Takeable, joined_to, IsTaken}
use Rattle.segments.proofs.Tested.{by_outcome}

-- what the bytes of a frame carry, be it a segment or not
abbrev pub segment_in : List ℕ → Segment
segment_in f = record { follow = more_follow f; id = invoke_id_of f; sequence = sequence_of f; window = window_of f; service = choice_of f; part = service_part f }

-- what the tests of a frame's bytes say where they pass
record Passes (s : State) (f : List ℕ) : Type 0 where
  of_type : control_of f / 16 ≡ (row_of complex).pdu_type
  segmented : control_of f / 8 % 2 ≡ 1
  choice : choice_of f ≤ 33
  least : 1 ≤ window_of f
  most : window_of f ≤ 127
  same : s.begun ≡ true → (invoke_id_of f ≡ s.id) × (choice_of f ≡ s.choice)
  due : sequence_of f ≡ s.due

-- a test that is passed
not-false : (b : Bool) → not b ≡ false → b ≡ true
not-false true e = refl
not-false false e = let z : ◌≡◌ {A = ℕ} 0 1 = cc in absurd (omega arith)

tells_so : (control : ℕ) → tells_segment control ≡ true → (control / 16 ≡ (row_of complex).pdu_type) × (control / 8 % 2 ≡ 1)
tells_so control =
    either (λ (b : Bool). b ≡ true → (control / 16 ≡ (row_of complex).pdu_type) × (control / 8 % 2 ≡ 1)) (eqb (control / 16) (row_of complex).pdu_type)
    (λ t e. (eqb-true _ _ t, eqb-true _ _ e))
    (λ t e. let z : ◌≡◌ {A = ℕ} 0 1 = cc in absurd (omega arith))

allowed_so : (w : ℕ) → window_allowed w ≡ true → (1 ≤ w) × (w ≤ 127)
allowed_so w =
    either (λ (b : Bool). b ≡ true → (1 ≤ w) × (w ≤ 127)) (ltb w 1)
    (λ t e. let z : ◌≡◌ {A = ℕ} 0 1 = cc in absurd (omega arith))
    (λ t. either (λ (b : Bool). b ≡ true → (1 ≤ w) × (w ≤ 127)) (ltb 127 w)
    (λ u e. let z : ◌≡◌ {A = ℕ} 0 1 = cc in absurd (omega arith))
    (λ u e. (ltb-false w 1 t, ltb-false 127 w u)))

same_so : (s : State) (id choice : ℕ) → same_answer s id choice ≡ true → s.begun ≡ true → (id ≡ s.id) × (choice ≡ s.choice)
same_so s id choice e begun = by_id (eqb id s.id) refl (rw begun at e)
  where
    by_id : (b : Bool) → eqb id s.id ≡ b → if b (eqb choice s.choice) false ≡ true → (id ≡ s.id) × (choice ≡ s.choice)
    by_id true t u = (eqb-true _ _ t, eqb-true _ _ u)
    by_id false t u = let z : ◌≡◌ {A = ℕ} 0 1 = cc in absurd (omega arith)

-- what holds of each refusal, and of a frame whose bytes pass, holds of what they say
as_due_cases : (s : State) (f : List ℕ) (P : Outcome → Type 0) → ((n : ℕ) (c : Carried) → P (stopped n c)) → (Passes s f → P passed) → P (as_due s f)
unfolding as_due
as_due_cases s f P refuses accepts =
    either P (not (tells_segment (control_of f))) (λ t. refuses 17 _) (λ control.
    either P (ltb 33 (choice_of f)) (λ t. refuses 11 _) (λ choice.
    either P (not (window_allowed (window_of f))) (λ t. refuses 24 _) (λ window.
    either P (not (same_answer s (invoke_id_of f) (choice_of f))) (λ t. refuses 25 _) (λ same.
    either P (not (eqb (sequence_of f) s.due)) (λ t. refuses 26 _) (λ due.
    let c = tells_so (control_of f) (not-false _ control) in
    let w = allowed_so (window_of f) (not-false _ window) in
    accepts (record {
      of_type = c.0;
      segmented = c.1;
      choice = ltb-false 33 (choice_of f) choice;
      least = w.0;
      most = w.1;
      same = same_so s (invoke_id_of f) (choice_of f) (not-false _ same);
      due = eqb-true (sequence_of f) s.due (not-false _ due);
    }))))))

-- a bit is 1 or 0
bit_told : (n : ℕ) → n % 2 ≡ bit (eqb (n % 2) 1)
bit_told n = go (eqb (n % 2) 1) refl
  where
    other : (k : ℕ) → k < 2 → (k ≡ 1 → ⊥) → k ≡ 0
    other k h d = omega arith

    go : (b : Bool) → eqb (n % 2) 1 ≡ b → n % 2 ≡ bit b
    go true e = eqb-true (n % 2) 1 e
    go false e = other (n % 2) (omega arith) (eqb-false (n % 2) 1 e)

-- a frame of five bytes or more whose bytes pass is a segment
whole : (s : State) (f : List ℕ) → 5 ≤ length f → Passes s f → IsSegment (segment_in f) f
whole s [] h p = absurd (omega arith)
whole s (a ∷ []) h p = absurd (omega arith)
whole s (a ∷ b ∷ []) h p = absurd (omega arith)
whole s (a ∷ b ∷ c ∷ []) h p = absurd (omega arith)
whole s (a ∷ b ∷ c ∷ d ∷ []) h p = absurd (omega arith)
whole s (control ∷ id ∷ sequence ∷ window ∷ choice ∷ part) h p =
    of_bytes {bytes = id ∷ sequence ∷ window ∷ choice ∷ []}
    (record { of_type = p.of_type; segmented = p.segmented; follows = bit_told (control / 4) })
    (more as_number (more as_number (more as_number (more (as_choice p.choice) none))))
    p.least
    p.most

-- what is known of the bytes of a segment
record Told (g : Segment) (f : List ℕ) : Type 0 where
  five : 5 ≤ length f
  segment : not (tells_segment (control_of f)) ≡ false
  choice : choice_of f ≤ 33
  window : not (window_allowed (window_of f)) ≡ false
  carried : g ≡ segment_in f

bit_back : (b : Bool) → eqb (bit b) 1 ≡ b
bit_back true = refl
bit_back false = refl

told : {g : Segment} {f : List ℕ} → IsSegment g f → Told g f
told {g} (of_bytes {control = k} t (more as_number (more as_number (more as_number (more (as_choice c) none)))) least most) =
    let follow : eqb (k / 4 % 2) 1 ≡ g.follow = ap (λ (n : ℕ). eqb n 1) t.follows ∙ bit_back g.follow in
    record {
      five = omega arith;
      segment = simp (eq-eqb (k / 16) 3 t.of_type, eq-eqb (k / 8 % 2) 1 t.segmented);
      choice = c;
      window = simp (le-ltb g.window 1 least, le-ltb 127 g.window most);
      carried = ap (λ (b : Bool). record { follow = b; id = g.id; sequence = g.sequence; window = g.window; service = g.service; part = g.part }) (sym follow);
    }

-- a frame is one segment at the most: what its bytes carry
pub one_segment : (g h : Segment) (f : List ℕ) → IsSegment g f → IsSegment h f → g ≡ h
one_segment g h f a b = (told a).carried ∙ sym (told b).carried

module _ (s : State) (f xs : List ℕ) where
  -- what holds of each refusal, which leaves the buffer as it was, and of what a frame that is to be accepted comes to, holds of taking it
  pub taken_cases : (P : After → Type 0) → ((n : ℕ) (c : Carried) → P (after (refused n c) xs)) → (Takeable s f xs (segment_in f) → P (joined_to s (segment_in f) xs)) → P (takes s f xs)
  unfolding takes joining answer_then
  taken_cases P refuses accepts =
      either P s.finished (λ t. refuses 27 _) (λ going.
      either P (ltb 65535 (length xs)) (λ t. refuses 1 _) (λ short.
      either P (ltb 65535 (length f)) (λ t. refuses 1 _) (λ frame.
      either P (ltb (length f) 5) (λ t. refuses 3 _) (λ five.
      as_due_cases s f (λ o. P (after_outcome xs o (joining s f xs))) refuses (λ p.
      either P (ltb (length xs) (s.held + length (service_part f))) (λ t. refuses 13 _) (λ room.
      accepts (record {
        short = ltb-false _ _ short;
        frame = ltb-false _ _ frame;
        is_segment = whole s f (ltb-false _ _ five) p;
        goes_on = record { unfinished = going; same = p.same; due = p.due };
        room = ltb-false _ _ room;
      })))))))

  -- whatever is accepted was to be
  pub accepted_only : IsTaken (takes s f xs).answer → Takeable s f xs (segment_in f)
  accepted_only = taken_cases (λ a. IsTaken a.answer → Takeable s f xs (segment_in f)) (λ n c i. absurd i) (λ a i. a)

  same_passes : (id choice : ℕ) → (s.begun ≡ true → (id ≡ s.id) × (choice ≡ s.choice)) → not (same_answer s id choice) ≡ false
  same_passes id choice same = go s.begun refl
    where
      go : (b : Bool) → s.begun ≡ b → not (same_answer s id choice) ≡ false
      go true e = simp (e, eq-eqb id s.id (same e).0, eq-eqb choice s.choice (same e).1)
      go false e = simp e

  as_carried : Takeable s f xs (segment_in f) → takes s f xs ≡ joined_to s (segment_in f) xs
  unfolding as_due joining answer_then
  as_carried a =
      let t = told a.is_segment in
      let g = a.goes_on in
      by_outcome s f xs g.unfinished a.short a.frame t.five
      ∙ simp (t.segment, le-ltb 33 (choice_of f) t.choice, t.window, same_passes (invoke_id_of f) (choice_of f) g.same, eq-eqb (sequence_of f) s.due g.due, le-ltb (length xs) (s.held + length (service_part f)) a.room)

  -- whatever is to be accepted is, as the segment that it is
  pub accepted_so : (g : Segment) → Takeable s f xs g → takes s f xs ≡ joined_to s g xs
  accepted_so g a =
      let e = (told a.is_segment).carried in
      as_carried (subst (Takeable s f xs) e a) ∙ ap (λ (h : Segment). joined_to s h xs) (sym e)
