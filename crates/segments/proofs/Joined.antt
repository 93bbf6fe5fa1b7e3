-- Calls one after the other from the first state on: whatever was refused between them, what is held is the parts of the accepted frames joined, and the state tells the rest.
-- Assumes nothing.
use Rattle.std.proofs.Common.{subst, ◌≡◌, ℕ, ◌+◌, ◌%◌, ◌≤◌, Bool, true, false, List, [], ◌∷◌, ◌++◌, length, take, drop, sym, refl, ap, ◌∙◌, append_assoc, arith, length-append, length-take, length-take-le, take_at}
use Rattle.types.specs.Writing.{over}
use Rattle.types.proofs.Choices.{either}
use Rattle.numbers.proofs.Wrote.{over_length}
use Rattle.segments.specs.State.{State}
use Rattle.segments.specs.Segment.{invoke_id_of, sequence_of, choice_of, service_part, more_follow}
use Rattle.segments.specs.Taking.{TakeAnswer, state_then, takes}
use Rattle.segments.specs.Accepts.{Segment, IsSegment, Takeable, joined_to}
use Rattle.segments.specs.Calls.{onward, counting, Called, none, call, parts_joined, InSequence, OfAnswer, last_came, NoneBehindEnd}
use Rattle.segments.proofs.Exactly.{segment_in, taken_cases, accepted_so}

-- some frame was accepted
abbrev some : List (List ℕ) → Bool
some [] = false
some (f ∷ earlier) = true

-- what is known after such calls
record Known (fs : List (List ℕ)) (s : State) (xs : List ℕ) : Type 0 where
  inside : s.held ≤ length xs
  all : s.held ≡ length (parts_joined fs)
  joins : take s.held xs ≡ parts_joined fs
  numbered : InSequence fs
  due : s.due ≡ length fs % 256
  begun : s.begun ≡ some fs
  of_answer : OfAnswer s.id s.choice fs
  finishes : s.finished ≡ last_came fs
  none_behind : NoneBehindEnd fs

-- a buffer that begins with the bytes held has them all
still_inside : (n : ℕ) (xs ys : List ℕ) → n ≤ length xs → take n ys ≡ take n xs → n ≤ length ys
still_inside n xs ys h e = omega (arith, length-take-le n xs h, ap length e, length-take n ys)

-- bytes put behind some stand joined with them
put_behind : (n : ℕ) (bytes xs : List ℕ) → n ≤ length xs → take (n + length bytes) (over xs n bytes) ≡ take n xs ++ bytes
put_behind n bytes xs h =
    let l : length (take n xs ++ bytes) ≡ n + length bytes = simp (length-append, length-take-le n xs h) in
    ap (take (n + length bytes)) (sym (append_assoc (take n xs) bytes (drop (n + length bytes) xs))) ∙ take_at (take n xs ++ bytes) (drop (n + length bytes) xs) (n + length bytes) l

-- the frames before one of the same answer are of that answer
of_same : (s : State) (id choice : ℕ) (fs : List (List ℕ)) → s.begun ≡ some fs → (s.begun ≡ true → (id ≡ s.id) × (choice ≡ s.choice)) → OfAnswer s.id s.choice fs → OfAnswer id choice fs
of_same s id choice [] b same o = tt
of_same s id choice (f ∷ fs) b same o = let e = same b in
    subst (λ (i : ℕ). OfAnswer i choice (f ∷ fs)) (sym e.0) (subst (λ (k : ℕ). OfAnswer s.id k (f ∷ fs)) (sym e.1) o)

module _ {fs : List (List ℕ)} {s : State} {xs : List ℕ} (k : Known fs s xs) (f ys : List ℕ) (kept : take s.held ys ≡ take s.held xs) where
  -- after a refusal all stays
  stays : Known fs s ys
  stays = record {
    inside = still_inside s.held xs ys k.inside kept;
    all = k.all;
    joins = kept ∙ k.joins;
    numbered = k.numbered;
    due = k.due;
    begun = k.begun;
    of_answer = k.of_answer;
    finishes = k.finishes;
    none_behind = k.none_behind;
  }

  -- after a frame that is accepted its part is joined too
  joins_on : Takeable s f ys (segment_in f) → Known (f ∷ fs) (state_then f (s.held + length (service_part f))) (over ys s.held (service_part f))
  joins_on a =
      let i = still_inside s.held xs ys k.inside kept in
      let sequence : sequence_of f ≡ length fs % 256 = a.goes_on.due ∙ k.due in
      record {
        inside = omega (arith, over_length (service_part f) ys s.held a.room, a.room);
        all = omega (arith, length-append (parts_joined fs) (service_part f), k.all);
        joins = put_behind s.held (service_part f) ys i ∙ ap (λ (t : List ℕ). t ++ service_part f) (kept ∙ k.joins);
        numbered = (sequence, k.numbered);
        due = omega arith;
        begun = refl;
        of_answer = (refl, refl, of_same s (invoke_id_of f) (choice_of f) fs k.begun a.goes_on.same k.of_answer);
        finishes = refl;
        none_behind = (sym k.finishes ∙ a.goes_on.unfinished, k.none_behind);
      }

  -- so after each call
  then_known : (let a = takes s f ys in Known (counting f a.answer fs) (onward s a.answer) a.buffer)
  then_known =
      taken_cases s f ys (λ a. Known (counting f a.answer fs) (onward s a.answer) a.buffer)
      (λ n c. stays)
      (λ a. either (λ (t : TakeAnswer). Known (counting f t fs) (onward s t) (over ys s.held (service_part f))) (more_follow f) (λ e. joins_on a) (λ e. joins_on a))

known : {fs : List (List ℕ)} {s : State} {xs : List ℕ} → Called fs s xs → Known fs s xs
known none = record { inside = omega arith; all = refl; joins = refl; numbered = tt; due = refl; begun = refl; of_answer = tt; finishes = refl; none_behind = tt }
known (call before f ys kept) = then_known (known before) f ys kept

module _ {fs : List (List ℕ)} {s : State} {xs : List ℕ} (called : Called fs s xs) where
  -- the bytes held are the parts joined, and all of them
  pub joined_parts : take s.held xs ≡ parts_joined fs
  joined_parts = (known called).joins

  pub all_held : (s.held ≡ length (parts_joined fs)) × (s.held ≤ length xs)
  all_held = ((known called).all, (known called).inside)

  -- the n-th frame, counted from 0, has n modulo 256, and so will the next
  pub each_sequence : InSequence fs × (s.due ≡ length fs % 256)
  each_sequence = ((known called).numbered, (known called).due)

  -- all frames are of one answer
  pub one_answer : OfAnswer s.id s.choice fs
  one_answer = (known called).of_answer

  -- finished exactly if the latest frame says that none follows, and none came behind such a one
  pub finished_exactly : (s.finished ≡ last_came fs) × NoneBehindEnd fs
  finished_exactly = ((known called).finishes, (known called).none_behind)

  of_first : (id choice : ℕ) (gs : List (List ℕ)) → OfAnswer id choice gs → OfAnswer s.id s.choice gs → some gs ≡ true → (id ≡ s.id) × (choice ≡ s.choice)
  of_first id choice [] a b e = let z : ◌≡◌ {A = ℕ} 0 1 = cc in absurd (omega arith)
  of_first id choice (g ∷ gs) a b e = (sym a.0 ∙ b.0, sym a.1 ∙ b.1)

  -- whatever was refused, the frame that is due still goes on: a segment of the same answer, whose sequence number is how many came before it modulo 256, is accepted wherever there is room behind their parts
  pub due_goes_on : (g : Segment) (f ys : List ℕ) → IsSegment g f → length f ≤ 65535 → length ys ≤ 65535 → last_came fs ≡ false → OfAnswer g.id g.service fs → g.sequence ≡ length fs % 256
      → length (parts_joined fs) + length g.part ≤ length ys → takes s f ys ≡ joined_to s g ys
  due_goes_on g f ys is frame short going same sequence room =
      let k = known called in
      accepted_so s f ys g (record {
        short = short;
        frame = frame;
        is_segment = is;
        goes_on = record { unfinished = k.finishes ∙ going; same = λ b. of_first g.id g.service fs same k.of_answer (sym k.begun ∙ b); due = sequence ∙ sym k.due };
        room = omega (arith, k.all);
      })
