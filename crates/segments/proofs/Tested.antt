-- What taking a frame comes to, test by test.
-- Assumes nothing.
use Rattle.std.proofs.Common.{◌≡◌, ℕ, ◌+◌, ◌≤◌, Bool, true, false, ltb, List, length, refl, sym, ap, ◌∙◌, arith, length-drop, le-ltb}
use borrow.Author.Tests.{ltb-true, ltb-false}
use Rattle.std.specs.declared.result.Result.{Result}
use Rattle.std.specs.declared.result.Result.TheVariants.{Ok, Err}
use Rattle.types.specs.Choice.{if}
use Rattle.types.specs.declared.refusal.Refusal.{Refusal}
use Rattle.types.specs.declared.refusal.Refusal.TheVariants.{BytesRunOut}
use Rattle.types.specs.Answer.{Answer, accepted, refused, Outcome, passed}
use Rattle.types.specs.Writing.{Left, left, write_answer, writing}
use Rattle.segments.specs.State.{State}
use Rattle.segments.specs.Segment.{service_part}
use Rattle.segments.specs.Put.{put_into}
use Rattle.segments.specs.Taking.{After, after, answer_then, as_due, joining, after_outcome, takes}
use Rattle.segments.specs.Taking as taking

-- then the bytes of the header decide, and after them the room
pub by_outcome : (s : State) (f xs : List ℕ) → s.finished ≡ false → length xs ≤ 65535 → length f ≤ 65535 → 5 ≤ length f → takes s f xs ≡ after_outcome xs (as_due s f) (joining s f xs)
unfolding takes
by_outcome s f xs going short frame five = simp (going, le-ltb 65535 (length xs) short, le-ltb 65535 (length f) frame, le-ltb (length f) 5 five)

-- what putting the part behind the bytes held answers and leaves, as taking the frame does
abbrev pub as_put : List ℕ → Answer (Unit {0}) → List ℕ → After
as_put f (accepted u held) ys = after (answer_then f held) ys
as_put f (refused n c) ys = after (taking.refused n c) ys

-- where the frame is the one due, that decides
put_due : (s : State) (f xs : List ℕ) → length xs ≤ 65535 → length f ≤ 65535 → (a : Answer (Unit {0})) (ys : List ℕ) → left a ys ≡ put_into s.held (service_part f) xs → as_put f a ys ≡ joining s f xs
unfolding joining writing write_answer
put_due s f xs short frame a ys e = ap (λ (l : Left). as_put f l.answer l.buffer) e ∙ go (ltb (length xs) s.held) refl (ltb (length xs) (s.held + length (service_part f))) refl
  where
    part : length (service_part f) ≤ 65535
    part = omega (arith, length-drop 5 f)

    go : (past : Bool) → ltb (length xs) s.held ≡ past → (full : Bool) → ltb (length xs) (s.held + length (service_part f)) ≡ full
        → (let w = put_into s.held (service_part f) xs in as_put f w.answer w.buffer ≡ joining s f xs)
    go true p true b = simp (p, b)
    go true p false b = let h = ltb-true (length xs) s.held p in let k = ltb-false (length xs) (s.held + length (service_part f)) b in absurd (omega arith)
    go false p true b = simp (le-ltb 65535 (length xs) short, le-ltb 65535 (length (service_part f)) part, p, b)
    go false p false b = simp (le-ltb 65535 (length xs) short, le-ltb 65535 (length (service_part f)) part, p, b)

-- a frame that has its five bytes is the whole one
whole : (f g : List ℕ) → Ok g ≡ (if (ltb (length f) 5) (Err (BytesRunOut (length f))) (Ok f)) → (g ≡ f) × (5 ≤ length f)
whole f g = go (ltb (length f) 5) refl
  where
    go : (b : Bool) → ltb (length f) 5 ≡ b → ◌≡◌ {A = Result (List ℕ) Refusal} (Ok g) (if b (Err (BytesRunOut (length f))) (Ok f)) → (g ≡ f) × (5 ≤ length f)
    go true t e = cc
    go false t e = (cc, ltb-false (length f) 5 t)

-- so it is taken as its part is put, where the tests of the state and of the lengths are past and it is the one due
pub taken_as_put : (s : State) (f g xs : List ℕ) → s.finished ≡ false → length xs ≤ 65535 → length f ≤ 65535 → Ok g ≡ (if (ltb (length f) 5) (Err (BytesRunOut (length f))) (Ok f)) → passed ≡ as_due s g
    → (a : Answer (Unit {0})) (ys : List ℕ) → left a ys ≡ put_into s.held (service_part g) xs → as_put g a ys ≡ takes s f xs
taken_as_put s f g xs going short frame read due a ys e =
    let w = whole f g read in
    let l : length g ≤ 65535 = rw w.0 frame in
    put_due s g xs short l a ys e
    ∙ ap (λ (o : Outcome). after_outcome xs o (joining s g xs)) due
    ∙ ap (λ (t : List ℕ). after_outcome xs (as_due s t) (joining s t xs)) w.0
    ∙ sym (by_outcome s f xs going short frame w.1)
