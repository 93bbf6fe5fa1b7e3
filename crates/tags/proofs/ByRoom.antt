-- Where the only shortest of the strings that are so is what is to be written, the room alone decides, whatever the strings are; and it decides everything.
-- Assumes nothing.
use mathlib.Core.Path.{◌≡◌, refl, ◌∙◌, ap, sym, subst}
use Prim.Native.Nat.{ℕ, ◌+◌, ◌-◌, ◌<◌, ◌≤◌}
use native.Mathlib.Omega.{arith}
use mathlib.Core.List.{List}
use lib.ListN.{length}
use borrow.Author.Tests.{le-ltb, lt-ltb}
use Rattle.types.specs.Refusal.{amount}
use Rattle.types.specs.Answer.{Answer, accepted, refused}
use Rattle.types.specs.Writing.{Left, left, over, can, write_answer, writing}
use Rattle.types.specs.Acceptable.{IsAccepted}
use Rattle.numbers.proofs.Wrote.{write_fits}
use Rattle.tags.specs.Room.{Fits, OnlyShortest, room_from, ByRoom}
use Rattle.tags.proofs.BySize.{split}

abbrev Succeeded : Left → Type 0
Succeeded l = IsAccepted l.answer

module _ (IsSo : List ℕ → Type 0) (string : List ℕ) (s : OnlyShortest IsSo string) (xs : List ℕ) (place : ℕ) (small : length xs ≤ 65535) (inside : place ≤ length xs) where
  wrote : length string ≤ length xs - place → writing 0 can string xs place ≡ left (accepted tt (place + length string)) (over xs place string)
  wrote h = write_fits 0 string xs place (omega arith) small (omega arith)

  refused_room : length xs - place < length string → writing 0 can string xs place ≡ left (refused 13 (amount (length string))) xs
  unfolding writing write_answer
  refused_room h = simp (le-ltb 65535 (length xs) small, le-ltb (length xs) place inside, lt-ltb (length xs) (place + length string) (omega arith))

  fits_least : Fits IsSo (room_from xs place) → length string ≤ length xs - place
  fits_least f = omega (arith, f.fits, s.least f.string f.is_so)

  fits_itself : length string ≤ length xs - place → Fits IsSo (room_from xs place)
  fits_itself h = record { string = string; is_so = s.is_so; fits = h }

  refuses : (Fits IsSo (room_from xs place) → ⊥) → writing 0 can string xs place ≡ left (refused 13 (amount (length string))) xs
  refuses none = split (length xs - place) (length string) refused_room (λ h. absurd (none (fits_itself h)))

  pub written_by_room : ByRoom IsSo xs place (writing 0 can string xs place)
  written_by_room = record {
    shortest = string;
    only_shortest = s;
    succeeds = (
      (λ a. split (length xs - place) (length string) (λ h. absurd (subst Succeeded (refused_room h) a)) fits_itself),
      (λ f. subst Succeeded (sym (wrote (fits_least f))) tt),
    );
    written = λ f. wrote (fits_least f);
    no_room = (
      (λ e f. subst IsAccepted (ap (λ (l : Left). l.answer) (sym (wrote (fits_least f))) ∙ e) tt),
      (λ none. ap (λ (l : Left). l.answer) (refuses none)),
    );
    untouched = λ none. ap (λ (l : Left). l.buffer) (refuses none);
  }

-- the room decides the whole answer and the whole buffer: no two go by it
module _ (IsSo : List ℕ → Type 0) (xs : List ℕ) (place : ℕ) (l k : Left) (p : ByRoom IsSo xs place l) (q : ByRoom IsSo xs place k) where
  same_shortest : p.shortest ≡ q.shortest
  same_shortest =
      let a = p.only_shortest.least q.shortest q.only_shortest.is_so in
      let b = q.only_shortest.least p.shortest p.only_shortest.is_so in
      q.only_shortest.only p.shortest p.only_shortest.is_so (omega arith)

  pub one_by_room : l ≡ k
  one_by_room = go l.answer refl
    where
      go : (a : Answer (Unit {0})) → l.answer ≡ a → l ≡ k
      go (accepted u next) e =
          let f = p.succeeds.0 (subst IsAccepted (sym e) tt) in
          p.written f ∙ ap (λ (s : List ℕ). left (accepted tt (place + length s)) (over xs place s)) same_shortest ∙ sym (q.written f)
      go (refused n c) e =
          let none : Fits IsSo (room_from xs place) → ⊥ = λ f. subst IsAccepted e (p.succeeds.1 f) in
          let a : l.answer ≡ k.answer = p.no_room.1 none ∙ ap (λ (s : List ℕ). refused 13 (amount (length s))) same_shortest ∙ sym (q.no_room.1 none) in
          let b : l.buffer ≡ k.buffer = p.untouched none ∙ sym (q.untouched none) in
          λ i. left (a i) (b i)
