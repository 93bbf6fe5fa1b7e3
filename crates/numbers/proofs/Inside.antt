-- What an accepted read or write says of the buffer.
-- Assumes nothing.
use mathlib.Core.Path.{◌≡◌, refl, sym}
use Prim.Native.Nat.{ℕ, ◌+◌, ◌<◌, ◌≤◌}
use native.Mathlib.Omega.{arith}
use mathlib.Core.List.{List}
use lib.ListN.{length}
use lib.Dec.{ltb}
use borrow.Author.Tests.{ltb-false}
use Rattle.types.specs.Refusal.{amount}
use Rattle.types.specs.Answer.{Answer, accepted, refused}
use Rattle.types.specs.Choice.{if}
use Rattle.types.specs.Writing.{Writable, can, cannot, unless, write_answer}
use Rattle.types.proofs.Choices.{either}
use Rattle.numbers.specs.Reading.{Part, slice_from, content_from}

-- a part that is answered for n bytes from a place on is those bytes, inside the buffer, with the place after them
abbrev pub Inside : ℕ → List ℕ → ℕ → Answer Part → Type 0
Inside n xs place (accepted p next) = (p.start ≡ place) × (p.size ≡ n) × (next ≡ place + n) × (place + n ≤ length xs)
Inside n xs place (refused k c) = Unit {0}

pub slice_inside : (n : ℕ) (xs : List ℕ) (place : ℕ) → Inside n xs place (slice_from n xs place)
unfolding slice_from
slice_inside n xs place =
    either (Inside n xs place) (ltb 65535 (length xs)) (λ e. tt) (λ e.
    either (Inside n xs place) (ltb (length xs) place) (λ f. tt) (λ f.
    either (Inside n xs place) (ltb (length xs) (place + n)) (λ g. tt) (λ g. (refl, refl, refl, ltb-false (length xs) (place + n) g))))

-- so where it is answered, it is such a part
pub part_inside : (n : ℕ) (xs : List ℕ) (place : ℕ) (p : Part) (next : ℕ) → accepted p next ≡ slice_from n xs place → Inside n xs place (accepted p next)
part_inside n xs place p next answered = rw (sym answered) at (slice_inside n xs place)

-- an integer's content has besides 1 to 8 bytes
abbrev pub Held : ℕ → List ℕ → ℕ → Answer Part → Type 0
Held n xs place (accepted p next) = Inside n xs place (accepted p next) × ((0 < n) × (n < 9))
Held n xs place (refused k c) = Unit {0}

held : (n : ℕ) (xs : List ℕ) (place : ℕ) → 0 < n → n < 9 → (a : Answer Part) → Inside n xs place a → Held n xs place a
held n xs place p q (accepted x next) h = (h, (p, q))
held n xs place p q (refused k c) h = tt

pub content_held : (n : ℕ) (xs : List ℕ) (place : ℕ) → Held n xs place (content_from n xs place)
unfolding content_from
content_held n xs place =
    either (Held n xs place) (ltb 65535 (length xs)) (λ e. tt) (λ e.
    either (Held n xs place) (ltb (length xs) place) (λ f. tt) (λ f.
    either (Held n xs place) (ltb n 1) (λ g. tt) (λ g.
    either (Held n xs place) (ltb 8 n) (λ h. tt) (λ h.
    held n xs place (omega (arith, ltb-false n 1 g)) (omega (arith, ltb-false 8 n h)) (slice_from n xs place) (slice_inside n xs place)))))

-- so where it is answered, it is such a content
pub content_inside : (n : ℕ) (xs : List ℕ) (place : ℕ) (p : Part) (next : ℕ) → accepted p next ≡ content_from n xs place → Held n xs place (accepted p next)
content_inside n xs place p next answered = rw (sym answered) at (content_held n xs place)

-- a write of n bytes that is accepted ends inside the buffer, which is not too long
abbrev pub Room : ℕ → List ℕ → ℕ → Answer (Unit {0}) → Type 0
Room n xs place (accepted u next) = (next ≡ place + n) × (place + n ≤ length xs) × (length xs ≤ 65535)
Room n xs place (refused k c) = Unit {0}

pub write_room : (lent : ℕ) (w : Writable) (n : ℕ) (xs : List ℕ) (place : ℕ) → Room n xs place (write_answer lent w n xs place)
unfolding write_answer
write_room lent w n xs place =
    either (Room n xs place) (ltb 65535 (length xs)) (λ e. tt) (λ e.
    either (Room n xs place) (ltb 65535 lent) (λ f. tt) (λ f.
    either (Room n xs place) (ltb (length xs) place) (λ g. tt) (λ g. go w (ltb-false 65535 (length xs) e))))
  where
    go : (w : Writable) → length xs ≤ 65535 → Room n xs place (unless w (if (ltb (length xs) (place + n)) (refused 13 (amount n)) (accepted tt (place + n))))
    go can small = either (Room n xs place) (ltb (length xs) (place + n)) (λ h. tt) (λ h. (refl, ltb-false (length xs) (place + n) h, small))
    go (cannot k c) small = tt

pub room_inside : (lent : ℕ) (w : Writable) (n : ℕ) (xs : List ℕ) (place next : ℕ) → accepted tt next ≡ write_answer lent w n xs place → Room n xs place (accepted tt next)
room_inside lent w n xs place next answered = rw (sym answered) at (write_room lent w n xs place)
