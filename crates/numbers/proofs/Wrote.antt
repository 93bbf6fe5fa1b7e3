-- What is known where a write succeeded, and what then stands in the buffer.
-- Assumes nothing.
use mathlib.Core.Path.{◌≡◌, refl, subst, ◌∙◌, ap, sym}
use Prim.Native.Nat.{ℕ, ◌+◌, ◌≤◌}
use native.Mathlib.Nat.{add_assoc}
use native.Mathlib.Omega.{arith}
use mathlib.Core.List.{List, ◌++◌, append_assoc}
use lib.ListN.{length, take, drop, length-append, length-drop}
use lib.Seq.{take_at, drop_at, drop-drop, length-take-le}
use Rattle.types.specs.Answer.{Answer, accepted, refused}
use borrow.Author.Tests.{le-ltb}
use Rattle.types.specs.Writing.{Writable, can, Left, left, over, settled, write_answer, writing}
use Rattle.numbers.proofs.Inside.{Room, write_room}

-- the bytes replaced others, inside a buffer that is not too long
pub record Wrote (bytes xs : List ℕ) (place next : ℕ) (ys : List ℕ) : Type 0 where
  pub small : length xs ≤ 65535
  pub room : place + length bytes ≤ length xs
  pub ends : next ≡ place + length bytes
  pub buffer : ys ≡ over xs place bytes

abbrev WroteOr : List ℕ → List ℕ → ℕ → List ℕ → Answer (Unit {0}) → Type 0
WroteOr bytes xs place ys (accepted u next) = Wrote bytes xs place next ys
WroteOr bytes xs place ys (refused n c) = Unit {0}

settled_wrote : (bytes xs : List ℕ) (place count : ℕ) (a : Answer (Unit {0})) → length bytes ≤ count → Room count xs place a → WroteOr bytes xs place (settled bytes xs place a).buffer (settled bytes xs place a).answer
settled_wrote bytes xs place count (accepted u next) l r = record { small = r.2; room = omega (arith, r.1); ends = refl; buffer = refl }
settled_wrote bytes xs place count (refused n c) l r = tt

-- bytes that others may be to follow, where room was tested for all
pub wrote_first : (lent : ℕ) (w : Writable) (count : ℕ) (bytes xs : List ℕ) (place next : ℕ) (ys : List ℕ) → length bytes ≤ count → settled bytes xs place (write_answer lent w count xs place) ≡ left (accepted tt next) ys → Wrote bytes xs place next ys
wrote_first lent w count bytes xs place next ys l e =
    subst (λ (k : Left). WroteOr bytes xs place k.buffer k.answer) e (settled_wrote bytes xs place count (write_answer lent w count xs place) l (write_room lent w count xs place))

pub wrote : (lent : ℕ) (w : Writable) (bytes xs : List ℕ) (place next : ℕ) (ys : List ℕ) → writing lent w bytes xs place ≡ left (accepted tt next) ys → Wrote bytes xs place next ys
unfolding writing
wrote lent w bytes xs place next ys e = wrote_first lent w (length bytes) bytes xs place next ys (omega arith) e

module _ (bytes xs : List ℕ) (place : ℕ) (room : place + length bytes ≤ length xs) where
  -- the bytes stand at the place
  pub written_here : drop place (over xs place bytes) ≡ bytes ++ drop (place + length bytes) xs
  written_here = drop_at (take place xs) (bytes ++ drop (place + length bytes) xs) place (length-take-le place xs (omega arith))

  -- and the buffer is as long as it was
  pub over_length : length (over xs place bytes) ≡ length xs
  over_length = simp (length-append, length-take-le place xs (omega arith), length-drop) (omega arith)

-- bytes and then others behind them are replaced as all of them at once
pub over_behind : (bytes more xs : List ℕ) (place : ℕ) → place ≤ length xs → over (over xs place bytes) (place + length bytes) more ≡ over xs place (bytes ++ more)
over_behind bytes more xs place inside =
    let p : ℕ = place + length bytes in
    let h : List ℕ = take place xs ++ bytes in
    let l : length h ≡ p = simp (length-append, length-take-le place xs inside) in
    let g : over xs place bytes ≡ h ++ drop p xs = sym (append_assoc (take place xs) bytes (drop p xs)) in
    let t : take p (over xs place bytes) ≡ h = ap (take p) g ∙ take_at h (drop p xs) p l in
    let d : drop p (over xs place bytes) ≡ drop p xs = ap (drop p) g ∙ drop_at h (drop p xs) p l in
    let e : drop (p + length more) (over xs place bytes) ≡ drop (p + length more) xs = sym (drop-drop (length more) p (over xs place bytes)) ∙ ap (drop (length more)) d ∙ drop-drop (length more) p xs in
    rw (t, e, length-append, ← add_assoc, append_assoc, append_assoc)

-- bytes that fit are written whole
pub write_fits : (lent : ℕ) (bytes xs : List ℕ) (place : ℕ) → lent ≤ 65535 → length xs ≤ 65535 → place + length bytes ≤ length xs → writing lent can bytes xs place ≡ left (accepted tt (place + length bytes)) (over xs place bytes)
unfolding writing write_answer
write_fits lent bytes xs place l small room =
    simp (le-ltb 65535 (length xs) small, le-ltb 65535 lent l, le-ltb (length xs) place (omega arith), le-ltb (length xs) (place + length bytes) room)

-- where a write of so many bytes is accepted, the buffer with these in place is what it leaves
pub accepted_stored : (lent : ℕ) (w : Writable) (count : ℕ) (bytes xs : List ℕ) (place next : ℕ) (ys : List ℕ) → write_answer lent w count xs place ≡ accepted tt next → length bytes ≡ count → ys ≡ over xs place bytes
    → left (accepted tt next) ys ≡ writing lent w bytes xs place
unfolding writing
accepted_stored lent w count bytes xs place next ys e l b =
    let r : Room count xs place (accepted tt next) = rw e at (write_room lent w count xs place) in
    let p : next ≡ place + length bytes = omega (arith, r.0) in
    (λ i. left (accepted tt (p i)) (b i)) ∙ ap (settled bytes xs place) (sym (ap (λ (k : ℕ). write_answer lent w k xs place) l ∙ e))
