-- What a write leaves alone: every byte where it is refused, and every byte but those that it reports where it succeeds.
-- Assumes nothing.
use mathlib.Core.Path.{◌≡◌, refl, ◌∙◌, ap, sym}
use Prim.Native.Nat.{ℕ, ◌+◌}
use native.Mathlib.Omega.{arith}
use mathlib.Core.List.{List, ◌++◌}
use lib.ListN.{length, take, drop}
use lib.Seq.{take_all, take-append-le, drop-append-add, drop-append_seam, length-take-le}
use Rattle.types.specs.Refusal.{Carried}
use Rattle.types.specs.Answer.{Answer, accepted, refused}
use Rattle.types.specs.Writing.{Writable, left, over, settled, write_answer, writing}
use Rattle.numbers.proofs.Wrote.{Wrote, wrote}

-- whatever was to be written
pub settled_untouched : (bytes xs : List ℕ) (place n : ℕ) (c : Carried) (a : Answer (Unit {0})) → (settled bytes xs place a).answer ≡ refused n c → (settled bytes xs place a).buffer ≡ xs
settled_untouched bytes xs place n c (accepted u next) e = let z : ◌≡◌ {A = ℕ} 0 1 = cc in absurd (omega arith)
settled_untouched bytes xs place n c (refused m d) e = refl

-- a refused write changes no byte
pub refused_untouched : (lent : ℕ) (w : Writable) (bytes xs : List ℕ) (place n : ℕ) (c : Carried) → (writing lent w bytes xs place).answer ≡ refused n c → (writing lent w bytes xs place).buffer ≡ xs
unfolding writing
refused_untouched lent w bytes xs place n c e = settled_untouched bytes xs place n c (write_answer lent w (length bytes) xs place) e

-- bytes that were written stand between those before and those behind as they were
abbrev pub Around : List ℕ → ℕ → ℕ → List ℕ → Type 0
Around xs place next ys = (take place ys ≡ take place xs) × (drop next ys ≡ drop next xs)

pub around : (bytes xs : List ℕ) (place next : ℕ) (ys : List ℕ) → Wrote bytes xs place next ys → Around xs place next ys
around bytes xs place next ys d =
    let rest : List ℕ = bytes ++ drop (place + length bytes) xs in
    let t : length (take place xs) ≡ place = length-take-le place xs (omega (arith, d.room)) in (
      ap (take place) d.buffer ∙ take-append-le place (take place xs) rest (omega arith) ∙ take_all place (take place xs) (omega arith),
      rw (d.buffer, d.ends) (ap (λ (k : ℕ). drop (k + length bytes) (over xs place bytes)) (sym t) ∙ drop-append-add (take place xs) rest (length bytes) ∙ drop-append_seam bytes (drop (place + length bytes) xs)),
    )

-- a write that succeeds changes no byte before its place, and none from the place on that it answers
pub outside_untouched : (lent : ℕ) (w : Writable) (bytes xs : List ℕ) (place next : ℕ) (ys : List ℕ) → writing lent w bytes xs place ≡ left (accepted tt next) ys → Around xs place next ys
outside_untouched lent w bytes xs place next ys e = around bytes xs place next ys (wrote lent w bytes xs place next ys e)
