-- The strict walk of a caller that goes tag by tag: one call of `step` after the other, each with the place, the blocks and the numbers that the one before left.
-- Assumes nothing.
use Rattle.std.specs.Prelude.{ℕ, ◌≡◌, List}
use Rattle.types.specs.Answer.{Outcome}
use Rattle.walk.specs.Walk.{Seen, Walk, ended, more, ends, goes}
use Rattle.walk.specs.Step.{opened, step_at}

-- the tags that the calls accept from a place on, where so many blocks are open whose numbers are kept, and how the last call ends.
-- (what stands before an arrow is asked, and the last line is what then is one)
pub data Steps (xs : List ℕ) : (place blocks : ℕ) → (kept : List ℕ) → Walk → Type 0 where
  last : {place blocks : ℕ} {kept : List ℕ} {o : Outcome}
      → step_at xs place (opened blocks kept) ≡ ends o
      → Steps xs place blocks kept (ended o)
  one : {place blocks : ℕ} {kept left : List ℕ} {t : Seen} {next after : ℕ} {w : Walk}
      → step_at xs place (opened blocks kept) ≡ goes t next (opened after left)
      → Steps xs next after left w
      → Steps xs place blocks kept (more t w)
