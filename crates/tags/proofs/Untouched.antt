-- What `begin` leaves alone: every byte where it is refused, and every byte but those of the tag where it succeeds.
-- Assumes nothing.
use mathlib.Core.Path.{◌≡◌}
use Prim.Native.Nat.{ℕ, ◌+◌}
use native.Mathlib.Omega.{arith}
use mathlib.Core.List.{List}
use lib.ListN.{length}
use Rattle.types.specs.Tag.{Tag}
use Rattle.types.specs.Refusal.{Carried}
use Rattle.types.specs.Answer.{accepted, refused}
use Rattle.types.specs.Writing.{left, write_answer}
use Rattle.numbers.proofs.Wrote.{wrote_first}
use Rattle.numbers.proofs.Untouched.{settled_untouched, Around, around}
use Rattle.tags.specs.Writing.{tag_bytes, writable_tag, tag_before}

module _ (t : Tag) (content : ℕ) (xs : List ℕ) (place : ℕ) where
  -- a refused `begin` changes no byte
  pub begin_refused_untouched : (n : ℕ) (c : Carried) → (tag_before t content xs place).answer ≡ refused n c → (tag_before t content xs place).buffer ≡ xs
  unfolding tag_before
  begin_refused_untouched n c e = settled_untouched (tag_bytes t) xs place n c (write_answer 0 (writable_tag t) (length (tag_bytes t) + content) xs place) e

  -- one that succeeds changes no byte before its place, and none from the place on that it answers: the content's are still as they were
  pub begin_outside_untouched : (next : ℕ) (ys : List ℕ) → tag_before t content xs place ≡ left (accepted tt next) ys → Around xs place next ys
  unfolding tag_before
  begin_outside_untouched next ys e = around (tag_bytes t) xs place next ys (wrote_first 0 (writable_tag t) (length (tag_bytes t) + content) (tag_bytes t) xs place next ys (omega arith) e)
