-- A tag whose content is to follow: what is written of it, and what is written where nothing follows.
-- Assumes nothing.
use mathlib.Core.Path.{◌≡◌, refl, ◌∙◌, ap, sym}
use Prim.Native.Nat.{ℕ, ◌+◌}
use native.Mathlib.Nat.{add-zero}
use native.Mathlib.Omega.{arith}
use mathlib.Core.List.{List, [], ◌∷◌}
use lib.ListN.{length, set}
use Rattle.types.specs.Tag.{Tag}
use Rattle.types.specs.Answer.{accepted}
use Rattle.types.specs.Writing.{left, can, settled, write_answer, writing}
use Rattle.tags.specs.Writing.{tag_bytes, tag_to, tag_before}
use Rattle.tags.specs.Held.{one_before}
use Rattle.numbers.proofs.Inside.{Room, write_room}
use Rattle.numbers.proofs.Over.{one_replaced}

-- where no content follows, it is the tag's own write
pub begun_alone : (t : Tag) (xs : List ℕ) (place : ℕ) → tag_before t 0 xs place ≡ tag_to t xs place
unfolding tag_before tag_to writing
begun_alone t xs place = rw (add-zero (length (tag_bytes t))) refl

-- where there is room for the byte and what follows it, the byte is stored
pub one_stored : (b content : ℕ) (xs : List ℕ) (place next : ℕ) → write_answer 0 can (1 + content) xs place ≡ accepted tt next → left (accepted tt (place + 1)) (set xs place b) ≡ one_before b content xs place
unfolding one_before
one_stored b content xs place next e =
    let r : Room (1 + content) xs place (accepted tt next) = rw e at (write_room 0 can (1 + content) xs place) in
    ap (left (accepted tt (place + 1))) (one_replaced xs place b (omega (arith, r.1))) ∙ ap (settled (b ∷ []) xs place) (sym e)
