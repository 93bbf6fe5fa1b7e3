-- `bad_place` meets its contract: before `place` there are whole sequences alone, so the answer on the text is the answer from `place` on;
-- the inner loop has passed some of the bytes that are to follow, and leaves by label where one is wrong. Assumes nothing.
use mathlib.Core.Path.{◌≡◌}
use Prim.Native.Nat.{◌+◌, ◌-◌, ◌≤◌}
use lib.ListN.{length, drop}
use Rattle.utf8.specs.Check.{begins, check_of}
use Rattle.utf8.specs.Lead.{ranges}
use Rattle.utf8.proofs.Places.{check_at}
use Rattle.utf8.proofs.bad_place.Given as goal

abbrev pub invariant-loop-byte : goal.invariant-loop-byte
invariant-loop-byte l = begins (ranges l.count l.low l.high) (drop (l.place + 1) l.text) ≡ begins (ranges (l.count - l.byte-index) l.lowest l.highest) (drop (l.place + 1 + l.byte-index) l.text)

abbrev pub invariant-sequences : goal.invariant-sequences
invariant-sequences l = (l.place ≤ length l.text) × (check_of l.text ≡ check_at l.text l.place)

abbrev pub decreases-sequences : goal.decreases-sequences
decreases-sequences l = length l.text - l.place
