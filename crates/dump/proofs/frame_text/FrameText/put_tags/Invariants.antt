-- `FrameText::put_tags` meets its contract: each turn puts the line of the walk's next tag, and the lines of what is left are still to come.
-- Assumes nothing.
use Prim.Native.Nat.{◌+◌, ◌-◌, ◌*◌, ◌≤◌}
use lib.ListN.{length}
use mathlib.Core.Path.{◌≡◌}
use Rattle.walk.specs.Walk.{walk_from}
use Rattle.walk.proofs.Steps.{walk_left}
use Rattle.dump.specs.Room.{tag_room}
use Rattle.dump.proofs.Walking.{Halfway}
use Rattle.dump.proofs.frame_text.FrameText.put_tags.Given as goal

abbrev pub invariant-loop-accepted : goal.invariant-loop-accepted
invariant-loop-accepted l =
    (l.start ≤ length l.frame) × (l.tags ≤ l.start) × (l.blocks ≤ 16) × (l.self.number ≡ l.initial.self.number) × (l.self.out.ghost_name ≡ l.initial.self.out.ghost_name) × (length l.self.out.now ≡ length l.initial.self.out.now) × (l.self.place ≤ l.initial.self.place + tag_room * l.start)
    × Halfway l.initial.self.number (walk_from l.frame l.body) (walk_left l.frame l.start l.blocks l.numbers) l.tags l.initial.self.out.now l.initial.self.place l.self.out.now l.self.place

abbrev pub decreases-loop-accepted : goal.decreases-loop-accepted
decreases-loop-accepted l = length l.frame - l.start
