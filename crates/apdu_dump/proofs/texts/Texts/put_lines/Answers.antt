-- `apdu_dump::texts::Texts::put_lines` is safe, ends, and makes its calls as `Calls` has them: each text put leads to a later line, and a line is refused for want of room alone, so that text waits, which is written.
-- Assumes nothing.
use Rattle.std.proofs.Common.{arith}
use Rattle.dump.proofs.Placed.{placed, moves_on, stays_inside, refused_for_room}
use Rattle.apdu_dump.proofs.Led.{put_leads, room_leads, all_made, none_made}
use Rattle.apdu_dump.proofs.texts.Texts.put_lines.Goals as goal

pub invariant_of-self : goal.invariant_of-self
invariant_of-self c =
    let e = rw c.in-Ok-Some.field-0-is at c.in-Ok-Some.ensures.out_after in
    let i = stays_inside (placed _ _ _ _ _ _ _ _ _ e) (omega arith) in
    record { inside = omega arith }

pub loop-start-smaller-in-Ok-Some : goal.loop-start-smaller-in-Ok-Some
loop-start-smaller-in-Ok-Some c =
    let e = rw c.in-Ok-Some.field-0-is at c.in-Ok-Some.ensures.out_after in
    let m = moves_on (placed _ _ _ _ _ _ _ _ _ e) in
    omega (arith, m.0, m.1)

pub loop-start-preserved-in-Ok-Some : goal.loop-start-preserved-in-Ok-Some
loop-start-preserved-in-Ok-Some c =
    let e = rw c.in-Ok-Some.field-0-is at c.in-Ok-Some.ensures.out_after in
    let m = moves_on (placed _ _ _ _ _ _ _ _ _ e) in
    (m.1, omega (arith, m.0), put_leads _ _ _ _ _ c.loop-start.invariant.2 _ _ _ _ _ e)

pub loop-start-smaller : goal.loop-start-smaller
loop-start-smaller c =
    let f = refused_for_room _ _ _ _ _ _ _ _ _ c.in-Err.ensures.out_after (omega arith) (omega arith) in
    omega (arith, f)

pub loop-start-preserved : goal.loop-start-preserved
loop-start-preserved c =
    let f = refused_for_room _ _ _ _ _ _ _ _ _ c.in-Err.ensures.out_after (omega arith) (omega arith) in
    (omega arith, omega arith, room_leads _ _ _ _ _ c.loop-start.invariant.2 _ _ (omega arith) (omega arith) f)

pub returns-after-loop-start-clause-makes : goal.returns-after-loop-start-clause-makes
returns-after-loop-start-clause-makes c = all_made _ _ _ _ _ c.loop-start.invariant.2 (omega arith)

pub returns-in-Ok-None-clause-makes : goal.returns-in-Ok-None-clause-makes
returns-in-Ok-None-clause-makes c =
    let e = rw c.in-Ok-None.field-0-is at c.in-Ok-None.ensures.out_after in
    none_made _ _ _ _ _ c.loop-start.invariant.2 _ _ _ e (omega arith) (omega arith)
