-- `bodies::scan` meets its contract. The loop's invariant: what is left of the allowance, from here on, answers what the whole answers from the start on.
-- Assumes nothing.
use mathlib.Core.Path.{◌≡◌}
use Prim.Native.Nat.{◌-◌, ◌≤◌}
use Rattle.bodies.specs.Scan.{scan_from}
use Rattle.bodies.proofs.scan.scan.Given as goal

abbrev pub invariant-loop-tags : goal.invariant-loop-tags
invariant-loop-tags l = record {
  few : l.unclosed ≤ l.tags;
  ahead : l.start ≤ l.place;
  same : scan_from l.allowance l.number l.start 0 0 l.buf l.start ≡ scan_from (l.allowance - l.tags) l.number l.start l.tags l.unclosed l.buf l.place;
}
