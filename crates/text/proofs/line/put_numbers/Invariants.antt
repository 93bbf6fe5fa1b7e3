-- `text::put_numbers` meets its contract: each turn puts one number more and a space, and the others are still to come.
-- Assumes nothing.
use Rattle.text.proofs.Puts.{Coming}
use Rattle.text.specs.Text.{decimals, spaced, number_room}
use lib.ListN.{length, drop}
use Prim.Native.Nat.{◌+◌, ◌*◌, ◌≤◌}
use mathlib.Core.Path.{◌≡◌}
use Rattle.text.proofs.line.put_numbers.Given as goal

abbrev pub invariant-loop-number : goal.invariant-loop-number
invariant-loop-number l = (length l.out ≡ length l.initial.out) × (l.next ≤ l.place + number_room * l.number-index) × Coming l.initial.out l.place (spaced (decimals l.numbers)) l.out l.next (spaced (decimals (drop l.number-index l.numbers)))
