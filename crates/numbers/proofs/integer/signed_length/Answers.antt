use borrow.Author.Rules.{rules}
-- `numbers::signed_length` meets its contract: at each return the tests that led there say between which ends the value lies.
-- Assumes nothing.
use native.Mathlib.Omega.{arith}
use mathlib.Core.Path.{◌≡◌, sym, ap, ◌∙◌}
use Prim.Native.Nat.{ℕ, suc, ◌-◌, ◌/◌, ◌^◌, ◌<◌}
use mir.Syntax.{w64}
use mir.Val.{to_z, of_z, SFits}
use mir.ValLaws.{to_z-of_z}
use lib.IntN.{ℤ}
use Rattle.numbers.specs.Integer.{signed_length}
use Rattle.numbers.proofs.Ends.{Within, Beyond, within, signed_by_ends}
use Rattle.numbers.proofs.integer.signed_length.Goals as goal

-- what the machine reads from the value's bits, which is the value itself
abbrev seen : ℤ → ℤ
seen z = to_z w64 (of_z w64 z)

-- n + 1 is the answer where the value is beyond an end of n bytes and within those of n + 1
answer : (z : ℤ) → SFits w64 z → (n : ℕ) → n < 8 → (0 < n → Beyond (256 ^ n / 2 - 1) (seen z)) → Within (256 ^ suc n / 2 - 1) (seen z) → suc n ≡ signed_length z
answer z s n few past held = sym (signed_by_ends n (seen z) few past held) ∙ ap signed_length (to_z-of_z w64 z s)

-- eight bytes hold it
eight_hold : (z : ℤ) → SFits w64 z → Within (256 ^ 8 / 2 - 1) (seen z)
eight_hold z s = within (256 ^ 8 / 2 - 1) (seen z) (rw (to_z-of_z w64 z s) (omega (arith, s.sfits)))

pub returns-then-value-le127-clause-value : goal.returns-then-value-le127-clause-value
returns-then-value-le127-clause-value c = answer c.args.value c.ranges.value 0 (omega arith) (λ p. search rules) (search rules)

pub returns-then-value-le32767-clause-value : goal.returns-then-value-le32767-clause-value
returns-then-value-le32767-clause-value c = answer c.args.value c.ranges.value 1 (omega arith) (λ p. search rules) (search rules)

pub returns-then-value-le8388607-clause-value : goal.returns-then-value-le8388607-clause-value
returns-then-value-le8388607-clause-value c = answer c.args.value c.ranges.value 2 (omega arith) (λ p. search rules) (search rules)

pub returns-then-value-le2147483647-clause-value : goal.returns-then-value-le2147483647-clause-value
returns-then-value-le2147483647-clause-value c = answer c.args.value c.ranges.value 3 (omega arith) (λ p. search rules) (search rules)

pub returns-then-value-le549755813887-clause-value : goal.returns-then-value-le549755813887-clause-value
returns-then-value-le549755813887-clause-value c = answer c.args.value c.ranges.value 4 (omega arith) (λ p. search rules) (search rules)

pub returns-then-value-le140737488355327-clause-value : goal.returns-then-value-le140737488355327-clause-value
returns-then-value-le140737488355327-clause-value c = answer c.args.value c.ranges.value 5 (omega arith) (λ p. search rules) (search rules)

pub returns-then-value-le36028797018963967-clause-value : goal.returns-then-value-le36028797018963967-clause-value
returns-then-value-le36028797018963967-clause-value c = answer c.args.value c.ranges.value 6 (omega arith) (λ p. search rules) (search rules)

pub returns-else-value-geminus36028797018963968-clause-value : goal.returns-else-value-geminus36028797018963968-clause-value
returns-else-value-geminus36028797018963968-clause-value c = answer c.args.value c.ranges.value 7 (omega arith) (λ p. search rules) (eight_hold c.args.value c.ranges.value)
