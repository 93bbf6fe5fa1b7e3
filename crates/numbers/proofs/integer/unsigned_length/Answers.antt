-- `numbers::unsigned_length` meets its contract: at each return the tests that led there say between which ends the value lies.
-- Assumes nothing.
use native.Mathlib.Omega.{arith}
use mathlib.Core.Path.{◌≡◌, sym}
use Prim.Native.Nat.{ℕ, suc, ◌-◌, ◌^◌, ◌<◌, ◌≤◌}
use Rattle.numbers.specs.Integer.{unsigned_length}
use Rattle.numbers.proofs.Ends.{length_by_ends}
use Rattle.numbers.proofs.integer.unsigned_length.Goals as goal

-- n + 1 is the answer where the value is past the end of n bytes and not past that of n + 1
answer : (n v : ℕ) → n < 8 → (0 < n → 256 ^ n - 1 < v) → v ≤ 256 ^ suc n - 1 → suc n ≡ unsigned_length v
answer n v few past held = sym (length_by_ends n v few past held)

pub returns-in-0-to-255-clause-value : goal.returns-in-0-to-255-clause-value
returns-in-0-to-255-clause-value c = answer 0 c.args.value (omega arith) (λ p. omega arith) (omega arith)

pub returns-in-256-to-65535-clause-value : goal.returns-in-256-to-65535-clause-value
returns-in-256-to-65535-clause-value c = answer 1 c.args.value (omega arith) (λ p. omega arith) (omega arith)

pub returns-in-65536-to-16777215-clause-value : goal.returns-in-65536-to-16777215-clause-value
returns-in-65536-to-16777215-clause-value c = answer 2 c.args.value (omega arith) (λ p. omega arith) (omega arith)

pub returns-in-16777216-to-4294967295-clause-value : goal.returns-in-16777216-to-4294967295-clause-value
returns-in-16777216-to-4294967295-clause-value c = answer 3 c.args.value (omega arith) (λ p. omega arith) (omega arith)

pub returns-in-4294967296-to-1099511627775-clause-value : goal.returns-in-4294967296-to-1099511627775-clause-value
returns-in-4294967296-to-1099511627775-clause-value c = answer 4 c.args.value (omega arith) (λ p. omega arith) (omega arith)

pub returns-in-1099511627776-to-281474976710655-clause-value : goal.returns-in-1099511627776-to-281474976710655-clause-value
returns-in-1099511627776-to-281474976710655-clause-value c = answer 5 c.args.value (omega arith) (λ p. omega arith) (omega arith)

pub returns-in-281474976710656-to-72057594037927935-clause-value : goal.returns-in-281474976710656-to-72057594037927935-clause-value
returns-in-281474976710656-to-72057594037927935-clause-value c = answer 6 c.args.value (omega arith) (λ p. omega arith) (omega arith)

pub returns-in_default-clause-value : goal.returns-in_default-clause-value
returns-in_default-clause-value c = let s = c in answer 7 s.args.value (omega arith) (λ p. omega arith) (omega (arith, s.ranges.value.fits))
