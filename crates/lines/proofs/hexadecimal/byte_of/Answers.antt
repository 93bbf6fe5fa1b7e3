-- `lines::byte_of` meets its contract: each digit is below 16, and the pair has no other.
-- Assumes nothing.
use Rattle.std.proofs.Common.{◌≡◌, ◌∙◌, Some, get_or, refl, sym, arith}
use Rattle.lines.specs.Hexadecimal.{digit_of}
use Rattle.lines.proofs.Digits.{pair_digits, digit_small}
use Rattle.lines.proofs.hexadecimal.byte_of.Goals as goal

pub overflow_mul-result : goal.overflow_mul-result
overflow_mul-result c = record { fits = omega (arith, digit_small (get_or c.args.pair.now 0 0) c.in_ok-high.high c.in_ok-high.ensures) }

pub overflow_add-result : goal.overflow_add-result
overflow_add-result c = record { fits = omega (arith, digit_small (get_or c.args.pair.now 0 0) c.in_ok-high.high c.in_ok-high.ensures, digit_small (get_or c.args.pair.now 1 0) c.in_ok-low.low c.in_ok-low.ensures) }

pub returns : goal.returns
returns c =
    let pair = c.args.pair.now in
    let h : Some c.in_ok-high.high ≡ digit_of (get_or pair 0 0) = c.in_ok-high.ensures in
    let l : Some c.in_ok-low.low ≡ digit_of (get_or pair 1 0) = c.in_ok-low.ensures in
    sym (pair_digits pair (omega arith) ∙ rw (← h, ← l) refl)
