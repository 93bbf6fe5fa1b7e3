-- The bytes that are written for a tag of a value above 0 are the shortest that stand for it, and the only ones so short; and they do not get fewer as the value grows.
-- Assumes nothing.
use mathlib.Core.Path.{◌≡◌, ap}
use Prim.Native.Nat.{ℕ, ◌<◌, ◌≤◌}
use native.Mathlib.Omega.{arith}
use lib.ListN.{length, length-append}
use borrow.Author.Tests.{lt-ltb, le-ltb}
use Rattle.types.specs.Tag.{Number, application, context, opening, closing, tag}
use Rattle.tags.specs.Writing.{low_bits_for, tag_value_bytes, context_bytes, tag_bytes}
use Rattle.tags.specs.Form.{StandsFor}
use Rattle.tags.specs.Room.{OnlyShortest}
use Rattle.tags.proofs.Range.{InRange}
use Rattle.tags.proofs.BySize.{split, few, alone, in_two, in_four, most_one, most_three, most_five}
use Rattle.tags.proofs.Form.{written_form}

-- of all bytes that stand for a tag of a value above 0; of value 0 there may be three as short, which `Form` tells apart
pub tag_only_shortest : (n : Number) (v : ℕ) → InRange n v → 0 < v → OnlyShortest (StandsFor (tag n v)) (tag_bytes (tag n v))
tag_only_shortest n v r p =
    let f = written_form n v r in
    record { is_so = f.stands; least = f.least; only = λ other s l. f.only other s l (λ z. absurd (omega arith)) }

value_rises : (v w : ℕ) → v ≤ w → length (tag_value_bytes v) ≤ length (tag_value_bytes w)
value_rises v w h =
    split w 5 (λ k. omega (arith, ap length (few v (omega arith)))) (λ k.
    split w 254 (λ l. omega (arith, most_one v (omega arith), ap length (alone w k l))) (λ l.
    split w 65536 (λ m. omega (arith, most_three v (omega arith), ap length (in_two w l m))) (λ m.
    omega (arith, most_five v, ap length (in_four w m)))))

-- a context number takes one byte or two, whatever the low bits
number_length : (n a b : ℕ) → length (context_bytes n a) ≡ length (context_bytes n b)
number_length n a b = split n 15 (λ h. simp (lt-ltb n 15 h)) (λ h. simp (le-ltb n 15 h))

-- a larger value takes as many bytes or more
pub tag_length_rises : (n : Number) (v w : ℕ) → v ≤ w → length (tag_bytes (tag n v)) ≤ length (tag_bytes (tag n w))
unfolding tag_bytes
tag_length_rises (application n) v w h = omega (arith, value_rises v w h)
tag_length_rises (context n) v w h =
    omega (arith, value_rises v w h, number_length n (low_bits_for v) (low_bits_for w), length-append (context_bytes n (low_bits_for v)) (tag_value_bytes v), length-append (context_bytes n (low_bits_for w)) (tag_value_bytes w))
tag_length_rises (opening n) v w h = omega arith
tag_length_rises (closing n) v w h = omega arith
