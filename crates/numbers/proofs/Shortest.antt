-- The content of an integer is the shortest that holds it, and reads back as it. Once, over the length.
-- Assumes nothing.
use mathlib.Core.Path.{◌≡◌, refl, ap}
use Prim.Native.Nat.{ℕ, zero, suc, ◌-◌, ◌*◌, ◌^◌, ◌<◌, ◌≤◌}
use native.Mathlib.Omega.{arith}
use native.Mathlib.Nat.{pow-succ'}
use lib.IntN.{ℤ, pos, negsuc}
use lib.Signed.{mag}
use lib.ListN.{length}
use lib.Dec.{ltb}
use borrow.Author.Tests.{lt-ltb, le-ltb, ltb-true, ltb-false}
use Rattle.types.proofs.Choices.{either}
use Rattle.numbers.specs.Integer.{unsigned_value, signed_value, twos_complement, low_bytes, pattern_of, unsigned_length, signed_length, unsigned_bytes, signed_bytes, Shortest}
use Rattle.numbers.proofs.Value.{value_lt}
use Rattle.numbers.proofs.Low.{low_bytes_stand, low_bytes_length, low_bytes_are_bytes, low_bytes_of_pattern}
use Rattle.numbers.proofs.Least.{length_between, length_holds, length_least}

pub unsigned_length_lem : (v : ℕ) → length (unsigned_bytes v) ≡ unsigned_length v
unfolding unsigned_bytes
unsigned_length_lem v = low_bytes_length (unsigned_length v) v

-- an unsigned integer's content reads back as it
pub unsigned_back : (v : ℕ) → v < 2 ^ 64 → unsigned_value (unsigned_bytes v) ≡ v
unfolding unsigned_bytes
unsigned_back v h = low_bytes_stand (unsigned_length v) v (length_holds v h)

-- every unsigned 64-bit integer is written in the fewest bytes, 1 to 8
pub unsigned_shortest : (v : ℕ) → v < 2 ^ 64 → Shortest unsigned_value v (unsigned_bytes v)
unfolding unsigned_bytes
unsigned_shortest v h = record {
  holds = record { some = omega (arith, unsigned_length_lem v, (length_between v).0); bytes = low_bytes_are_bytes (unsigned_length v) v; stands = unsigned_back v h };
  most = omega (arith, unsigned_length_lem v, (length_between v).1);
  least = λ other o. omega (arith, unsigned_length_lem v, length_least v (length other) o.some (rw o.stands at (value_lt other o.bytes)));
}

-- the least length of a signed integer is that of an unsigned one
pub signed_as_unsigned : (z : ℤ) → signed_length z ≡ unsigned_length (mag z * 2)
unfolding signed_length unsigned_length
signed_as_unsigned z = refl

pub signed_length_lem : (z : ℤ) → length (signed_bytes z) ≡ signed_length z
unfolding signed_bytes
signed_length_lem z = low_bytes_length (signed_length z) (pattern_of (signed_length z) z)

pub signed_holds : (z : ℤ) → mag z < 2 ^ 63 → mag z * 2 < 256 ^ signed_length z
signed_holds z h = rw (signed_as_unsigned z) (length_holds (mag z * 2) (omega arith))

pub signed_between : (z : ℤ) → (1 ≤ signed_length z) × (signed_length z ≤ 8)
signed_between z = rw (signed_as_unsigned z) (length_between (mag z * 2))

-- the content of a signed integer is the low bytes of its 64-bit pattern, as many as it needs
pub signed_by_pattern : (z : ℤ) → mag z < 2 ^ 63 → low_bytes (signed_length z) (pattern_of 8 z) ≡ signed_bytes z
unfolding signed_bytes
signed_by_pattern z h = low_bytes_of_pattern (signed_length z) z (signed_between z).1 (omega (arith, signed_holds z h))

-- the pattern of a number that n bytes hold fits them, for every n
pattern_lt : (n : ℕ) (z : ℤ) → mag z * 2 < 256 ^ n → pattern_of n z < 256 ^ n
pattern_lt n (pos k) h = omega arith
pattern_lt n (negsuc k) h = omega arith

-- a pattern in n bytes stands for its integer in two's complement
pub pattern_back : (n : ℕ) (z : ℤ) → 1 ≤ n → mag z * 2 < 256 ^ n → twos_complement n (pattern_of n z) ≡ z
pattern_back n (pos k) l h = simp (lt-ltb (k * 2) (256 ^ n) h)
pattern_back zero (negsuc k) l h = absurd (omega arith)
pattern_back (suc n) (negsuc k) l h =
    let e : 256 ^ suc n ≡ 256 * 256 ^ n = pow-succ' 256 n in
    let u : ℕ = 256 ^ suc n - 1 - k in
    let w : 256 ^ suc n ≤ u * 2 = omega arith in
    let b : 256 ^ suc n - 1 - u ≡ k = omega arith in
    simp (le-ltb (u * 2) (256 ^ suc n) w) (ap negsuc b)

pattern_stands : (z : ℤ) → mag z < 2 ^ 63 → unsigned_value (signed_bytes z) ≡ pattern_of (signed_length z) z
unfolding signed_bytes
pattern_stands z h = low_bytes_stand (signed_length z) (pattern_of (signed_length z) z) (pattern_lt (signed_length z) z (signed_holds z h))

-- a signed integer's content reads back as it
pub signed_back : (z : ℤ) → mag z < 2 ^ 63 → signed_value (signed_bytes z) ≡ z
signed_back z h =
    let n : ℕ = signed_length z in
    let e : unsigned_value (signed_bytes z) ≡ pattern_of n z = pattern_stands z h in
    let l : length (signed_bytes z) ≡ n = signed_length_lem z in
    rw (e, l) (pattern_back n z (signed_between z).0 (signed_holds z h))

-- what n bytes stand for in two's complement, n bytes hold
twos_complement_room : (n u : ℕ) → u < 256 ^ n → mag (twos_complement n u) * 2 < 256 ^ n
twos_complement_room n u h =
    either (λ (z : ℤ). mag z * 2 < 256 ^ n) (ltb (u * 2) (256 ^ n))
    (λ e. ltb-true (u * 2) (256 ^ n) e)
    (λ e. omega (arith, ltb-false (u * 2) (256 ^ n) e))

-- every signed 64-bit integer is written in the fewest bytes, 1 to 8
pub signed_shortest : (z : ℤ) → mag z < 2 ^ 63 → Shortest signed_value z (signed_bytes z)
unfolding signed_bytes
signed_shortest z h = record {
  holds = record { some = omega (arith, signed_length_lem z, (signed_between z).0); bytes = low_bytes_are_bytes (signed_length z) (pattern_of (signed_length z) z); stands = signed_back z h };
  most = omega (arith, signed_length_lem z, (signed_between z).1);
  least = λ other o.
      let w : mag z * 2 < 256 ^ length other = rw o.stands at (twos_complement_room (length other) (unsigned_value other) (value_lt other o.bytes)) in
      omega (arith, signed_length_lem z, signed_as_unsigned z, length_least (mag z * 2) (length other) o.some w);
}
