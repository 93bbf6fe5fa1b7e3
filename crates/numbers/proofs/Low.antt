-- Laws of a number's low bytes: how many they are, and that they stand for it.
-- Assumes nothing.
use mathlib.Core.Path.{◌≡◌, refl, ◌∙◌, ap, sym}
use Prim.Native.Nat.{ℕ, zero, suc, ◌+◌, ◌-◌, ◌*◌, ◌/◌, ◌%◌, ◌^◌, ◌<◌, ◌≤◌}
use native.Mathlib.Nat.{pow-succ', one-le-pow, mul_assoc, add_assoc, add-mul, mod-eq_of_lt, mod-one, zero-mul, zero-add, mod-lt, mul-add-div_right, div-div-eq-div-mul, mul_comm}
use native.Mathlib.Numerals.{add-one}
use native.Mathlib.Omega.{arith}
use mathlib.Core.List.{List, [], ◌∷◌}
use lib.Arith.{mod-mul, mul_pred, digits_div}
use lib.Pow.{pow-add}
use lib.IntN.{ℤ, pos, negsuc}
use lib.Signed.{mag}
use lib.Dec.{lit<}
use lib.ListN.{length}
use Rattle.numbers.specs.Integer.{followed_by, unsigned_value, low_bytes, pattern_of, Bytes}
use Rattle.numbers.proofs.Value.{value_lt}

-- the low bytes behind a
followed_by_low : (n a v : ℕ) → followed_by a (low_bytes n v) ≡ a * 256 ^ n + v % 256 ^ n
followed_by_low zero a v = omega (arith, mod-one v)
followed_by_low (suc n) a v =
    let m : v % (256 * 256 ^ n) ≡ (v / 256 ^ n % 256) * 256 ^ n + v % 256 ^ n = mod-mul v (lit< tt) (one-le-pow n 256 (lit< tt)) in
    followed_by_low n (a * 256 + v / 256 ^ n % 256) v
    ∙ rw (pow-succ' 256 n, m, add-mul, mul_assoc, add_assoc)

-- a number that n bytes hold is the one that its n low bytes stand for, for every n
pub low_bytes_stand : (n v : ℕ) → v < 256 ^ n → unsigned_value (low_bytes n v) ≡ v
low_bytes_stand n v h = followed_by_low n 0 v ∙ rw (zero-mul, zero-add) (mod-eq_of_lt h)

pub low_bytes_length : (n v : ℕ) → length (low_bytes n v) ≡ n
low_bytes_length zero v = refl
low_bytes_length (suc n) v = ap suc (low_bytes_length n v)

pub low_bytes_are_bytes : (n v : ℕ) → Bytes (low_bytes n v)
low_bytes_are_bytes zero v i = lit< tt
low_bytes_are_bytes (suc n) v zero = mod-lt (v / 256 ^ n) (lit< tt)
low_bytes_are_bytes (suc n) v (suc i) = low_bytes_are_bytes n v i

-- what stands above the n low bytes does not count
low_bytes_above : (n a v : ℕ) → low_bytes n (a * 256 ^ n + v) ≡ low_bytes n v
low_bytes_above zero a v = refl
low_bytes_above (suc n) a v =
    let e : a * 256 ^ suc n ≡ a * 256 * 256 ^ n = rw (pow-succ' 256 n) (sym (mul_assoc a 256 (256 ^ n))) in
    let d : (a * 256 * 256 ^ n + v) / 256 ^ n ≡ a * 256 + v / 256 ^ n = mul-add-div_right (one-le-pow n 256 (lit< tt)) (a * 256) v in
    let m : (a * 256 + v / 256 ^ n) % 256 ≡ v / 256 ^ n % 256 = omega arith in
    rw (e, d, m, low_bytes_above n (a * 256) v)

-- what bytes stand for behind a
followed_by_split : (a : ℕ) (bs : List ℕ) → followed_by a bs ≡ a * 256 ^ length bs + unsigned_value bs
followed_by_split a [] = omega arith
followed_by_split a (b ∷ bs) =
    let e : a * 256 ^ suc (length bs) ≡ a * 256 * 256 ^ length bs = rw (pow-succ' 256 (length bs)) (sym (mul_assoc a 256 (256 ^ length bs))) in
    let f : followed_by (a * 256 + b) bs ≡ (a * 256 + b) * 256 ^ length bs + unsigned_value bs = followed_by_split (a * 256 + b) bs in
    let g : followed_by (0 * 256 + b) bs ≡ (0 * 256 + b) * 256 ^ length bs + unsigned_value bs = followed_by_split (0 * 256 + b) bs in
    let m : (a * 256 + b) * 256 ^ length bs ≡ a * 256 * 256 ^ length bs + b * 256 ^ length bs = add-mul (a * 256) b (256 ^ length bs) in
    let z : (0 * 256 + b) * 256 ^ length bs ≡ b * 256 ^ length bs = ap (λ (x : ℕ). x * 256 ^ length bs) (zero-add b) in
    omega arith

-- bytes are the low bytes of what they stand for
pub low_bytes_of_value : (bs : List ℕ) → Bytes bs → low_bytes (length bs) (unsigned_value bs) ≡ bs
low_bytes_of_value [] h = refl
low_bytes_of_value (b ∷ bs) h =
    let n : ℕ = length bs in
    let v : unsigned_value (b ∷ bs) ≡ b * 256 ^ n + unsigned_value bs = followed_by_split (0 * 256 + b) bs ∙ ap (λ (x : ℕ). x * 256 ^ n + unsigned_value bs) (zero-add b) in
    let l : unsigned_value bs < 256 ^ n = value_lt bs (λ i. h (suc i)) in
    let d : (b * 256 ^ n + unsigned_value bs) / 256 ^ n ≡ b = digits_div b l in
    let m : b % 256 ≡ b = mod-eq_of_lt (h 0) in
    rw (v, d, m, low_bytes_above n b (unsigned_value bs), low_bytes_of_value bs (λ i. h (suc i)))

-- the low bytes of the 64-bit pattern are those of the pattern in n bytes, if n bytes hold the number
pub low_bytes_of_pattern : (n : ℕ) (z : ℤ) → n ≤ 8 → mag z < 256 ^ n → low_bytes n (pattern_of 8 z) ≡ low_bytes n (pattern_of n z)
low_bytes_of_pattern n (pos k) l h = refl
low_bytes_of_pattern n (negsuc k) l h =
    let p : ℕ = 256 ^ (8 - n) in
    let c : ℕ = 256 ^ n in
    let s : 256 ^ (8 - n + n) ≡ p * c = pow-add 256 (8 - n) n in
    let t : 8 - n + n ≡ 8 = omega arith in
    let w : 256 ^ 8 ≡ p * c = rw t at s in
    let m : p * c - 1 ≡ (p - 1) * c + (c - 1) = mul_pred (one-le-pow (8 - n) 256 (lit< tt)) (one-le-pow n 256 (lit< tt)) in
    let q : 256 ^ 8 - 1 - k ≡ (p - 1) * c + (c - 1 - k) = omega arith in
    ap (low_bytes n) q ∙ low_bytes_above n (p - 1) (c - 1 - k)

-- one low byte more, where the rest of the number is at hand
pub low_bytes_more : (n v : ℕ) → low_bytes (n + 1) v ≡ v / 256 ^ n % 256 ∷ low_bytes n v
low_bytes_more n v = rw (add-one n)

-- and what is then left
pub rest_more : (n v : ℕ) → v / 256 ^ n / 256 ≡ v / 256 ^ (n + 1)
rest_more n v = div-div-eq-div-mul v (256 ^ n) 256 ∙ ap (λ (m : ℕ). v / m) (mul_comm (256 ^ n) 256 ∙ sym (pow-succ' 256 n) ∙ ap (λ (m : ℕ). 256 ^ m) (sym (add-one n)))
