-- Laws of the numbers that bytes stand for.
-- Assumes nothing.
use mathlib.Core.Path.{◌≡◌, sym}
use Prim.Native.Nat.{ℕ, zero, suc, ◌+◌, ◌*◌, ◌^◌, ◌<◌, ◌≤◌}
use native.Mathlib.Nat.{pow-succ', one-le-pow, pow-le-pow_right, mul_assoc, mul-le-mul_left, mul-le-mul_right, lt_of_lt_of_le}
use native.Mathlib.Omega.{arith}
use mathlib.Core.List.{List, [], ◌∷◌, ◌++◌}
use lib.ListN.{length, take, drop, take-append-drop}
use lib.Dec.{lit<}
use lib.Seq.{get_or-drop, take_all}
use Rattle.numbers.specs.Integer.{followed_by, unsigned_value, Bytes}

-- n bytes behind a: less than one more than a, moved up by n bytes
followed_by_lt : (n a : ℕ) (xs : List ℕ) → Bytes xs → followed_by a (take n xs) < suc a * 256 ^ n
followed_by_lt zero a xs h = omega arith
followed_by_lt (suc n) a [] h = omega (arith, mul-le-mul_left (suc a) (one-le-pow (suc n) 256 (lit< tt)))
followed_by_lt (suc n) a (x ∷ xs) h =
    let room : suc (a * 256 + x) ≤ suc a * 256 = omega (arith, h 0) in
    let e : suc a * 256 ^ suc n ≡ suc a * 256 * 256 ^ n = rw (pow-succ' 256 n) (sym (mul_assoc (suc a) 256 (256 ^ n))) in
    rw e (lt_of_lt_of_le (followed_by_lt n (a * 256 + x) xs (λ i. h (suc i))) (mul-le-mul_right (256 ^ n) room))

pub bytes_dropped : (xs : List ℕ) (start : ℕ) → Bytes xs → Bytes (drop start xs)
bytes_dropped xs start h i = rw get_or-drop (h (start + i))

-- bytes joined are bytes, and so is either part of them
pub bytes_joined : (a b : List ℕ) → Bytes a → Bytes b → Bytes (a ++ b)
bytes_joined [] b h k i = k i
bytes_joined (x ∷ a) b h k zero = h 0
bytes_joined (x ∷ a) b h k (suc i) = bytes_joined a b (λ j. h (suc j)) k i

pub bytes_before : (a b : List ℕ) → Bytes (a ++ b) → Bytes a
bytes_before [] b h i = lit< tt
bytes_before (x ∷ a) b h zero = h 0
bytes_before (x ∷ a) b h (suc i) = bytes_before a b (λ j. h (suc j)) i

pub bytes_taken : (n : ℕ) (xs : List ℕ) → Bytes xs → Bytes (take n xs)
bytes_taken n xs h = bytes_before (take n xs) (drop n xs) (rw take-append-drop h)

pub bytes_behind : (a b : List ℕ) → Bytes (a ++ b) → Bytes b
bytes_behind [] b h = h
bytes_behind (x ∷ a) b h = bytes_behind a b (λ i. h (suc i))

-- at most n bytes, anywhere in a buffer, stand for less than 256 ^ n
pub value_room : (n : ℕ) (xs : List ℕ) (start m : ℕ) → Bytes xs → m ≤ n → unsigned_value (take m (drop start xs)) < 256 ^ n
value_room n xs start m h l =
    lt_of_lt_of_le (omega (arith, followed_by_lt m 0 (drop start xs) (bytes_dropped xs start h))) (pow-le-pow_right {n = 256} (lit< tt) l)

-- bytes stand for less than 256 to the power of their number
pub value_lt : (xs : List ℕ) → Bytes xs → unsigned_value xs < 256 ^ length xs
value_lt xs h =
    let e : take (length xs) xs ≡ xs = take_all (length xs) xs (omega arith) in
    let l : unsigned_value (take (length xs) xs) < 256 ^ length xs = omega (arith, followed_by_lt (length xs) 0 xs h) in
    rw e at l
