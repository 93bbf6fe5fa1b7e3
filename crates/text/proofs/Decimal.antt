-- Numbers in decimal: their digits stand for them, and there are no more than needed.
-- Assumes nothing.
use mathlib.Core.Path.{◌≡◌, refl, ◌∙◌, ap}
use mathlib.Core.Bool.{Bool, true, false}
use mathlib.Core.List.{List, [], ◌∷◌, ◌++◌}
use Prim.Native.Nat.{ℕ, zero, suc, ◌+◌, ◌-◌, ◌*◌, ◌/◌, ◌%◌, ◌^◌, ◌≤◌, ◌<◌}
use native.Mathlib.Nat.{pow-succ', mod-eq_of_lt}
use native.Mathlib.Omega.{arith}
use lib.Dec.{ltb}
use lib.ListN.{length, length-append}
use borrow.Author.Tests.{lt-ltb, le-ltb, ltb-true, ltb-false}
use Rattle.types.specs.Choice.{if}
use Rattle.types.proofs.Choices.{either}
use Rattle.text.specs.Text.{digits, count_of, decimal}

pub length_digits : (k n : ℕ) → length (digits k n) ≡ k
length_digits zero n = refl
length_digits (suc k) n = length-append (digits k (n / 10)) ((48 + n % 10) ∷ []) ∙ omega (arith, length_digits k (n / 10))

-- a number of one digit
pub decimal_one : (n : ℕ) → n < 10 → decimal n ≡ (48 + n) ∷ []
unfolding decimal
decimal_one n h = rw (lt-ltb n 10 h, mod-eq_of_lt h) refl

-- a number below 100 by its two digits
pub two_digits : (n : ℕ) → n < 100 → digits 2 n ≡ (48 + n / 10) ∷ (48 + n % 10) ∷ []
two_digits n h = let e : n / 10 % 10 ≡ n / 10 = omega arith in rw e refl

-- a number of two digits, one of three (its first, and the other two), and one of four (two and two)
pub decimal_two : (n : ℕ) → 10 ≤ n → n < 100 → decimal n ≡ digits 2 n
unfolding decimal
decimal_two n h k = let l : n / 10 < 10 = omega arith in rw (le-ltb n 10 h, lt-ltb (n / 10) 10 l) refl

pub decimal_three : (n : ℕ) → 100 ≤ n → n < 1000 → decimal n ≡ ((48 + n / 100) ∷ []) ++ digits 2 (n % 100)
unfolding decimal
decimal_three n h k =
    let a : 10 ≤ n = omega arith in
    let b : 10 ≤ n / 10 = omega arith in
    let c : n / 10 / 10 < 10 = omega arith in
    let d : n / 10 / 10 % 10 ≡ n / 100 = omega arith in
    let e : n / 10 % 10 ≡ n % 100 / 10 % 10 = omega arith in
    let f : n % 10 ≡ n % 100 % 10 = omega arith in
    rw (le-ltb n 10 a, le-ltb (n / 10) 10 b, lt-ltb (n / 10 / 10) 10 c) (rw (d, e, f) refl)

pub decimal_four : (n : ℕ) → 1000 ≤ n → n < 10000 → decimal n ≡ digits 2 (n / 100) ++ digits 2 (n % 100)
unfolding decimal
decimal_four n h k =
    let a : 10 ≤ n = omega arith in
    let b : 10 ≤ n / 10 = omega arith in
    let c : 10 ≤ n / 10 / 10 = omega arith in
    let d : n / 10 / 10 / 10 < 10 = omega arith in
    let e : n / 10 / 10 / 10 % 10 ≡ n / 100 / 10 % 10 = omega arith in
    let f : n / 10 / 10 % 10 ≡ n / 100 % 10 = omega arith in
    let g : n / 10 % 10 ≡ n % 100 / 10 % 10 = omega arith in
    let i : n % 10 ≡ n % 100 % 10 = omega arith in
    rw (le-ltb n 10 a, le-ltb (n / 10) 10 b, le-ltb (n / 10 / 10) 10 c, lt-ltb (n / 10 / 10 / 10) 10 d) (rw (e, f, g, i) refl)

-- a number of 64 bits with two digits or more: those before the last, and the last
count_enough : (f n : ℕ) → n < 10 ^ suc f → count_of (suc f) n ≡ count_of f n
count_enough zero n h = rw (lt-ltb n 10 h) refl
count_enough (suc f) n h =
    let e : 10 ^ suc (suc f) ≡ 10 * 10 ^ suc f = pow-succ' 10 (suc f) in
    let m : n / 10 < 10 ^ suc f = omega arith in
    ap (λ (k : ℕ). if (ltb n 10) 1 (suc k)) (count_enough f (n / 10) m)

pub decimal_more : (n : ℕ) → 10 ≤ n → n < 10 ^ 20 → decimal n ≡ decimal (n / 10) ++ ((48 + n % 10) ∷ [])
unfolding decimal
decimal_more n h k =
    let e : 10 ^ 20 ≡ 10 * 10 ^ 19 = pow-succ' 10 19 in
    let m : n / 10 < 10 ^ 19 = omega arith in
    rw (le-ltb n 10 h, count_enough 18 (n / 10) m) refl

-- a number below 10^k takes at most k digits
count_most : (f k n : ℕ) → n < 10 ^ suc k → count_of f n ≤ suc k
count_most zero k n h = omega arith
count_most (suc f) zero n h = rw (lt-ltb n 10 h) (omega arith)
count_most (suc f) (suc k) n h =
    let e : 10 ^ suc (suc k) ≡ 10 * 10 ^ suc k = pow-succ' 10 (suc k) in
    let m : n / 10 < 10 ^ suc k = omega arith in
    either (λ (c : ℕ). c ≤ suc (suc k)) (ltb n 10) (λ t. omega arith) (λ t. omega (arith, count_most f k (n / 10) m))

pub decimal_most : (k n : ℕ) → n < 10 ^ suc k → length (decimal n) ≤ suc k
unfolding decimal
decimal_most k n h = omega (arith, length_digits (count_of 19 n) n, count_most 19 k n h)

-- and no number takes more than twenty
count_fuel : (f n : ℕ) → count_of f n ≤ suc f
count_fuel zero n = omega arith
count_fuel (suc f) n = either (λ (c : ℕ). c ≤ suc (suc f)) (ltb n 10) (λ t. omega arith) (λ t. omega (arith, count_fuel f (n / 10)))

pub decimal_short : (n : ℕ) → length (decimal n) ≤ 20
unfolding decimal
decimal_short n = omega (arith, length_digits (count_of 19 n) n, count_fuel 19 n)

-- the number that decimal digits stand for, behind a
abbrev pub value_on : ℕ → List ℕ → ℕ
value_on a [] = a
value_on a (d ∷ ds) = value_on (a * 10 + (d - 48)) ds

value_snoc : (a : ℕ) (l : List ℕ) (d : ℕ) → value_on a (l ++ (d ∷ [])) ≡ value_on a l * 10 + (d - 48)
value_snoc a [] d = refl
value_snoc a (x ∷ l) d = value_snoc (a * 10 + (x - 48)) l d

digits_value : (k n : ℕ) → n < 10 ^ k → value_on 0 (digits k n) ≡ n
digits_value zero n h = omega arith
digits_value (suc k) n h =
    let e : 10 ^ suc k ≡ 10 * 10 ^ k = pow-succ' 10 k in
    let q : n / 10 < 10 ^ k = omega arith in
    let i : value_on 0 (digits k (n / 10)) ≡ n / 10 = digits_value k (n / 10) q in
    value_snoc 0 (digits k (n / 10)) (48 + n % 10) ∙ rw i (omega arith)

count_holds : (f n : ℕ) → n < 10 ^ suc f → n < 10 ^ count_of f n
count_holds zero n h = h
count_holds (suc f) n h =
    let e : 10 ^ suc (suc f) ≡ 10 * 10 ^ suc f = pow-succ' 10 (suc f) in
    go (ltb n 10) refl (count_holds f (n / 10) (omega arith))
  where
    go : (b : Bool) → ltb n 10 ≡ b → n / 10 < 10 ^ count_of f (n / 10) → n < 10 ^ if b 1 (suc (count_of f (n / 10)))
    go true t i = ltb-true n 10 t
    go false t i = let e : 10 ^ suc (count_of f (n / 10)) ≡ 10 * 10 ^ count_of f (n / 10) = pow-succ' 10 (count_of f (n / 10)) in omega arith

-- the digits of a number of 64 bits stand for it
pub decimal_back : (n : ℕ) → n < 10 ^ 20 → value_on 0 (decimal n) ≡ n
unfolding decimal
decimal_back n h = digits_value (count_of 19 n) n (count_holds 19 n h)

-- and no fewer would do: a number of two digits or more has no leading zero
module _ (n : ℕ) where
  least_by : (b : Bool) → ltb n 10 ≡ b → (c k : ℕ) → ((j : ℕ) → suc j < c → 10 ^ suc j ≤ n / 10) → suc k < if b 1 (suc c) → 10 ^ suc k ≤ n
  least_by true t c k on h = absurd (omega arith)
  least_by false t c zero on h = ltb-false n 10 t
  least_by false t c (suc k) on h =
      let e : 10 ^ suc (suc k) ≡ 10 * 10 ^ suc k = pow-succ' 10 (suc k) in
      let m : 10 ^ suc k ≤ n / 10 = on k (omega arith) in
      omega arith

count_least : (f k n : ℕ) → suc k < count_of f n → 10 ^ suc k ≤ n
count_least zero k n h = absurd (omega arith)
count_least (suc f) k n h = least_by n (ltb n 10) refl (count_of f (n / 10)) k (λ j i. count_least f j (n / 10) i) h

pub decimal_least : (k n : ℕ) → suc k < length (decimal n) → 10 ^ suc k ≤ n
unfolding decimal
decimal_least k n h = count_least 19 k n (omega (arith, length_digits (count_of 19 n) n))
