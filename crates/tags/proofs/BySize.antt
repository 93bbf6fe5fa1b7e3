-- The low bits and the bytes that are written for a value, by how large it is.
-- Assumes nothing.
use mathlib.Core.Path.{◌≡◌, ap}
use Prim.Native.Nat.{ℕ, ◌<◌, ◌≤◌}
use native.Mathlib.Omega.{arith}
use native.Mathlib.Decide.{dec_lt}
use mathlib.Core.List.{[], ◌∷◌}
use lib.ListN.{length}
use borrow.Author.Tests.{lt-ltb, le-ltb}
use Rattle.numbers.specs.Integer.{low_bytes}
use Rattle.tags.specs.Writing.{low_bits_for, tag_value_bytes}

-- below, or not
pub split : {A : Type 0} (m n : ℕ) → (m < n → A) → (n ≤ m → A) → A
split {A} m n f g = go (dec_lt m n)
  where
    go : Dec (m < n) → A
    go (yes h) = f h
    go (no h) = g (omega arith)

-- the low bits: the value to 4, and 5 from there on
pub to_four : (v : ℕ) → v < 5 → v ≡ low_bits_for v
to_four v h = simp (lt-ltb v 5 h)

pub from_five : (v : ℕ) → 5 ≤ v → 5 ≡ low_bits_for v
from_five v h = simp (le-ltb v 5 h)

pub low_lt : (v : ℕ) → low_bits_for v < 6
low_lt v = split v 5 (λ h. omega (arith, to_four v h)) (λ h. omega (arith, from_five v h))

-- the bytes: none to 4, the value to 253, 254 and two to 65,535, and 255 and four above that
pub few : (v : ℕ) → v < 5 → tag_value_bytes v ≡ []
few v h = simp (lt-ltb v 5 h)

pub alone : (v : ℕ) → 5 ≤ v → v < 254 → tag_value_bytes v ≡ v ∷ []
alone v h k = simp (le-ltb v 5 h, lt-ltb v 254 k)

pub in_two : (v : ℕ) → 254 ≤ v → v < 65536 → tag_value_bytes v ≡ 254 ∷ low_bytes 2 v
in_two v h k = simp (le-ltb v 5 (omega arith), le-ltb v 254 h, lt-ltb v 65536 k)

pub in_four : (v : ℕ) → 65536 ≤ v → tag_value_bytes v ≡ 255 ∷ low_bytes 4 v
in_four v h = simp (le-ltb v 5 (omega arith), le-ltb v 254 (omega arith), le-ltb v 65536 h)

-- and how many they are at the most
pub most_one : (v : ℕ) → v < 254 → length (tag_value_bytes v) ≤ 1
most_one v h = split v 5 (λ k. omega (arith, ap length (few v k))) (λ k. omega (arith, ap length (alone v k h)))

pub most_three : (v : ℕ) → v < 65536 → length (tag_value_bytes v) ≤ 3
most_three v h = split v 254 (λ k. omega (arith, most_one v k)) (λ k. omega (arith, ap length (in_two v k h)))

pub most_five : (v : ℕ) → length (tag_value_bytes v) ≤ 5
most_five v = split v 65536 (λ h. omega (arith, most_three v h)) (λ h. omega (arith, ap length (in_four v h)))
