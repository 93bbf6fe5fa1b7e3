-- The first number at which a test holds, and the least number of bytes. Once, over the length.
-- Assumes nothing.
use mathlib.Core.Path.{◌≡◌, refl, ◌∙◌, ap, sym}
use mathlib.Core.Logic.{⊎_elim}
use mathlib.Core.Bool.{Bool, true, false}
use Prim.Native.Nat.{ℕ, zero, suc, ◌+◌, ◌*◌, ◌^◌, ◌<◌, ◌≤◌}
use native.Mathlib.Omega.{arith}
use native.Mathlib.Decide.{dec_lt}
use native.Mathlib.Nat.{add-suc, suc-add, zero-add, eq-or-lt_of_le, pow-succ'}
use lib.Dec.{ltb}
use lib.Pow.{pow-add}
use borrow.Author.Tests.{lt-ltb, ltb-true, ltb-false}
use Rattle.types.specs.Choice.{if}
use Rattle.numbers.specs.Integer.{first_from, unsigned_length}

module _ (test : ℕ → Bool) where
  -- the test holds at the first, if it holds at the last
  pub first_holds : (steps n : ℕ) → test (steps + n) ≡ true → test (first_from test steps n) ≡ true
  first_holds zero n h = ap test (sym (zero-add n)) ∙ h
  first_holds (suc steps) n h = go (test n) refl (first_holds steps (suc n) (ap test (add-suc steps n ∙ sym (suc-add steps n)) ∙ h))
    where
      go : (b : Bool) → test n ≡ b → test (first_from test steps (suc n)) ≡ true → test (if b n (first_from test steps (suc n))) ≡ true
      go true e r = e
      go false e r = r

  -- and at none before it
  pub first_least : (steps n m : ℕ) → n ≤ m → m < first_from test steps n → test m ≡ false
  first_least zero n m k h = absurd (omega arith)
  first_least (suc steps) n m k h = go (test n) refl h (λ q l. first_least steps (suc n) m q l)
    where
      go : (b : Bool) → test n ≡ b → m < if b n (first_from test steps (suc n)) → (n < m → m < first_from test steps (suc n) → test m ≡ false) → test m ≡ false
      go true e l r = absurd (omega arith)
      go false e l r = ⊎_elim (λ q. ap test (sym q) ∙ e) (λ q. r q l) (eq-or-lt_of_le k)

  -- it lies between the start and the last
  pub first_between : (steps n : ℕ) → (n ≤ first_from test steps n) × (first_from test steps n ≤ steps + n)
  first_between zero n = omega arith
  first_between (suc steps) n = go (test n) (first_between steps (suc n))
    where
      go : (b : Bool) → (suc n ≤ first_from test steps (suc n)) × (first_from test steps (suc n) ≤ steps + suc n)
          → (n ≤ if b n (first_from test steps (suc n))) × (if b n (first_from test steps (suc n)) ≤ suc steps + n)
      go true h = omega arith
      go false h = omega arith

-- the least length lies between 1 and 8
pub length_between : (v : ℕ) → (1 ≤ unsigned_length v) × (unsigned_length v ≤ 8)
unfolding unsigned_length
length_between v = first_between (λ n. ltb v (256 ^ n)) 7 1

-- it holds every 64-bit number
pub length_holds : (v : ℕ) → v < 256 ^ 8 → v < 256 ^ unsigned_length v
unfolding unsigned_length
length_holds v h = ltb-true v (256 ^ unsigned_length v) (first_holds (λ n. ltb v (256 ^ n)) 7 1 (lt-ltb v (256 ^ 8) h))

-- and no shorter one does
pub length_least : (v m : ℕ) → 1 ≤ m → v < 256 ^ m → unsigned_length v ≤ m
unfolding unsigned_length
length_least v m l h = go (dec_lt m (unsigned_length v))
  where
    go : Dec (m < unsigned_length v) → unsigned_length v ≤ m
    go (yes a) = absurd (omega (arith, ltb-false v (256 ^ m) (first_least (λ n. ltb v (256 ^ n)) 7 1 m l a)))
    go (no a) = omega arith

-- 256 ^ n in powers of two
pub bytes_as_bits : (n : ℕ) → 256 ^ n ≡ 2 ^ (8 * n)
bytes_as_bits zero = refl
bytes_as_bits (suc n) =
    let e : 8 * suc n ≡ 8 + 8 * n = omega arith in
    pow-succ' 256 n ∙ rw (e, pow-add 2 8 (8 * n), bytes_as_bits n)
