-- Of contents of one length one alone holds an integer, unsigned or signed. Once, over how an integer's bytes are told from it.
-- Assumes nothing.
use mathlib.Core.Path.{◌≡◌, refl, ◌∙◌, ap, ap₂, sym}
use Prim.Native.Nat.{ℕ, ◌*◌, ◌^◌, ◌<◌}
use native.Mathlib.Omega.{arith}
use mathlib.Core.List.{List}
use lib.IntN.{ℤ}
use lib.ListN.{length}
use lib.Dec.{ltb}
use Rattle.types.proofs.Choices.{either}
use Rattle.numbers.specs.Integer.{unsigned_value, signed_value, twos_complement, low_bytes, pattern_of, Bytes, Holds}
use Rattle.numbers.proofs.Value.{value_lt}
use Rattle.numbers.proofs.Low.{low_bytes_of_value}

module _ {A : Type 0} (value_of : List ℕ → A) (pattern : ℕ → A → ℕ) (again : (content : List ℕ) → Bytes content → low_bytes (length content) (pattern (length content) (value_of content)) ≡ content) where
  one_content : (v : A) (a b : List ℕ) → Holds value_of v a → Holds value_of v b → length a ≡ length b → a ≡ b
  one_content v a b p q same =
      sym (again a p.bytes)
      ∙ ap₂ (λ (n : ℕ) (x : A). low_bytes n (pattern n x)) same (p.stands ∙ sym q.stands)
      ∙ again b q.bytes

-- of contents of one length one alone holds an unsigned integer
pub unsigned_one_content : (v : ℕ) (a b : List ℕ) → Holds unsigned_value v a → Holds unsigned_value v b → length a ≡ length b → a ≡ b
unsigned_one_content = one_content unsigned_value (λ n v. v) low_bytes_of_value

-- what n bytes stand for in two's complement has in n bytes the pattern that they are
pub pattern_again : (n u : ℕ) → u < 256 ^ n → pattern_of n (twos_complement n u) ≡ u
pattern_again n u h = either (λ (z : ℤ). pattern_of n z ≡ u) (ltb (u * 2) (256 ^ n)) (λ e. refl) (λ e. omega arith)

-- of contents of one length one alone holds a signed integer
pub signed_one_content : (z : ℤ) (a b : List ℕ) → Holds signed_value z a → Holds signed_value z b → length a ≡ length b → a ≡ b
signed_one_content = one_content signed_value pattern_of (λ content b.
    ap (low_bytes (length content)) (pattern_again (length content) (unsigned_value content) (value_lt content b)) ∙ low_bytes_of_value content b)
