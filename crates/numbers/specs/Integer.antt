-- Integers as bytes: Unsigned (ASHRAE 135, 20.2.4) and Signed, in two's complement (20.2.5), most significant byte first.
-- Assumes nothing.
use Rattle.std.specs.Prelude.{ℕ, zero, suc, ◌+◌, ◌-◌, ◌*◌, ◌/◌, ◌%◌, ◌^◌, ◌<◌, ◌≤◌, ◌≡◌, Bool, List, [], ◌∷◌, length, get_or, ltb, ℤ, pos, negsuc}
use Rattle.std.specs.Int.Signed.{mag}
use Rattle.types.specs.Choice.{if}

-- the number that a number and then bytes stand for
abbrev pub followed_by : ℕ → List ℕ → ℕ
followed_by a [] = a
followed_by a (b ∷ bs) = followed_by (a * 256 + b) bs

-- the unsigned integer that bytes stand for
abbrev pub unsigned_value : List ℕ → ℕ
unsigned_value bytes = followed_by 0 bytes

-- the signed integer of n bytes that stand for u unsigned: u below half of 256 ^ n, else u - 256 ^ n (`negsuc k` is -(k + 1))
abbrev pub twos_complement : ℕ → ℕ → ℤ
twos_complement n u = if (ltb (u * 2) (256 ^ n)) (pos u) (negsuc (256 ^ n - 1 - u))

-- the signed integer that bytes stand for
abbrev pub signed_value : List ℕ → ℤ
signed_value bytes = twos_complement (length bytes) (unsigned_value bytes)

-- the n low bytes of a number
abbrev pub low_bytes : ℕ → ℕ → List ℕ
low_bytes zero v = []
low_bytes (suc n) v = v / 256 ^ n % 256 ∷ low_bytes n v

-- the unsigned integer that stands for a signed one in n bytes
abbrev pub pattern_of : ℕ → ℤ → ℕ
pattern_of n (pos k) = k
pattern_of n (negsuc k) = 256 ^ n - 1 - k

-- the first number from a start on at which a test holds, within some steps
abbrev pub first_from : (ℕ → Bool) → ℕ → ℕ → ℕ
first_from test zero n = n
first_from test (suc steps) n = if (test n) n (first_from test steps (suc n))

-- the least number of bytes, 1 to 8, that holds an unsigned integer: n bytes hold those below 256 ^ n
unfoldable pub unsigned_length : ℕ → ℕ
unsigned_length v = first_from (λ n. ltb v (256 ^ n)) 7 1

-- the least number of bytes, 1 to 8, that holds a signed integer: n bytes hold k and -(k + 1) where k is below half of 256 ^ n (`mag` of both is k)
unfoldable pub signed_length : ℤ → ℕ
signed_length z = first_from (λ n. ltb (mag z * 2) (256 ^ n)) 7 1

-- the content of an unsigned integer, in the fewest bytes
unfoldable pub unsigned_bytes : ℕ → List ℕ
unsigned_bytes v = low_bytes (unsigned_length v) v

-- the content of a signed integer, in the fewest bytes
unfoldable pub signed_bytes : ℤ → List ℕ
signed_bytes z = low_bytes (signed_length z) (pattern_of (signed_length z) z)

-- every element is a byte
abbrev pub Bytes : List ℕ → Type 0
Bytes xs = (i : ℕ) → get_or xs i 0 < 256

-- content that holds an integer: one byte at the least, and the bytes stand for it
pub record Holds {A : Type 0} (value_of : List ℕ → A) (v : A) (content : List ℕ) : Type 0 where
  pub some : 1 ≤ length content
  pub bytes : Bytes content
  pub stands : value_of content ≡ v

-- content of at most eight bytes that holds an integer, and none that holds it is shorter
pub record Shortest {A : Type 0} (value_of : List ℕ → A) (v : A) (content : List ℕ) : Type 0 where
  pub holds : Holds value_of v content
  pub most : length content ≤ 8
  pub least : (other : List ℕ) → Holds value_of v other → length content ≤ length other
