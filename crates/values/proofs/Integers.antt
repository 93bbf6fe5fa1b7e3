-- Integers and enumerated values: what is read stands there and the other way round, and what is written reads back.
-- Assumes nothing.
use mathlib.Core.Path.{◌≡◌, refl, ◌∙◌, ap, sym}
use Prim.Native.Nat.{ℕ, ◌+◌, ◌^◌, ◌<◌, ◌≤◌}
use native.Mathlib.Omega.{arith}
use mathlib.Core.List.{List, ◌++◌}
use lib.Dec.{ltb}
use lib.IntN.{ℤ}
use lib.Signed.{mag}
use lib.ListN.{length, drop}
use borrow.Author.Tests.{le-ltb, ltb-false}
use Rattle.types.specs.Answer.{Answer, accepted}
use Rattle.types.proofs.Choices.{either, read_on}
use Rattle.numbers.specs.Integer.{unsigned_value, signed_value, unsigned_bytes, signed_bytes, Shortest}
use Rattle.numbers.specs.Reading.{unsigned_from, signed_from}
use Rattle.numbers.proofs.Found.{IntegerFound, unsigned_found, signed_found, unsigned_at, signed_at}
use Rattle.numbers.proofs.Shortest.{unsigned_shortest, signed_shortest}
use Rattle.values.specs.Integer.{enumerated_under, IsInteger, IsEnumerated}
use Rattle.values.proofs.Standing.{Stood, StoodOr, stood_or}

pub is_integer : {A : Type 0} {value_of : List ℕ → A} {len : ℕ} {xs : List ℕ} {place : ℕ} {x : A} {next : ℕ} (f : IntegerFound value_of len xs place x next) → IsInteger value_of len f.bytes x
is_integer f = record { some = f.some; most = f.most; sized = f.sized; stands = f.stands }

integer_stood : {A : Type 0} {value_of : List ℕ → A} {len : ℕ} {xs : List ℕ} {place : ℕ} {x : A} {next : ℕ} → IntegerFound value_of len xs place x next → Stood (λ (p : ℕ). IsInteger value_of len) xs place x next
integer_stood f = record { bytes = f.bytes; is = is_integer f; here = f.here; ends = omega (arith, f.ends, f.sized) }

pub unsigned_or : (len : ℕ) (xs : List ℕ) (place : ℕ) → StoodOr (λ (p : ℕ). IsInteger unsigned_value len) xs place (unsigned_from len xs place)
unsigned_or len xs place = stood_or (λ (p : ℕ). IsInteger unsigned_value len) xs place (unsigned_from len xs place) (λ x next e. integer_stood (unsigned_found len xs place x next e))

pub signed_or : (len : ℕ) (xs : List ℕ) (place : ℕ) → StoodOr (λ (p : ℕ). IsInteger signed_value len) xs place (signed_from len xs place)
signed_or len xs place = stood_or (λ (p : ℕ). IsInteger signed_value len) xs place (signed_from len xs place) (λ x next e. integer_stood (signed_found len xs place x next e))

pub enumerated_or : (len : ℕ) (xs : List ℕ) (place : ℕ) → StoodOr (λ (p : ℕ). IsEnumerated len) xs place (enumerated_under len xs place)
unfolding enumerated_under
enumerated_or len xs place =
    read_on (StoodOr (λ (p : ℕ). IsEnumerated len) xs place) (unsigned_from len xs place)
    (λ x next e.
    let f = unsigned_found len xs place x next e in
    either (StoodOr (λ (p : ℕ). IsEnumerated len) xs place) (ltb 4294967295 x) (λ g. tt)
    (λ g. record { bytes = f.bytes; is = record { integer = is_integer f; fits = ltb-false 4294967295 x g }; here = f.here; ends = omega (arith, f.ends, f.sized) }))
    (λ n c e. tt)

module _ (xs : List ℕ) (place : ℕ) (bytes rest : List ℕ) (small : length xs ≤ 65535) (e : drop place xs ≡ bytes ++ rest) where
  -- what is read of content whose length is known otherwise
  integer_read : {A : Type 0} {value_of : List ℕ → A} (from : ℕ → Answer A) → (1 ≤ length bytes → length bytes ≤ 8 → from (length bytes) ≡ accepted (value_of bytes) (place + length bytes)) → {len : ℕ} {x : A} → IsInteger value_of len bytes x → from len ≡ accepted x (place + length bytes)
  integer_read {A} from h {len} {x} i =
      ap from (sym i.sized) ∙ h (omega (arith, i.some, i.sized)) (omega (arith, i.most, i.sized)) ∙ ap (λ (y : A). accepted y (place + length bytes)) (sym i.stands)

  pub unsigned_read : {len x : ℕ} → IsInteger unsigned_value len bytes x → unsigned_from len xs place ≡ accepted x (place + length bytes)
  unsigned_read i = integer_read (λ n. unsigned_from n xs place) (λ s m. unsigned_at xs place bytes rest small s m e) i

  pub signed_read : {len : ℕ} {x : ℤ} → IsInteger signed_value len bytes x → signed_from len xs place ≡ accepted x (place + length bytes)
  signed_read i = integer_read (λ n. signed_from n xs place) (λ s m. signed_at xs place bytes rest small s m e) i

  pub enumerated_read : {len x : ℕ} → IsEnumerated len bytes x → enumerated_under len xs place ≡ accepted x (place + length bytes)
  unfolding enumerated_under
  enumerated_read {x = x} i = simp (unsigned_read i.integer, le-ltb 4294967295 x i.fits)

-- the shortest content is the integer
shortest_is : {A : Type 0} {value_of : List ℕ → A} {x : A} {bytes : List ℕ} → Shortest value_of x bytes → IsInteger value_of (length bytes) bytes x
shortest_is s = record { some = s.holds.some; most = s.most; sized = refl; stands = sym s.holds.stands }

pub unsigned_is : (x : ℕ) → x < 2 ^ 64 → IsInteger unsigned_value (length (unsigned_bytes x)) (unsigned_bytes x) x
unsigned_is x h = shortest_is (unsigned_shortest x h)

pub signed_is : (x : ℤ) → mag x < 2 ^ 63 → IsInteger signed_value (length (signed_bytes x)) (signed_bytes x) x
signed_is x h = shortest_is (signed_shortest x h)

pub enumerated_is : (x : ℕ) → x ≤ 4294967295 → IsEnumerated (length (unsigned_bytes x)) (unsigned_bytes x) x
enumerated_is x h = record { integer = unsigned_is x (omega arith); fits = h }
