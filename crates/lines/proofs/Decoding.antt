-- Digits decoded pair by pair: what is stored, and what is still to come.
-- Assumes nothing.
use mathlib.Core.Path.{◌≡◌, refl, ◌∙◌, ap, sym}
use mathlib.Core.Bool.{Bool, true, false}
use mathlib.Core.List.{List, [], ◌∷◌}
use Prim.Native.Nat.{ℕ, zero, suc, ◌+◌, ◌-◌, ◌*◌, ◌/◌, ◌≤◌, ◌<◌, min}
use native.Mathlib.Numerals.{add-one}
use native.Mathlib.Omega.{arith}
use lib.ListN.{length, take, drop, get_or, set, length-drop}
use lib.Seq.{sets, take-nil, drop-drop}
use lib.Dec.{ltb}
use borrow.Author.Tests.{ltb-true, ltb-false}
use Rattle.std.proofs.lemmas.List.{get_or-take, length-take}
use Rattle.std.specs.Simd.{first_chunks}
use Rattle.types.specs.Choice.{if}
use Rattle.lines.specs.Hexadecimal.{most_bytes, nibble_of, pairs, leading}
use Rattle.lines.proofs.Digits.{pairs_short}

-- the bytes that may still follow behind so many
abbrev pub to_come : List ℕ → ℕ → ℕ → List ℕ
to_come xs count next = take (most_bytes - count) (pairs (drop next xs))

-- so many bytes of the digits from a place on are stored in a frame, and the next digits stand at another
pub record Decoding (xs : List ℕ) (place : ℕ) (frame₀ frame : List ℕ) (count next : ℕ) : Type 0 where
  pub reached : next ≡ place + count + count
  pub inside : next ≤ length xs
  pub few : count ≤ most_bytes
  pub stored : sets frame₀ 0 (leading (drop place xs)) ≡ sets frame count (to_come xs count next)
  pub counted : length (leading (drop place xs)) ≡ count + length (to_come xs count next)

length-chunks : (k : ℕ) (xs : List ℕ) → length (first_chunks 2 k xs) ≡ k
length-chunks zero xs = refl
length-chunks (suc k) xs = ap suc (length-chunks k (drop 2 xs))

-- the pair of digits at a place
pair_at : (xs : List ℕ) (k i : ℕ) → i < k → get_or (first_chunks 2 k xs) i [] ≡ take 2 (drop (i + i) xs)
pair_at xs zero i h = absurd (omega arith)
pair_at xs (suc k) zero h = refl
pair_at xs (suc k) (suc i) h =
    let e : suc i + suc i ≡ 2 + (i + i) = omega arith in
    rw e (pair_at (drop 2 xs) k i (omega arith) ∙ ap (take 2) (drop-drop (i + i) 2 xs))

pub pair_taken : (xs : List ℕ) (chunks : List (List ℕ)) (n i : ℕ) → chunks ≡ first_chunks 2 (length xs / 2) xs → i < length (take n chunks) → get_or (take n chunks) i [] ≡ take 2 (drop (i + i) xs)
pair_taken xs chunks n i e h =
    let a : i < n = omega (arith, length-take n chunks) in
    let b : i < length xs / 2 = omega (arith, length-take n chunks, ap length e, length-chunks (length xs / 2) xs) in
    get_or-take n chunks i [] a ∙ rw e (pair_at xs (length xs / 2) i b)

-- a first pair of digits is the first of the pairs
pair_first : (ys : List ℕ) (byte : ℕ) → byte ∷ [] ≡ pairs (take 2 ys) → pairs ys ≡ byte ∷ pairs (drop 2 ys)
pair_first [] byte e = absurd (let z : ◌≡◌ {A = ℕ} 0 1 = cc in omega arith)
pair_first (a ∷ []) byte e = absurd (let z : ◌≡◌ {A = ℕ} 0 1 = cc in omega arith)
pair_first (a ∷ b ∷ r) byte e = by (ltb 15 (nibble_of a)) (ltb 15 (nibble_of b)) e
  where
    x : ℕ
    x = nibble_of a * 16 + nibble_of b

    by : (s t : Bool) → byte ∷ [] ≡ if s [] (if t [] (x ∷ [])) → if s [] (if t [] (x ∷ pairs r)) ≡ byte ∷ pairs r
    by true t e = absurd (let z : ◌≡◌ {A = ℕ} 0 1 = cc in omega arith)
    by false true e = absurd (let z : ◌≡◌ {A = ℕ} 0 1 = cc in omega arith)
    by false false e = let f : byte ≡ x = cc in rw f refl

-- where the first is none there are no pairs
no_pair_first : (ys : List ℕ) → [] ≡ pairs (take 2 ys) → pairs ys ≡ []
no_pair_first [] e = refl
no_pair_first (a ∷ []) e = refl
no_pair_first (a ∷ b ∷ r) e = by (ltb 15 (nibble_of a)) (ltb 15 (nibble_of b)) e
  where
    x : ℕ
    x = nibble_of a * 16 + nibble_of b

    by : (s t : Bool) → [] ≡ if s [] (if t [] (x ∷ [])) → if s [] (if t [] (x ∷ pairs r)) ≡ []
    by true t e = refl
    by false true e = refl
    by false false e = absurd (let z : ◌≡◌ {A = ℕ} 0 1 = cc in omega arith)

-- one byte more
pub one_more_decoded : (xs : List ℕ) (place : ℕ) (frame₀ frame : List ℕ) (count next byte : ℕ) → Decoding xs place frame₀ frame count next
    → next + 1 < length xs → count < most_bytes → byte ∷ [] ≡ pairs (take 2 (drop next xs))
    → Decoding xs place frame₀ (set frame count byte) (count + 1) (next + 2)
one_more_decoded xs place frame₀ frame count next byte d h k e =
    let m : most_bytes - count ≡ suc (most_bytes - (count + 1)) = omega arith in
    let p : pairs (drop next xs) ≡ byte ∷ pairs (drop (next + 2) xs) = pair_first (drop next xs) byte e ∙ ap (λ (l : List ℕ). byte ∷ pairs l) (drop-drop 2 next xs) in
    let t : to_come xs count next ≡ byte ∷ to_come xs (count + 1) (next + 2) = rw (m, p) refl in
    record {
      reached = omega arith;
      inside = omega arith;
      few = omega arith;
      stored = d.stored ∙ rw (t, add-one) refl;
      counted = omega (arith, ap length t);
    }

-- nothing is to come where no pair of digits stands
pub no_pair_left : (xs : List ℕ) (count next : ℕ) → [] ≡ pairs (take 2 (drop next xs)) → to_come xs count next ≡ []
no_pair_left xs count next e = rw (no_pair_first (drop next xs) e) (take-nil (most_bytes - count))

-- nor where as many are decoded as there can be
pub none_left : (xs : List ℕ) (count next : ℕ) → next ≡ count + count → count ≡ min (length xs / 2) most_bytes → to_come xs count next ≡ []
none_left xs count next p e = by_length (ltb (next + 1) (length xs)) refl
  where
    by_length : (t : Bool) → ltb (next + 1) (length xs) ≡ t → to_come xs count next ≡ []
    by_length true d = let k : next + 1 < length xs = ltb-true (next + 1) (length xs) d in let z : most_bytes - count ≡ 0 = omega arith in rw z refl
    by_length false d = let k : length xs ≤ next + 1 = ltb-false (next + 1) (length xs) d in rw (pairs_short (drop next xs) (omega (arith, length-drop next xs))) (take-nil (most_bytes - count))

-- all is stored where nothing is to come
pub all_decoded : (xs : List ℕ) (place : ℕ) (frame₀ frame : List ℕ) (count next : ℕ) → Decoding xs place frame₀ frame count next → to_come xs count next ≡ []
    → (count ≡ length (leading (drop place xs))) × ((frame ≡ sets frame₀ 0 (leading (drop place xs))) × ((place + count + count ≤ length xs) × (count ≤ most_bytes)))
all_decoded xs place frame₀ frame count next d e =
    (omega (arith, ap length e), (sym (d.stored ∙ rw e refl), (omega arith, omega arith)))
