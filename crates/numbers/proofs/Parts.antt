-- A part is handed over where it lies inside the buffer, its bytes are those that stand there, and with a refusal there are none.
-- Assumes nothing.
use mathlib.Core.Path.{◌≡◌, refl, sym, ap, subst, ◌∙◌}
use Prim.Native.Nat.{ℕ, ◌+◌, ◌<◌, ◌≤◌, ◌^◌}
use native.Mathlib.Omega.{arith}
use mathlib.Core.List.{List, [], ◌++◌}
use lib.ListN.{length, take, drop, length-drop}
use lib.Seq.{length-take-le}
use borrow.Author.Tests.{le-ltb}
use Rattle.types.specs.Refusal.{Carried}
use Rattle.types.specs.Answer.{Answer, accepted, refused, then}
use Rattle.numbers.specs.Integer.{unsigned_value, signed_value, twos_complement, Bytes}
use Rattle.numbers.specs.Reading.{Part, part_at, bytes_in, bytes_or, slice_from, part_of, fixed_from, content_from, unsigned_from, signed_from}
use Rattle.numbers.proofs.Value.{value_lt, bytes_before, bytes_dropped}
use Rattle.numbers.proofs.Inside.{content_inside}
use Rattle.numbers.proofs.Found.{slice_found, fixed_found, unsigned_found}

-- n bytes that lie inside a buffer which is not too long are handed over
pub part_given : (n : ℕ) (xs : List ℕ) (place : ℕ) → length xs ≤ 65535 → place + n ≤ length xs → (slice_from n xs place ≡ accepted (part_at place n) (place + n)) × (part_of n xs place ≡ take n (drop place xs))
unfolding slice_from part_of
part_given n xs place small inside =
    let a = le-ltb 65535 (length xs) small in
    let b = le-ltb (length xs) place (omega arith) in
    let c = le-ltb (length xs) (place + n) inside in
    (simp (a, b, c), simp (a, b, c))

-- the bytes of a part that is answered are as many as asked for, and stand at the place, before what stands at the next
pub part_found : (n : ℕ) (xs : List ℕ) (place : ℕ) (p : Part) (next : ℕ) → slice_from n xs place ≡ accepted p next → (length (part_of n xs place) ≡ n) × (drop place xs ≡ part_of n xs place ++ drop next xs)
unfolding part_of
part_found n xs place p next e =
    let f = slice_found n xs place p next e in
    let same : part_of n xs place ≡ f.bytes = ap (bytes_or xs) e ∙ (ap (bytes_in xs) f.part_is ∙ f.bytes_are) in
    (ap length same ∙ f.sized, f.here ∙ ap (λ (b : List ℕ). b ++ drop next xs) (sym same))

-- with a refusal no bytes are handed over
pub part_refused : (n : ℕ) (xs : List ℕ) (place k : ℕ) (c : Carried) → slice_from n xs place ≡ refused k c → part_of n xs place ≡ []
unfolding part_of
part_refused n xs place k c e = ap (bytes_or xs) e

-- the number that a part's bytes stand for is answered where the part is
pub fixed_read : (n : ℕ) (xs : List ℕ) (place : ℕ) (p : Part) (next : ℕ) → accepted p next ≡ slice_from n xs place → accepted (unsigned_value (part_of n xs place)) next ≡ fixed_from n xs place
unfolding fixed_from part_of
fixed_read n xs place p next answered = rw (← answered)

-- and it is one that n bytes hold
pub fixed_room : (n : ℕ) (xs : List ℕ) (place v next : ℕ) → Bytes xs → accepted v next ≡ fixed_from n xs place → v < 256 ^ n
fixed_room n xs place v next b answered =
    let f = fixed_found n xs place v next (sym answered) in
    let stood : Bytes f.bytes = bytes_before f.bytes (drop next xs) (subst Bytes f.here (bytes_dropped xs place b)) in
    subst (λ (w : ℕ). w < 256 ^ n) (sym f.stands) (subst (λ (m : ℕ). unsigned_value f.bytes < 256 ^ m) f.sized (value_lt f.bytes stood))

-- an integer's content that is handed over has as many bytes as asked for, 1 to 8
pub content_given : (n : ℕ) (xs : List ℕ) (place : ℕ) (p : Part) (next : ℕ) → accepted p next ≡ content_from n xs place → (0 < n) × (n < 9) × (length (bytes_or xs (content_from n xs place)) ≡ n)
content_given n xs place p next answered =
    let h = content_inside n xs place p next answered in
    let sized : length (bytes_in xs p) ≡ p.size = length-take-le p.size (drop p.start xs) (omega (arith, length-drop p.start xs)) in
    (omega arith, omega arith, ap (λ (a : Answer Part). length (bytes_or xs a)) (sym answered) ∙ sized ∙ h.0.1)

-- they stand for an unsigned integer that so many bytes hold
pub unsigned_room : (n : ℕ) (xs : List ℕ) (place v next : ℕ) → Bytes xs → accepted v next ≡ unsigned_from n xs place → (0 < n) × (n < 9) × (v < 256 ^ n)
unsigned_room n xs place v next b answered =
    let f = unsigned_found n xs place v next (sym answered) in
    let stood : Bytes f.bytes = bytes_before f.bytes (drop next xs) (subst Bytes f.here (bytes_dropped xs place b)) in
    (omega (arith, f.some), omega (arith, f.most), subst (λ (w : ℕ). w < 256 ^ n) (sym f.stands) (subst (λ (m : ℕ). unsigned_value f.bytes < 256 ^ m) f.sized (value_lt f.bytes stood)))

-- and the signed one is that in two's complement
pub signed_by_unsigned : (n : ℕ) (xs : List ℕ) (place : ℕ) → signed_from n xs place ≡ then (unsigned_from n xs place) (λ v next. accepted (twos_complement n v) next)
unfolding signed_from unsigned_from
signed_by_unsigned n xs place = go (content_from n xs place) refl
  where
    go : (a : Answer Part) → content_from n xs place ≡ a
        → then a (λ p next. accepted (signed_value (bytes_in xs p)) next) ≡ then (then a (λ p next. accepted (unsigned_value (bytes_in xs p)) next)) (λ v next. accepted (twos_complement n v) next)
    go (accepted p next) e = ap (λ (m : ℕ). accepted (twos_complement m (unsigned_value (bytes_in xs p))) next) (ap (λ (a : Answer Part). length (bytes_or xs a)) (sym e) ∙ (content_given n xs place p next (sym e)).2)
    go (refused k c) e = refl
