-- What was read stands there, and what stands there is read.
-- Assumes nothing.
use mathlib.Core.Path.{◌≡◌, refl, ◌∙◌, ap, sym, subst}
use Prim.Native.Nat.{ℕ, ◌+◌, ◌<◌, ◌≤◌}
use native.Mathlib.Nat.{add-zero}
use native.Mathlib.Numerals.{add-one}
use native.Mathlib.Omega.{arith}
use mathlib.Core.List.{List, ◌∷◌, ◌++◌}
use lib.Dec.{ltb, leb}
use lib.IntN.{ℤ}
use lib.ListN.{length, get_or, take, drop, length-drop, length-append, take-append-drop}
use lib.Seq.{get_or-drop, drop-cons, drop-drop, drop_at, take-append_seam, length-take-le}
use borrow.Author.Tests.{le-ltb, ltb-false, lt-leb, leb-false}
use mathlib.Core.Bool.{Bool, true, false}
use Rattle.types.specs.Choice.{if}
use Rattle.types.specs.Refusal.{amount}
use Rattle.types.specs.Answer.{Answer, accepted, refused, then}
use Rattle.types.proofs.Choices.{either, read_on}
use Rattle.numbers.specs.Integer.{unsigned_value, signed_value}
use Rattle.numbers.specs.Reading.{byte_from, Part, part_at, bytes_in, slice_from, fixed_from, content_from, unsigned_from, signed_from}

-- a byte read at a place
pub record ByteFound (xs : List ℕ) (place b next : ℕ) : Type 0 where
  pub small : length xs ≤ 65535
  pub inside : place < length xs
  pub ends : next ≡ place + 1
  pub here : drop place xs ≡ b ∷ drop next xs

abbrev ByteOr : List ℕ → ℕ → Answer ℕ → Type 0
ByteOr xs place (accepted b next) = ByteFound xs place b next
ByteOr xs place (refused n c) = Unit {0}

pub byte_found : (xs : List ℕ) (place b next : ℕ) → byte_from xs place ≡ accepted b next → ByteFound xs place b next
unfolding byte_from
byte_found xs place b next e =
    subst (ByteOr xs place) e
    (either (ByteOr xs place) (ltb 65535 (length xs)) (λ f. tt) (λ f.
    either (ByteOr xs place) (ltb (length xs) place) (λ g. tt) (λ g.
    either (ByteOr xs place) (leb (length xs) place) (λ h. tt) (λ h.
    let l : place < length xs = leb-false (length xs) place h in
    record { small = ltb-false 65535 (length xs) f; inside = l; ends = refl; here = rw (add-one place, drop-cons xs place 0 l) }))))

-- a byte that stands at a place is read there
pub byte_at : (xs : List ℕ) (place b : ℕ) (rest : List ℕ) → length xs ≤ 65535 → drop place xs ≡ b ∷ rest → byte_from xs place ≡ accepted b (place + 1)
unfolding byte_from
byte_at xs place b rest small e =
    let h : place < length xs = omega (arith, length-drop place xs, ap length e) in
    let g : get_or xs place 0 ≡ b = ap (λ (i : ℕ). get_or xs i 0) (sym (add-zero place)) ∙ sym (get_or-drop place xs 0 0) ∙ ap (λ (l : List ℕ). get_or l 0 0) e in
    simp (le-ltb 65535 (length xs) small, le-ltb (length xs) place (omega arith), lt-leb (length xs) place h, g)

-- a number of n bytes read at a place
pub record FixedFound (n : ℕ) (xs : List ℕ) (place v next : ℕ) : Type 0 where
  pub bytes : List ℕ
  pub sized : length bytes ≡ n
  pub stands : v ≡ unsigned_value bytes
  pub ends : next ≡ place + n
  pub inside : next ≤ length xs
  pub here : drop place xs ≡ bytes ++ drop next xs

abbrev FixedOr : ℕ → List ℕ → ℕ → Answer ℕ → Type 0
FixedOr n xs place (accepted v next) = FixedFound n xs place v next
FixedOr n xs place (refused k c) = Unit {0}

pub fixed_found : (n : ℕ) (xs : List ℕ) (place v next : ℕ) → fixed_from n xs place ≡ accepted v next → FixedFound n xs place v next
unfolding fixed_from slice_from
fixed_found n xs place v next e = subst (FixedOr n xs place) e (go (ltb 65535 (length xs)) (ltb (length xs) place) (ltb (length xs) (place + n)) refl)
  where
    go : (a b c : Bool) → ltb (length xs) (place + n) ≡ c
        → FixedOr n xs place (then (if a (refused 1 (amount (length xs))) (if b (refused 2 (amount place)) (if c (refused 3 (amount (place + n))) (accepted (part_at place n) (place + n))))) (λ p next. accepted (unsigned_value (bytes_in xs p)) next))
    go true b c f = tt
    go false true c f = tt
    go false false true f = tt
    go false false false f =
        let l : place + n ≤ length xs = ltb-false (length xs) (place + n) f in
        record {
          bytes = take n (drop place xs);
          sized = length-take-le n (drop place xs) (omega (arith, length-drop place xs));
          stands = refl;
          ends = refl;
          inside = l;
          here = sym (take-append-drop n (drop place xs)) ∙ ap (λ (t : List ℕ). take n (drop place xs) ++ t) (drop-drop n place xs);
        }

-- bytes that stand at a place are read there
pub fixed_at : (xs : List ℕ) (place : ℕ) (bytes rest : List ℕ) → length xs ≤ 65535 → place ≤ length xs → drop place xs ≡ bytes ++ rest → fixed_from (length bytes) xs place ≡ accepted (unsigned_value bytes) (place + length bytes)
unfolding fixed_from slice_from
fixed_at xs place bytes rest small inside e =
    let h : length xs ≡ place + (length bytes + length rest) = omega (arith, length-drop place xs, ap length e, length-append bytes rest) in
    simp (le-ltb 65535 (length xs) small, le-ltb (length xs) place inside, le-ltb (length xs) (place + length bytes) (omega arith), e, take-append_seam bytes rest)

-- what stands behind them
pub behind : (xs : List ℕ) (place : ℕ) (bytes rest : List ℕ) → drop place xs ≡ bytes ++ rest → drop (place + length bytes) xs ≡ rest
behind xs place bytes rest e = sym (drop-drop (length bytes) place xs) ∙ ap (drop (length bytes)) e ∙ drop_at bytes rest (length bytes) refl

-- a part of n bytes read at a place
pub record SliceFound (n : ℕ) (xs : List ℕ) (place : ℕ) (part : Part) (next : ℕ) : Type 0 where
  pub part_is : part ≡ part_at place n
  pub bytes : List ℕ
  pub bytes_are : take n (drop place xs) ≡ bytes
  pub sized : length bytes ≡ n
  pub ends : next ≡ place + n
  pub inside : next ≤ length xs
  pub here : drop place xs ≡ bytes ++ drop next xs

abbrev SliceOr : ℕ → List ℕ → ℕ → Answer Part → Type 0
SliceOr n xs place (accepted part next) = SliceFound n xs place part next
SliceOr n xs place (refused k c) = Unit {0}

slice_or : (n : ℕ) (xs : List ℕ) (place : ℕ) → SliceOr n xs place (slice_from n xs place)
unfolding slice_from
slice_or n xs place =
    either (SliceOr n xs place) (ltb 65535 (length xs)) (λ e. tt) (λ e.
    either (SliceOr n xs place) (ltb (length xs) place) (λ f. tt) (λ f.
    either (SliceOr n xs place) (ltb (length xs) (place + n)) (λ g. tt) (λ g.
    let l : place + n ≤ length xs = ltb-false (length xs) (place + n) g in
    record {
      part_is = refl;
      bytes = take n (drop place xs);
      bytes_are = refl;
      sized = length-take-le n (drop place xs) (omega (arith, length-drop place xs));
      ends = refl;
      inside = l;
      here = sym (take-append-drop n (drop place xs)) ∙ ap (λ (t : List ℕ). take n (drop place xs) ++ t) (drop-drop n place xs);
    })))

pub slice_found : (n : ℕ) (xs : List ℕ) (place : ℕ) (part : Part) (next : ℕ) → slice_from n xs place ≡ accepted part next → SliceFound n xs place part next
slice_found n xs place part next e = subst (SliceOr n xs place) e (slice_or n xs place)

-- a part that stands at a place is answered there
pub slice_at : (xs : List ℕ) (place : ℕ) (bytes rest : List ℕ) → length xs ≤ 65535 → place ≤ length xs → drop place xs ≡ bytes ++ rest → slice_from (length bytes) xs place ≡ accepted (part_at place (length bytes)) (place + length bytes)
unfolding slice_from
slice_at xs place bytes rest small inside e =
    let h : length xs ≡ place + (length bytes + length rest) = omega (arith, length-drop place xs, ap length e, length-append bytes rest) in
    simp (le-ltb 65535 (length xs) small, le-ltb (length xs) place inside, le-ltb (length xs) (place + length bytes) (omega arith))

-- an integer's content read at a place: 1 to 8 bytes that stand there
pub record ContentFound (n : ℕ) (xs : List ℕ) (place : ℕ) (part : Part) (next : ℕ) : Type 0 where
  pub some : 1 ≤ n
  pub most : n ≤ 8
  pub found : SliceFound n xs place part next

abbrev ContentOr : ℕ → List ℕ → ℕ → Answer Part → Type 0
ContentOr n xs place (accepted part next) = ContentFound n xs place part next
ContentOr n xs place (refused k c) = Unit {0}

content_found : (n : ℕ) (xs : List ℕ) (place : ℕ) → ContentOr n xs place (content_from n xs place)
unfolding content_from
content_found n xs place =
    either (ContentOr n xs place) (ltb 65535 (length xs)) (λ e. tt) (λ e.
    either (ContentOr n xs place) (ltb (length xs) place) (λ f. tt) (λ f.
    either (ContentOr n xs place) (ltb n 1) (λ g. tt) (λ g.
    either (ContentOr n xs place) (ltb 8 n) (λ h. tt) (λ h. go (omega (arith, ltb-false n 1 g)) (omega (arith, ltb-false 8 n h)) (slice_from n xs place) refl))))
  where
    go : 1 ≤ n → n ≤ 8 → (a : Answer Part) → slice_from n xs place ≡ a → ContentOr n xs place a
    go p q (accepted part next) e = record { some = p; most = q; found = slice_found n xs place part next e }
    go p q (refused k c) e = tt

-- an integer read at a place
pub record IntegerFound {A : Type 0} (value_of : List ℕ → A) (n : ℕ) (xs : List ℕ) (place : ℕ) (x : A) (next : ℕ) : Type 0 where
  pub some : 1 ≤ n
  pub most : n ≤ 8
  pub bytes : List ℕ
  pub sized : length bytes ≡ n
  pub stands : x ≡ value_of bytes
  pub ends : next ≡ place + n
  pub inside : next ≤ length xs
  pub here : drop place xs ≡ bytes ++ drop next xs

module _ {A : Type 0} (value_of : List ℕ → A) (n : ℕ) (xs : List ℕ) (place : ℕ) where
  abbrev IntegerOr : Answer A → Type 0
  IntegerOr (accepted x next) = IntegerFound value_of n xs place x next
  IntegerOr (refused k c) = Unit {0}

  integer_or : IntegerOr (then (content_from n xs place) (λ p next. accepted (value_of (bytes_in xs p)) next))
  integer_or =
      read_on IntegerOr (content_from n xs place)
      (λ p next e.
      let c : ContentFound n xs place p next = subst (ContentOr n xs place) e (content_found n xs place) in
      let f = c.found in
      record {
        some = c.some;
        most = c.most;
        bytes = f.bytes;
        sized = f.sized;
        stands = ap (λ (q : Part). value_of (bytes_in xs q)) f.part_is ∙ ap value_of f.bytes_are;
        ends = f.ends;
        inside = f.inside;
        here = f.here;
      })
      (λ k c e. tt)

pub unsigned_found : (n : ℕ) (xs : List ℕ) (place x next : ℕ) → unsigned_from n xs place ≡ accepted x next → IntegerFound unsigned_value n xs place x next
unfolding unsigned_from
unsigned_found n xs place x next e = subst (IntegerOr unsigned_value n xs place) e (integer_or unsigned_value n xs place)

pub signed_found : (n : ℕ) (xs : List ℕ) (place : ℕ) (x : ℤ) (next : ℕ) → signed_from n xs place ≡ accepted x next → IntegerFound signed_value n xs place x next
unfolding signed_from
signed_found n xs place x next e = subst (IntegerOr signed_value n xs place) e (integer_or signed_value n xs place)

-- an integer's content that stands at a place is read there, as what its bytes stand for
module _ (xs : List ℕ) (place : ℕ) (content rest : List ℕ) (small : length xs ≤ 65535) (some : 1 ≤ length content) (most : length content ≤ 8) (here : drop place xs ≡ content ++ rest) where
  room : place + length content ≤ length xs
  room = omega (arith, length-drop place xs, ap length here, length-append content rest)

  content_at : content_from (length content) xs place ≡ accepted (part_at place (length content)) (place + length content)
  unfolding content_from slice_from
  content_at =
      let r = room in
      simp (le-ltb 65535 (length xs) small, le-ltb (length xs) place (omega arith), le-ltb (length content) 1 some, le-ltb 8 (length content) most, le-ltb (length xs) (place + length content) r)

  bytes_at : take (length content) (drop place xs) ≡ content
  bytes_at = ap (take (length content)) here ∙ take-append_seam content rest

  pub unsigned_at : unsigned_from (length content) xs place ≡ accepted (unsigned_value content) (place + length content)
  unfolding unsigned_from
  unsigned_at = simp (content_at, bytes_at)

  pub signed_at : signed_from (length content) xs place ≡ accepted (signed_value content) (place + length content)
  unfolding signed_from
  signed_at = simp (content_at, bytes_at)
