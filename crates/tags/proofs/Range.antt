-- Which tags bytes can carry, and that a tag is read or the bytes run out.
-- Assumes nothing.
use mathlib.Core.Path.{◌≡◌, refl, sym, subst}
use Prim.Native.Nat.{ℕ, suc, ◌+◌, ◌^◌, ◌<◌, ◌≤◌}
use native.Mathlib.Omega.{arith}
use mathlib.Core.Bool.{Bool, true, false}
use mathlib.Core.List.{List, [], ◌∷◌, ◌++◌, append-nil}
use lib.Dec.{ltb, leb, eqb}
use lib.ListN.{length, drop}
use borrow.Author.Tests.{le-ltb, ltb-true, leb-true}
use Rattle.types.specs.Choice.{if}
use Rattle.types.specs.Tag.{Number, application, context, opening, closing, Tag}
use Rattle.types.specs.Refusal.{Carried, amount}
use Rattle.types.specs.Answer.{Answer, accepted, refused, then}
use Rattle.types.proofs.Choices.{either, read_on}
use Rattle.numbers.specs.Integer.{unsigned_value, Bytes}
use Rattle.numbers.specs.Reading.{byte_from, part_at, bytes_in, slice_from, fixed_from}
use Rattle.numbers.proofs.Value.{value_lt}
use Rattle.numbers.proofs.Found.{byte_found}
use Rattle.tags.specs.Reading.{number_told, number_from, tag_value_from, tag_after, tag_from}
use Rattle.tags.specs.Header.{class_bit, number_field, low_bits, TellsValue, inline, one, two, four, none, TellsNumber, in_field, in_second, IsTag, of_application, of_context, of_opening, of_closing}
use Rattle.tags.proofs.Exactly.{number_ends, tag_read}

-- a tag that bytes can carry: an application number of four bits, a context or block number of a byte, a value of 32 bits, and none for a block
abbrev pub InRange : Number → ℕ → Type 0
InRange (application n) v = (n < 16) × (v < 2 ^ 32)
InRange (context n) v = (n < 256) × (v < 2 ^ 32)
InRange (opening n) v = (n < 256) × (v ≡ 0)
InRange (closing n) v = (n < 256) × (v ≡ 0)

told_range : {low v : ℕ} {bytes : List ℕ} → TellsValue low v bytes → Bytes bytes → v < 2 ^ 32
told_range (inline h) b = omega arith
told_range (one h k) b = omega (arith, b 0)
told_range (two bytes h) b = omega (arith, rw h at (value_lt bytes (λ i. b (suc i))))
told_range (four bytes h) b = rw h at (value_lt bytes (λ i. b (suc i)))
told_range (none h) b = omega arith

-- behind a first byte a number is a byte, and so are those behind it
pub number_range : {first field n : ℕ} {number : List ℕ} → TellsNumber field n number → (rest : List ℕ) → Bytes (first ∷ (number ++ rest)) → (n < 256) × Bytes rest
number_range (in_field m) rest b = (omega arith, λ i. b (suc i))
number_range (in_second m) rest b = (b 1, λ i. b (suc (suc i)))

-- bytes below 256 carry no other
pub in_range : {t : Tag} {bytes : List ℕ} → IsTag t bytes → Bytes bytes → InRange t.number t.value
in_range (of_application c w) b = (omega (arith, b 0), told_range w (λ i. b (suc i)))
in_range (of_context {bytes = bytes} c m h w) b = let r = number_range m bytes b in (r.0, told_range w r.1)
in_range (of_opening {first} {number = number} c m h) b = ((number_range m [] (subst (λ (bs : List ℕ). Bytes (first ∷ bs)) (sym (append-nil number)) b)).0, refl)
in_range (of_closing {first} {number = number} c m h) b = ((number_range m [] (subst (λ (bs : List ℕ). Bytes (first ∷ bs)) (sym (append-nil number)) b)).0, refl)

-- a refusal of a read is 3, and carries the buffer's end or a place past it, at most so far
pub record RunsOut (xs : List ℕ) (most n : ℕ) (c : Carried) : Type 0 where
  pub number : n ≡ 3
  pub end : ℕ
  pub carries : c ≡ amount end
  pub past : length xs ≤ end
  pub within : end ≤ most

abbrev pub OrRunsOut : {A : Type 0} → List ℕ → ℕ → Answer A → Type 0
OrRunsOut xs most (accepted a next) = Unit {0}
OrRunsOut xs most (refused n c) = RunsOut xs most n c

further : (xs : List ℕ) {most more : ℕ} {n : ℕ} {c : Carried} → most ≤ more → RunsOut xs most n c → RunsOut xs more n c
further xs l r = record { number = r.number; end = r.end; carries = r.carries; past = r.past; within = omega (arith, r.within) }

module _ (xs : List ℕ) (small : length xs ≤ 65535) where
  byte_or : (place : ℕ) → place ≤ length xs → OrRunsOut xs place (byte_from xs place)
  unfolding byte_from
  byte_or place l =
      simp (le-ltb 65535 (length xs) small, le-ltb (length xs) place l)
      (either (OrRunsOut xs place) (leb (length xs) place)
      (λ e. record { number = refl; end = length xs; carries = refl; past = omega arith; within = leb-true (length xs) place e })
      (λ e. tt))

  fixed_or : (n place : ℕ) → place ≤ length xs → OrRunsOut xs (place + n) (fixed_from n xs place)
  unfolding fixed_from slice_from
  fixed_or n place l = simp (le-ltb 65535 (length xs) small, le-ltb (length xs) place l) (go (ltb (length xs) (place + n)) refl)
    where
      go : (b : Bool) → ltb (length xs) (place + n) ≡ b
          → OrRunsOut xs (place + n) (then (if b (refused 3 (amount (place + n))) (accepted (part_at place n) (place + n))) (λ p next. accepted (unsigned_value (bytes_in xs p)) next))
      go true e = record { number = refl; end = place + n; carries = refl; past = omega (arith, ltb-true (length xs) (place + n) e); within = omega arith }
      go false e = tt

  or_further : {A : Type 0} {most more : ℕ} → most ≤ more → (a : Answer A) → OrRunsOut xs most a → OrRunsOut xs more a
  or_further l (accepted a next) h = tt
  or_further l (refused n c) h = further xs l h

  value_or : (low place : ℕ) → place ≤ length xs → OrRunsOut xs (place + 5) (tag_value_from low xs place)
  unfolding tag_value_from
  value_or low place l =
      either (OrRunsOut xs (place + 5)) (ltb low 5) (λ e. tt) (λ e.
      either (OrRunsOut xs (place + 5)) (eqb low 5)
      (λ f. read_on (OrRunsOut xs (place + 5)) (byte_from xs place)
      (λ b next g.
      let h = byte_found xs place b next g in
      let m : next ≤ length xs = omega (arith, h.ends, h.inside) in
      let k : next ≡ place + 1 = h.ends in
      either (OrRunsOut xs (place + 5)) (eqb b 254) (λ i. or_further (omega arith) (fixed_from 2 xs next) (fixed_or 2 next m)) (λ i.
      either (OrRunsOut xs (place + 5)) (eqb b 255) (λ j. or_further (omega arith) (fixed_from 4 xs next) (fixed_or 4 next m)) (λ j. tt)))
      (λ n c g. further xs (omega arith) (subst (OrRunsOut xs place) g (byte_or place l))))
      (λ f. tt))

  number_or : (first place : ℕ) → place ≤ length xs → OrRunsOut xs place (number_from first xs place)
  unfolding number_from
  number_or first place l =
      read_on (OrRunsOut xs place) (number_told first xs place) (λ n next f. tt)
      (λ k c f. subst (OrRunsOut xs place) f
      (either (OrRunsOut xs place) (eqb (class_bit first) 0) (λ g. tt) (λ g.
      either (OrRunsOut xs place) (ltb (number_field first) 15) (λ h. tt) (λ h. byte_or place l))))

  after_or : (first place : ℕ) → place ≤ length xs → OrRunsOut xs (place + 6) (tag_after first xs place)
  unfolding tag_after
  after_or first place l =
      read_on (OrRunsOut xs (place + 6)) (number_from first xs place)
      (λ n after e.
      let m = number_ends first xs place n after e l in
      read_on (OrRunsOut xs (place + 6)) (tag_value_from (low_bits first) xs after) (λ v next f. tt)
      (λ k c f. further xs (omega arith) (subst (OrRunsOut xs (after + 5)) f (value_or (low_bits first) after m.1))))
      (λ k c e. further xs (omega arith) (subst (OrRunsOut xs place) e (number_or first place l)))

  -- at every place of a buffer a tag is read, or its bytes run out: 3, carrying the end or a place past it, at most seven bytes on
  pub tag_or_run_out : (place : ℕ) → place ≤ length xs → OrRunsOut xs (place + 7) (tag_from xs place)
  unfolding tag_from
  tag_or_run_out place l =
      read_on (OrRunsOut xs (place + 7)) (byte_from xs place)
      (λ first next e.
      let h = byte_found xs place first next e in
      or_further (omega (arith, h.ends)) (tag_after first xs next) (after_or first next (omega (arith, h.ends, h.inside))))
      (λ n c e. further xs (omega arith) (subst (OrRunsOut xs place) e (byte_or place l)))

  -- and where they run out, no tag stands there
  pub no_tag_where_refused : (place n : ℕ) (c : Carried) → tag_from xs place ≡ refused n c → (t : Tag) (bytes rest : List ℕ) → drop place xs ≡ bytes ++ rest → IsTag t bytes → ⊥
  no_tag_where_refused place n c e t bytes rest here is =
      let r = tag_read xs small place t bytes rest here is in
      let z : ◌≡◌ {A = ℕ} 0 1 = cc in
      omega arith
