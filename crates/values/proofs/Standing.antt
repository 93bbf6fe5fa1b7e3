-- What was read stands there: bytes from a place on, which are it by whatever a case asks of its bytes.
-- Assumes nothing.
use mathlib.Core.Path.{◌≡◌, refl, ◌∙◌, ap, sym}
use Prim.Native.Nat.{ℕ, ◌+◌, ◌<◌, ◌≤◌}
use native.Mathlib.Nat.{add-zero}
use native.Mathlib.Numerals.{add-one}
use native.Mathlib.Omega.{arith}
use mathlib.Core.List.{List, ◌∷◌, ◌++◌}
use lib.ListN.{length, get_or, drop}
use lib.Seq.{get_or-drop, drop-cons}
use Rattle.types.specs.Answer.{Answer, accepted, refused}

pub record Stood {A : Type 0} (Is : ℕ → List ℕ → A → Type 0) (xs : List ℕ) (place : ℕ) (a : A) (next : ℕ) : Type 0 where
  pub bytes : List ℕ
  pub is : Is place bytes a
  pub here : drop place xs ≡ bytes ++ drop next xs
  pub ends : next ≡ place + length bytes

-- of an answer: where something was read, it stood there
abbrev pub StoodOr : {A : Type 0} → (ℕ → List ℕ → A → Type 0) → List ℕ → ℕ → Answer A → Type 0
StoodOr Is xs place (accepted a next) = Stood Is xs place a next
StoodOr Is xs place (refused n c) = Unit {0}

pub stood_or : {A : Type 0} (Is : ℕ → List ℕ → A → Type 0) (xs : List ℕ) (place : ℕ) (r : Answer A) → ((a : A) (next : ℕ) → r ≡ accepted a next → Stood Is xs place a next) → StoodOr Is xs place r
stood_or Is xs place (accepted a next) f = f a next refl
stood_or Is xs place (refused n c) f = tt

module _ (xs : List ℕ) (place : ℕ) where
  one_more : (p : ℕ) → p < length xs → drop p xs ≡ get_or xs p 0 ∷ drop (p + 1) xs
  one_more p h = rw (add-one p, drop-cons xs p 0 h)

  -- four bytes that lie inside the buffer
  pub four_bytes : place + 4 ≤ length xs → drop place xs ≡ get_or xs place 0 ∷ get_or xs (place + 1) 0 ∷ get_or xs (place + 2) 0 ∷ get_or xs (place + 3) 0 ∷ drop (place + 4) xs
  four_bytes h =
      let e₂ : place + 1 + 1 ≡ place + 2 = omega arith in
      let e₃ : place + 2 + 1 ≡ place + 3 = omega arith in
      let e₄ : place + 3 + 1 ≡ place + 4 = omega arith in
      let f₂ : drop (place + 1) xs ≡ get_or xs (place + 1) 0 ∷ drop (place + 2) xs = one_more (place + 1) (omega arith) ∙ ap (λ (k : ℕ). get_or xs (place + 1) 0 ∷ drop k xs) e₂ in
      let f₃ : drop (place + 2) xs ≡ get_or xs (place + 2) 0 ∷ drop (place + 3) xs = one_more (place + 2) (omega arith) ∙ ap (λ (k : ℕ). get_or xs (place + 2) 0 ∷ drop k xs) e₃ in
      let f₄ : drop (place + 3) xs ≡ get_or xs (place + 3) 0 ∷ drop (place + 4) xs = one_more (place + 3) (omega arith) ∙ ap (λ (k : ℕ). get_or xs (place + 3) 0 ∷ drop k xs) e₄ in
      one_more place (omega arith) ∙ ap (λ (l : List ℕ). get_or xs place 0 ∷ l) (f₂ ∙ ap (λ (l : List ℕ). get_or xs (place + 1) 0 ∷ l) (f₃ ∙ ap (λ (l : List ℕ). get_or xs (place + 2) 0 ∷ l) f₄))

  -- a byte of those that stand at a place, the first and any other
  pub first_byte : (bytes rest : List ℕ) → drop place xs ≡ bytes ++ rest → get_or xs place 0 ≡ get_or (bytes ++ rest) 0 0
  first_byte bytes rest e = ap (λ (k : ℕ). get_or xs k 0) (sym (add-zero place)) ∙ sym (get_or-drop place xs 0 0) ∙ ap (λ (l : List ℕ). get_or l 0 0) e

  pub later_byte : (bytes rest : List ℕ) (i : ℕ) → drop place xs ≡ bytes ++ rest → get_or xs (place + i) 0 ≡ get_or (bytes ++ rest) i 0
  later_byte bytes rest i e = sym (get_or-drop place xs i 0) ∙ ap (λ (l : List ℕ). get_or l i 0) e
