-- The tags of a block: an opening of any number has a form of two bytes, one below 15 a form of one byte besides, and no other; so has a closing.
-- Assumes nothing.
use mathlib.Core.Path.{◌≡◌, sym, ap, subst}
use mathlib.Core.Logic.{◌⊎◌, inl, inr, ◌↔◌}
use Prim.Native.Nat.{ℕ, ◌+◌, ◌*◌, ◌<◌}
use native.Mathlib.Omega.{arith}
use mathlib.Core.List.{List, [], ◌∷◌}
use Rattle.types.specs.Tag.{opening, closing, tag}
use Rattle.numbers.specs.Integer.{Bytes}
use Rattle.tags.specs.Header.{class_bit, number_field, low_bits, TellsNumber, in_field, in_second, IsTag, of_opening, of_closing}
use Rattle.tags.proofs.Back.{Telling, field_telling, second_telling}

-- the bytes of a number in context class with these low bits, in the field or behind it
abbrev pub Forms : (low n : ℕ) → List ℕ → Type 0
Forms low n bytes = ((n < 15) × (bytes ≡ (n * 16 + 8 + low) ∷ [])) ⊎ (bytes ≡ (248 + low) ∷ n ∷ [])

pub told_forms : (first : ℕ) {n : ℕ} {number : List ℕ} (low : ℕ) → class_bit first ≡ 1 → TellsNumber (number_field first) n number → low_bits first ≡ low → first < 256 → Forms low n (first ∷ number)
told_forms first low c (in_field m) h b = let e : first ≡ number_field first * 16 + 8 + low = omega arith in inl (m, ap (λ (x : ℕ). x ∷ []) e)
told_forms first low c (in_second {n = n} m) h b = let e : first ≡ 248 + low = omega arith in inr (ap (λ (x : ℕ). x ∷ n ∷ []) e)

forms_told : (low n : ℕ) (bytes : List ℕ) → low < 8 → Forms low n bytes → Telling n low bytes
forms_told low n bytes h (inl (k, e)) = subst (Telling n low) (sym e) (field_telling n low h k)
forms_told low n bytes h (inr e) = subst (Telling n low) (sym e) (second_telling n low h)

opening_told : {n : ℕ} {bytes : List ℕ} → IsTag (tag (opening n) 0) bytes → Bytes bytes → Forms 6 n bytes
opening_told (of_opening {first} c m h) b = told_forms first 6 c m h (b 0)

closing_told : {n : ℕ} {bytes : List ℕ} → IsTag (tag (closing n) 0) bytes → Bytes bytes → Forms 7 n bytes
closing_told (of_closing {first} c m h) b = told_forms first 7 c m h (b 0)

module _ (n : ℕ) (bytes : List ℕ) (below : Bytes bytes) where
  -- `3E` and `FE 03` open block 3, and `FE 0F` alone opens block 15
  pub opening_forms : IsTag (tag (opening n) 0) bytes ↔ Forms 6 n bytes
  opening_forms = (
    (λ i. opening_told i below),
    (λ f. let w = forms_told 6 n bytes (omega arith) f in subst (IsTag (tag (opening n) 0)) (sym w.are) (of_opening w.class w.tells w.low_is)),
  )

  -- `3F` and `FF 03` close block 3, and `FF 0F` alone closes block 15
  pub closing_forms : IsTag (tag (closing n) 0) bytes ↔ Forms 7 n bytes
  closing_forms = (
    (λ i. closing_told i below),
    (λ f. let w = forms_told 7 n bytes (omega arith) f in subst (IsTag (tag (closing n) 0)) (sym w.are) (of_closing w.class w.tells w.low_is)),
  )
