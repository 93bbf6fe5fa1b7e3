-- A header's line, from what headers tells of it: the first letters of an array are its word, and the first numbers of another its fields.
-- Assumes nothing.
use mathlib.Core.Path.{◌≡◌, ◌∙◌, ap, ap₂}
use mathlib.Core.List.{List, [], ◌∷◌, ◌++◌}
use Prim.Native.Nat.{ℕ, ◌≤◌}
use native.Mathlib.Omega.{arith}
use lib.ListN.{length, take}
use Rattle.headers.specs.Header.{Kind, Header, row_of, field_numbers}
use Rattle.types.specs.Padded.{padded}
use Rattle.types.proofs.Padded.{padded_front}
use Rattle.text.specs.Text.{decimals, line}
use Rattle.dump.specs.Frame.{header_line}

-- so a line of these is the header's
pub header_line_lem : (number : ℕ) (h : Header) (k : Kind) (word fields : List ℕ) (count : ℕ) → k ≡ h.kind → word ≡ (row_of k).word
    → fields ≡ padded 4 (field_numbers h.fields) → count ≡ length (field_numbers h.fields) → count ≤ 4
    → line (decimals (number ∷ []) ++ (word ∷ decimals (take count fields))) ≡ header_line number h
unfolding header_line
header_line_lem number h k word fields count e w f n few =
    let a : word ≡ (row_of h.kind).word = w ∙ ap (λ (j : Kind). (row_of j).word) e in
    let b : take count fields ≡ field_numbers h.fields = ap₂ take n f ∙ padded_front 4 (field_numbers h.fields) (omega arith) in
    ap₂ (λ (u v : List ℕ). line (decimals (number ∷ []) ++ (u ∷ decimals v))) a b
