-- Bytes begin with one tag at most, however many they are.
-- Assumes nothing.
use mathlib.Core.Path.{◌≡◌, refl, ◌∙◌, ap, sym}
use Prim.Native.Nat.{ℕ, ◌+◌, ◌-◌, ◌≤◌}
use native.Mathlib.Omega.{arith}
use mathlib.Core.List.{List, [], ◌∷◌, ◌++◌}
use lib.ListN.{length, take, drop, length-take}
use lib.Seq.{take-append_seam, drop-append_seam, take-append-add}
use Rattle.types.specs.Tag.{Tag}
use Rattle.types.specs.Answer.{accepted}
use Rattle.tags.specs.Header.{IsTag}
use Rattle.tags.specs.Reading.{tag_from}
use Rattle.tags.proofs.Exactly.{tag_read, tag_length}

-- a list of length 0
pub no_bytes : (xs : List ℕ) → length xs ≡ 0 → xs ≡ []
no_bytes [] e = refl
no_bytes (x ∷ xs) e = absurd (omega arith)

-- two lists with fronts of one length
pub same_front : (a b a' b' : List ℕ) → length a ≡ length a' → a ++ b ≡ a' ++ b' → (a ≡ a') × (b ≡ b')
same_front a b a' b' l e = (
  sym (take-append_seam a b) ∙ ap (take (length a)) e ∙ ap (λ (j : ℕ). take j (a' ++ b')) l ∙ take-append_seam a' b',
  sym (drop-append_seam a b) ∙ ap (drop (length a)) e ∙ ap (λ (j : ℕ). drop j (a' ++ b')) l ∙ drop-append_seam a' b',
)

-- bytes begin with one tag at most
pub record OneTag (t t' : Tag) (h h' r r' : List ℕ) : Type 0 where
  pub same_tag : t ≡ t'
  pub same_bytes : h ≡ h'
  pub same_rest : r ≡ r'

-- a tag has seven bytes at most, so it is read from the first seven
read_first : {t : Tag} {h : List ℕ} → IsTag t h → (r : List ℕ) → tag_from (take 7 (h ++ r)) 0 ≡ accepted t (0 + length h)
read_first {t} {h} is r =
    let l = tag_length is in
    let e : take 7 (h ++ r) ≡ h ++ take (7 - length h) r = ap (λ (j : ℕ). take j (h ++ r)) (let z : 7 ≡ length h + (7 - length h) = omega arith in z) ∙ take-append-add h r (7 - length h) in
    let small : length (take 7 (h ++ r)) ≤ 65535 = simp length-take (omega arith) in
    tag_read (take 7 (h ++ r)) small 0 t h (take (7 - length h) r) e is

pub one_tag : {t t' : Tag} {h h' : List ℕ} → IsTag t h → IsTag t' h' → (r r' : List ℕ) → h ++ r ≡ h' ++ r' → OneTag t t' h h' r r'
one_tag {t} {t'} {h} {h'} is is' r r' e =
    let a : accepted t (0 + length h) ≡ accepted t' (0 + length h') = sym (read_first is r) ∙ ap (λ (xs : List ℕ). tag_from (take 7 xs) 0) e ∙ read_first is' r' in
    let i : t ≡ t' = cc in
    let k : 0 + length h ≡ 0 + length h' = cc in
    let s = same_front h r h' r' (omega arith) e in
    record { same_tag = i; same_bytes = s.0; same_rest = s.1 }
