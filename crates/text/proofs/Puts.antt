-- Texts put one behind the other are one text.
-- Assumes nothing.
use mathlib.Core.Path.{◌≡◌, refl, ◌∙◌, sym, ap, subst}
use mathlib.Core.List.{List, [], ◌∷◌, ◌++◌, append_assoc}
use Prim.Native.Nat.{ℕ, suc, ◌+◌, ◌-◌, ◌≤◌}
use native.Mathlib.Numerals.{add-one}
use native.Mathlib.Nat.{add-zero, add-suc, suc-add, add_assoc}
use native.Mathlib.Omega.{arith}
use lib.ListN.{length, take, drop, set, length-append}
use lib.Seq.{sets, sets-eq, drop-drop}
use borrow.Rule.Slice.PartMut.{put_mid}
use Rattle.text.specs.Text.{Wrote}

-- two runs of stores, the second where the first ended, are one
pub sets_append : (a b xs : List ℕ) (place : ℕ) → sets (sets xs place a) (place + length a) b ≡ sets xs place (a ++ b)
sets_append [] b xs place = rw add-zero
sets_append (v ∷ a) b xs place = rw (add-suc, ← suc-add) (sets_append a b (set xs place v) (suc place))

-- one text, then another
pub then : {xs ys zs a b : List ℕ} {place p q : ℕ} → Wrote xs place a ys p → Wrote ys p b zs q → Wrote xs place (a ++ b) zs q
then {xs} {ys} {zs} {a} {b} {place} {p} {q} v w =
    record {
      buffer = w.buffer ∙ rw (v.buffer, v.after) (sets_append a b xs place);
      after = w.after ∙ rw (v.after, length-append) (add_assoc place (length a) (length b));
    }

-- nothing
pub nothing : (xs : List ℕ) (place : ℕ) → Wrote xs place [] xs place
nothing xs place = record { buffer = refl; after = sym (add-zero place) }

-- one byte
pub one : (xs : List ℕ) (place b : ℕ) {next : ℕ} → next ≡ place + 1 → Wrote xs place (b ∷ []) (set xs place b) next
one xs place b e = record { buffer = refl; after = e }

-- a text and one byte behind it
pub ended : {xs text ys : List ℕ} {place p next : ℕ} (q b : ℕ) → Wrote xs place text ys p → p ≡ q → next ≡ q + 1 → Wrote xs place (text ++ (b ∷ [])) (set ys q b) next
ended {xs} {text} {ys} {place} q b w e f = then (subst (Wrote xs place text ys) e w) (one ys q b f)

-- a whole text, put as a part of the buffer
pub whole : (text xs : List ℕ) (place : ℕ) (part : List ℕ) → place + length text ≤ length xs → part ≡ text → Wrote xs place text (put_mid place (place + length text - place) xs part) (place + length text)
whole text xs place part room e =
    let n : place + length text - place ≡ length text = omega arith in
    record { buffer = rw (n, e) (ap (λ (l : List ℕ). take place xs ++ (text ++ l)) (drop-drop (length text) place xs) ∙ sym (append_assoc (take place xs) text (drop (place + length text) xs)) ∙ sym (sets-eq text xs place room)); after = refl }

-- two bytes
pub two : (xs : List ℕ) (place a b : ℕ) → Wrote xs place (a ∷ b ∷ []) (set (set xs place a) (place + 1) b) (place + 2)
two xs place a b = record { buffer = rw add-one refl; after = refl }

-- of a text that is to be put into xs place a place, the rest is still to come, place p in ys
pub record Coming (xs : List ℕ) (place : ℕ) (text ys : List ℕ) (p : ℕ) (rest : List ℕ) : Type 0 where
  pub stored : sets xs place text ≡ sets ys p rest
  pub counted : place + length text ≡ p + length rest

-- place first all of it
pub all_coming : {xs : List ℕ} {place : ℕ} {text rest : List ℕ} → text ≡ rest → Coming xs place text xs place rest
all_coming {xs} {place} e = record { stored = ap (sets xs place) e; counted = ap (λ (t : List ℕ). place + length t) e }

-- a part more was put
pub go_on : {xs text ys a b rest zs : List ℕ} {place p q : ℕ} → Coming xs place text ys p rest → rest ≡ a ++ b → Wrote ys p a zs q → Coming xs place text zs q b
go_on {xs} {text} {ys} {a} {b} {rest} {zs} {place} {p} {q} c e w =
    record {
      stored = c.stored ∙ rw (e, w.buffer, w.after) (sym (sets_append a b ys p));
      counted = omega (arith, c.counted, ap length e, length-append a b, w.after);
    }

-- the last part was put
pub come : {xs text ys a rest zs : List ℕ} {place p q : ℕ} → Coming xs place text ys p rest → rest ≡ a → Wrote ys p a zs q → Wrote xs place text zs q
come {ys = ys} {p = p} c e w =
    record {
      buffer = w.buffer ∙ sym (c.stored ∙ ap (sets ys p) e);
      after = w.after ∙ sym (c.counted ∙ ap (λ (t : List ℕ). p + length t) e);
    }
