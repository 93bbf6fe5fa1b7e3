-- What the check passes over, and what each of its answers says of the bytes.
-- Assumes nothing.
use mathlib.Core.Path.{◌≡◌, refl, sym, ap, ◌∙◌, subst}
use mathlib.Core.List.{List, [], ◌∷◌, ◌++◌, append_assoc}
use Prim.Native.Nat.{ℕ, zero, suc, ◌+◌, ◌≤◌, ◌<◌}
use native.Mathlib.Omega.{arith}
use native.Mathlib.Nat.{add-zero}
use lib.ListN.{length, take, drop, length-append, take-append-drop}
use lib.Seq.{length-take-le, drop_at}
use Rattle.utf8.specs.Table.{UTF8-char}
use Rattle.utf8.specs.Text.{Character, Text}
use Rattle.utf8.specs.Text.Text.{empty, followed}
use Rattle.utf8.specs.Check.{Verdict, good, bad_at, sequence_length, after_first, check_from}
use Rattle.utf8.proofs.Characters.{character_found, character_long, sequence_exactly}
use Rattle.utf8.proofs.Places.{sequence_passed}

-- a character is passed whole
character-passed : {bytes : List ℕ} (place : ℕ) (rest : List ℕ) → Character bytes → check_from place 0 (bytes ++ rest) ≡ check_from (place + length bytes) 0 rest
character-passed {bytes} place rest c = by_length (length bytes) refl (character_long c)
  where
    by_length : (k : ℕ) → length bytes ≡ k → 0 < k → check_from place 0 (bytes ++ rest) ≡ check_from (place + k) 0 rest
    by_length zero e h = absurd (omega arith)
    by_length (suc n) e h =
        sequence_passed (bytes ++ rest) place n (character_found rest c ∙ e)
        ∙ ap (check_from (place + suc n) 0) (drop_at bytes rest (suc n) e)

-- a text is passed whole
pub text-passed : {text : List ℕ} (place : ℕ) (rest : List ℕ) → Text text → check_from place 0 (text ++ rest) ≡ check_from (place + length text) 0 rest
text-passed place rest empty = ap (λ (p : ℕ). check_from p 0 rest) (sym (add-zero place))
text-passed place rest (followed {bytes} {rest = more} c t) =
    ap (check_from place 0) (append_assoc bytes more rest)
    ∙ character-passed place (more ++ rest) c
    ∙ text-passed (place + length bytes) rest t
    ∙ ap (λ (p : ℕ). check_from p 0 rest) (let e : place + length bytes + length more ≡ place + length (bytes ++ more) = omega (arith, length-append bytes more) in e)

-- what each answer says of the bytes from a place on
abbrev pub Says : List ℕ → ℕ → Verdict → Type 0
Says bytes place good = Text bytes
Says bytes place (bad_at p) = (text : List ℕ) × (rest : List ℕ) × (bytes ≡ text ++ rest) × Text text × (p ≡ place + length text) × (0 < length rest) × (sequence_length UTF8-char rest ≡ 0)

-- what an answer says after a character it says before it
before-character : (bytes : List ℕ) (place n : ℕ) → suc n ≤ length bytes → Character (take (suc n) bytes) → (v : Verdict) → Says (drop (suc n) bytes) (place + suc n) v → Says bytes place v
before-character bytes place n h c good t = subst Text (take-append-drop (suc n) bytes) (followed c t)
before-character bytes place n h c (bad_at p) (text, rest, split, t, at, more, none) = (
  take (suc n) bytes ++ text,
  rest,
  sym (take-append-drop (suc n) bytes) ∙ ap (λ (l : List ℕ). take (suc n) bytes ++ l) split ∙ sym (append_assoc (take (suc n) bytes) text rest),
  followed c t,
  omega (arith, length-append (take (suc n) bytes) text, length-take-le (suc n) bytes h),
  more,
  none,
)

-- and it does say so
pub says : (bytes : List ℕ) (place pending : ℕ) → pending ≤ length bytes → Says (drop pending bytes) (place + pending) (check_from place pending bytes)
unfolding check_from after_first
says [] place zero h = empty
says [] place (suc pending) h = absurd (omega arith)
says (byte ∷ bytes) place (suc pending) h =
    let e : suc place + pending ≡ place + suc pending = omega arith in
    subst (λ (p : ℕ). Says (drop pending bytes) p (check_from (suc place) pending bytes)) e (says bytes (suc place) pending (omega arith))
says (byte ∷ bytes) place zero h = by_length (sequence_length UTF8-char (byte ∷ bytes)) refl (says bytes (suc place))
  where
    by_length : (k : ℕ) → sequence_length UTF8-char (byte ∷ bytes) ≡ k
        → ((n : ℕ) → n ≤ length bytes → Says (drop n bytes) (suc place + n) (check_from (suc place) n bytes))
        → Says (byte ∷ bytes) (place + 0) (after_first place (λ n. check_from (suc place) n bytes) k)
    by_length zero e after = ([], byte ∷ bytes, refl, empty, omega arith, omega arith, e)
    by_length (suc n) e after =
        let found = (sequence_exactly (byte ∷ bytes) n).0 e in
        let q : suc place + n ≡ place + 0 + suc n = omega arith in
        before-character (byte ∷ bytes) (place + 0) n found.0 found.1 (check_from (suc place) n bytes)
        (subst (λ (p : ℕ). Says (drop n bytes) p (check_from (suc place) n bytes)) q (after n (omega (arith, found.0))))
