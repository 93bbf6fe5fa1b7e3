-- The characters of the grammar are those that the check finds, so nothing depends on the order of the rows.
-- Assumes nothing.
use mathlib.Core.Path.{◌≡◌, refl, sym, ap, ◌∙◌}
use mathlib.Core.List.{List, [], ◌∷◌, ◌++◌}
use mathlib.Core.Logic.{◌↔◌}
use Prim.Native.Nat.{ℕ, suc, ◌≤◌, ◌<◌}
use native.Mathlib.Omega.{arith}
use lib.ListN.{length, take, drop, take-append-drop}
use lib.Seq.{length-take-le, take_at, drop_at}
use Rattle.utf8.specs.Table.{UTF8-char}
use Rattle.utf8.specs.Text.{Character}
use Rattle.utf8.specs.Text.Character.{character}
use Rattle.utf8.specs.Check.{sequence_length}
use Rattle.utf8.proofs.Rows.{From, table_ascends, row_from, row_found, found_row}

-- a character is found at its whole length, whatever comes after it
pub character_found : {bytes : List ℕ} (rest : List ℕ) → Character bytes → sequence_length UTF8-char (bytes ++ rest) ≡ length bytes
character_found rest (character m each) = row_found UTF8-char 0 table_ascends rest m each

-- a character has a byte
pub character_long : {bytes : List ℕ} → Character bytes → 0 < length bytes
unfolding From
character_long {bytes} (character m each) = some_byte bytes (row_from UTF8-char 0 table_ascends m each)
  where
    some_byte : (bytes : List ℕ) → From 0 bytes → 0 < length bytes
    some_byte [] f = absurd f
    some_byte (byte ∷ bytes) f = omega arith

-- the check finds a sequence of so many bytes exactly if they are a character of the grammar
pub sequence_exactly : (bytes : List ℕ) (n : ℕ) → sequence_length UTF8-char bytes ≡ suc n ↔ ((suc n ≤ length bytes) × Character (take (suc n) bytes))
sequence_exactly bytes n = (λ e. let found = found_row UTF8-char bytes n e in (found.0, character found.1.1 found.1.2), λ c. back c.0 c.1)
  where
    back : suc n ≤ length bytes → Character (take (suc n) bytes) → sequence_length UTF8-char bytes ≡ suc n
    back h c =
        ap (sequence_length UTF8-char) (sym (take-append-drop (suc n) bytes))
        ∙ character_found (drop (suc n) bytes) c
        ∙ length-take-le (suc n) bytes h

-- where the check finds no sequence, no character begins
pub none_begins : (bytes : List ℕ) → sequence_length UTF8-char bytes ≡ 0 → (c rest : List ℕ) → Character c → bytes ≡ c ++ rest → ⊥
none_begins bytes e c rest ch split =
    let found : sequence_length UTF8-char bytes ≡ length c = ap (sequence_length UTF8-char) split ∙ character_found rest ch in
    omega (arith, character_long ch)

-- two characters with which the same bytes begin are one
pub one_character : {c d : List ℕ} (x y : List ℕ) → Character c → Character d → c ++ x ≡ d ++ y → (c ≡ d) × (x ≡ y)
one_character {c} {d} x y a b e =
    let same : length d ≡ length c = sym (character_found y b) ∙ ap (sequence_length UTF8-char) (sym e) ∙ character_found x a in (
      sym (take_at c x (length c) refl) ∙ ap (take (length c)) e ∙ take_at d y (length c) same,
      sym (drop_at c x (length c) refl) ∙ ap (drop (length c)) e ∙ drop_at d y (length c) same,
    )
