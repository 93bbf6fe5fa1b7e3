-- However an input is cut into pieces, and though no more of a line that has not ended is kept than tells that it has too many digits, the text put is that of the whole input.
-- Assumes nothing.
use mathlib.Core.Path.{◌≡◌, refl, ◌∙◌, ap, sym}
use mathlib.Core.Bool.{Bool, true, false}
use mathlib.Core.List.{List, [], ◌∷◌, ◌++◌, append_assoc, append-nil}
use Prim.Native.Nat.{ℕ, suc, ◌+◌}
use native.Mathlib.Nat.{add-zero}
use native.Mathlib.Omega.{arith}
use lib.Dec.{eqb}
use lib.ListN.{length, take}
use Rattle.types.specs.Choice.{if}
use Rattle.lines.specs.Lines.{most_kept, kept_of}
use Rattle.lines.specs.Input.{whole_on, rest_on, last_of, lines_by}
use Rattle.lines.proofs.Cut.{all_left, no_newline_taken, no_newline_left, whole_behind, rest_behind, lines_in_two}
use Rattle.lines.proofs.Begun.{Same, same, long, too_long, same_more, same_cut, same_count, same_rest, kept_behind}
use Rattle.dump.specs.Put.{text_of}
use Rattle.dump.specs.Stream.{texts, dump, Reading, input_ended, read_failed, piece_read, joined}
use Rattle.dump.proofs.Called.{TextsPut, calls_put}

-- the texts of lines, and of those behind them
pub texts_append : (n : ℕ) (ls ms : List (List ℕ)) → texts n (ls ++ ms) ≡ texts n ls ++ texts (n + length ls) ms
texts_append n [] ms = rw add-zero refl
texts_append n (l ∷ ls) ms =
    let e : n + 1 + length ls ≡ n + suc (length ls) = omega arith in
    ap (λ (t : List ℕ). text_of n l ++ t) (texts_append (n + 1) ls ms ∙ rw e refl) ∙ sym (append_assoc (text_of n l) (texts (n + 1) ls) (texts (n + suc (length ls)) ms))

-- beginnings of a line that no end can tell apart have one text, and so have the lines behind them
same_text : (number : ℕ) (a b : List ℕ) → Same a b → text_of number a ≡ text_of number b
unfolding text_of
same_text number a b (same e) = ap (text_of number) e
same_text number a b (long h k) = rw (too_long a h, too_long b k) refl

same_whole : (number : ℕ) (p a b : List ℕ) → Same a b → texts number (whole_on a p) ≡ texts number (whole_on b p)
same_whole number [] a b s = refl
same_whole number (x ∷ p) a b s = both (eqb x 10) (same_whole number p (a ++ (x ∷ [])) (b ++ (x ∷ [])) (same_more a b (x ∷ []) s))
  where
    both : (t : Bool) → texts number (whole_on (a ++ (x ∷ [])) p) ≡ texts number (whole_on (b ++ (x ∷ [])) p) → texts number (if t (a ∷ whole_on [] p) (whole_on (a ++ (x ∷ [])) p)) ≡ texts number (if t (b ∷ whole_on [] p) (whole_on (b ++ (x ∷ [])) p))
    both true q = ap (λ (l : List ℕ). l ++ texts (number + 1) (whole_on [] p)) (same_text number a b s)
    both false q = q

same_last : (number : ℕ) (a b : List ℕ) → Same a b → texts number (last_of a) ≡ texts number (last_of b)
same_last number a b (same e) = ap (λ (l : List ℕ). texts number (last_of l)) e
same_last number [] b (long h k) = absurd (omega arith)
same_last number (x ∷ a) [] (long h k) = absurd (omega arith)
same_last number (x ∷ a) (y ∷ b) (long h k) = ap (λ (l : List ℕ). l ++ []) (same_text number (x ∷ a) (y ∷ b) (long h k))

-- a reading from where some of a line is kept, whose true beginning no end can tell from it
reading_on : {ended : Bool} {kept : List ℕ} {number : ℕ} {pieces : List (List ℕ)} {text : List ℕ} (begun : List ℕ) → Reading ended kept number pieces text
    → Same kept begun → whole_on [] kept ≡ [] → whole_on [] begun ≡ [] → text ≡ texts number (lines_by ended (begun ++ joined pieces))
reading_on begun (input_ended {kept} {text} {number} {last} {count} c) s k b =
    (calls_put c).put ∙ rw (k, all_left [] kept k, append-nil begun, b, all_left [] begun b) (same_last number kept begun s)
reading_on begun (read_failed {kept} {number}) s k b = rw (append-nil begun, b) refl
reading_on begun (piece_read {ended} {kept} {piece} {text} {more} {pieces} {number} {last} {count} c r) s k b =
    let w : List (List ℕ) = whole_on begun piece in
    let t : TextsPut (kept ++ piece) false 0 number text last count = calls_put c in
    let l : lines_by false (kept ++ piece) ≡ whole_on kept piece = append-nil (whole_on [] (kept ++ piece)) ∙ whole_behind kept piece k in
    let p : text ≡ texts number w = t.put ∙ ap (texts number) l ∙ same_whole number piece kept begun s in
    let n : count ≡ number + length w = t.counted ∙ ap (λ (m : List (List ℕ)). number + length m) l ∙ ap (λ (m : ℕ). number + m) (same_count piece kept begun) in
    let h : kept_of (kept ++ piece) last ≡ take most_kept (rest_on kept piece) = kept_behind (kept ++ piece) last ∙ ap (take most_kept) (t.rest refl ∙ rest_behind kept piece k) in
    let i : more ≡ texts count (lines_by ended (rest_on begun piece ++ joined pieces)) =
    reading_on (rest_on begun piece) r (rw h (same_cut (rest_on kept piece) (rest_on begun piece) (same_rest piece kept begun s)))
    (rw h (no_newline_taken most_kept (rest_on kept piece) (no_newline_left kept piece k))) (no_newline_left begun piece b)
    in
    rw (p, i, n, ← texts_append number w (lines_by ended (rest_on begun piece ++ joined pieces)), ← lines_in_two ended begun piece (joined pieces) b) refl

-- however the input came in pieces, its text is that of the whole; and where a read failed, that of what came before, without the line that it cut
pub streamed : {ended : Bool} {pieces : List (List ℕ)} {text : List ℕ} → Reading ended [] 1 pieces text → text ≡ dump ended (joined pieces)
unfolding dump
streamed r = reading_on [] r (same refl) refl refl
