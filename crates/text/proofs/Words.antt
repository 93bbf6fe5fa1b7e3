-- Words and numbers put one behind the other, each with a space behind it, are a line once its last space is a newline; and how long a line is.
-- Assumes nothing.
use mathlib.Core.Path.{◌≡◌, refl, ◌∙◌, sym, ap}
use mathlib.Core.List.{List, [], ◌∷◌, ◌++◌, append_assoc, append-nil}
use Prim.Native.Nat.{ℕ, suc, ◌+◌, ◌-◌, ◌≤◌, ◌<◌}
use native.Mathlib.Omega.{arith}
use lib.ListN.{length, drop, get_or, set, length-append}
use lib.Seq.{sets, set-set, drop-cons, drop-length}
use borrow.Author.Tests.{lt-ltb, le-ltb}
use mathlib.Core.Logic.{⊎_elim}
use Rattle.std.proofs.lemmas.Bool.{cases_lt}
use Rattle.text.specs.Text.{Wrote, decimal, decimals, spaced, line, most_numbers, most_letters, line_room, words_in}
use Rattle.text.proofs.Puts.{sets_append, nothing, Coming, go_on, come}

line_more : (w : List ℕ) (ws : List (List ℕ)) → 0 < length ws → line (w ∷ ws) ≡ (w ++ (32 ∷ [])) ++ line ws
line_more w [] h = absurd (omega arith)
line_more w (v ∷ ws) h = sym (append_assoc w (32 ∷ []) (line (v ∷ ws)))

-- the first words of a line, and the line of the others
pub line_in_two : (ws : List (List ℕ)) (v : List ℕ) (vs : List (List ℕ)) → line (ws ++ (v ∷ vs)) ≡ spaced ws ++ line (v ∷ vs)
line_in_two [] v vs = refl
line_in_two (w ∷ ws) v vs =
    line_more w (ws ++ (v ∷ vs)) (omega (arith, length-append ws (v ∷ vs)))
    ∙ ap (λ (t : List ℕ). (w ++ (32 ∷ [])) ++ t) (line_in_two ws v vs)
    ∙ sym (append_assoc (w ++ (32 ∷ [])) (spaced ws) (line (v ∷ vs)))

-- a line without its last byte
abbrev start : List ℕ → List (List ℕ) → List ℕ
start w [] = w
start w (v ∷ vs) = (w ++ (32 ∷ [])) ++ start v vs

spaced_start : (w : List ℕ) (vs : List (List ℕ)) → spaced (w ∷ vs) ≡ start w vs ++ (32 ∷ [])
spaced_start w [] = append-nil (w ++ (32 ∷ []))
spaced_start w (v ∷ vs) = ap (λ (t : List ℕ). (w ++ (32 ∷ [])) ++ t) (spaced_start v vs) ∙ sym (append_assoc (w ++ (32 ∷ [])) (start v vs) (32 ∷ []))

line_start : (w : List ℕ) (vs : List (List ℕ)) → line (w ∷ vs) ≡ start w vs ++ (10 ∷ [])
line_start w [] = refl
line_start w (v ∷ vs) =
    line_more w (v ∷ vs) (omega arith)
    ∙ ap (λ (t : List ℕ). (w ++ (32 ∷ [])) ++ t) (line_start v vs)
    ∙ sym (append_assoc (w ++ (32 ∷ [])) (start v vs) (10 ∷ []))

-- the last space is made a newline
pub newline : (w : List ℕ) (vs : List (List ℕ)) {xs ys : List ℕ} {place next : ℕ} (last : ℕ) → Wrote xs place (spaced (w ∷ vs)) ys next → last ≡ next - 1 → Wrote xs place (line (w ∷ vs)) (set ys last 10) next
newline w vs {xs} {ys} {place} {next} last a e =
    let s : List ℕ = start w vs in
    let n : next ≡ place + length s + 1 = omega (arith, a.after, ap length (spaced_start w vs), length-append s (32 ∷ [])) in
    let p : last ≡ place + length s = omega arith in
    let b : ys ≡ set (sets xs place s) (place + length s) 32 = a.buffer ∙ ap (sets xs place) (spaced_start w vs) ∙ sym (sets_append s (32 ∷ []) xs place) in
    record {
      buffer =
          ap (λ (l : List ℕ). set l last 10) b
          ∙ ap (λ (k : ℕ). set (set (sets xs place s) (place + length s) 32) k 10) p
          ∙ set-set (sets xs place s) (place + length s) 32 10
          ∙ sets_append s (10 ∷ []) xs place
          ∙ ap (sets xs place) (sym (line_start w vs));
      after = omega (arith, ap length (line_start w vs), length-append s (10 ∷ []));
    }

-- one number more was put, and a space behind it
pub number_more : {xs text ys zs : List ℕ} {place p q : ℕ} (ns : List ℕ) (count : ℕ) → Coming xs place text ys p (spaced (decimals (drop count ns))) → count < length ns
    → Wrote ys p (decimal (get_or ns count 0) ++ (32 ∷ [])) zs q → Coming xs place text zs q (spaced (decimals (drop (count + 1) ns)))
number_more ns count c h w =
    let one : suc count ≡ count + 1 = omega arith in
    let n : List ℕ = decimal (get_or ns count 0) ++ (32 ∷ []) in
    let e : spaced (decimals (drop count ns)) ≡ n ++ spaced (decimals (drop (count + 1) ns)) =
    ap (λ (l : List ℕ). spaced (decimals l)) (drop-cons ns count 0 h) ∙ ap (λ (k : ℕ). n ++ spaced (decimals (drop k ns))) one
    in
    go_on c e w

-- all numbers are put
pub numbers_all : {xs text ys : List ℕ} {place p : ℕ} (ns : List ℕ) (count : ℕ) → Coming xs place text ys p (spaced (decimals (drop count ns))) → count ≡ length ns → Wrote xs place text ys p
numbers_all {ys = ys} {p = p} ns count c e = come c (ap (λ (k : ℕ). spaced (decimals (drop k ns))) e ∙ ap (λ (l : List ℕ). spaced (decimals l)) (drop-length ns)) (nothing ys p)

-- how long words are, each with the byte behind it
abbrev pub letters : List (List ℕ) → ℕ
letters [] = 0
letters (w ∷ ws) = length w + 1 + letters ws

pub line_length : (ws : List (List ℕ)) → length (line ws) ≡ letters ws
line_length [] = refl
line_length (w ∷ []) = omega (arith, length-append w (10 ∷ []))
line_length (w ∷ v ∷ ws) = omega (arith, length-append w (32 ∷ line (v ∷ ws)), line_length (v ∷ ws))

-- what is put, by the tests
module _ (size place : ℕ) (before word after : List ℕ) where
  pub too_many_before : most_numbers < length before → words_in size place before word after ≡ []
  unfolding words_in
  too_many_before h = rw (lt-ltb most_numbers (length before) h) refl

  module _ (few-before : length before ≤ most_numbers) where
    pub word_too_long : most_letters < length word → words_in size place before word after ≡ []
    unfolding words_in
    word_too_long h = rw (le-ltb most_numbers (length before) few-before, lt-ltb most_letters (length word) h) refl

    module _ (short : length word ≤ most_letters) where
      pub too_many_behind : most_numbers < length after → words_in size place before word after ≡ []
      unfolding words_in
      too_many_behind h = rw (le-ltb most_numbers (length before) few-before, le-ltb most_letters (length word) short, lt-ltb most_numbers (length after) h) refl

      module _ (few-behind : length after ≤ most_numbers) where
        pub no_room_lem : size < place + line_room → words_in size place before word after ≡ []
        unfolding words_in
        no_room_lem h = rw (le-ltb most_numbers (length before) few-before, le-ltb most_letters (length word) short, le-ltb most_numbers (length after) few-behind, lt-ltb size (place + line_room) h) refl

        pub words_in_lem : place + line_room ≤ size → words_in size place before word after ≡ line (decimals before ++ (word ∷ decimals after))
        unfolding words_in
        words_in_lem h = rw (le-ltb most_numbers (length before) few-before, le-ltb most_letters (length word) short, le-ltb most_numbers (length after) few-behind, le-ltb size (place + line_room) h) refl

-- where any test fails nothing is put
pub none_put : {xs : List ℕ} {place : ℕ} (before word after : List ℕ) → (length before ≤ most_numbers → length word ≤ most_letters → length after ≤ most_numbers → place + line_room ≤ length xs → ⊥) → Wrote xs place (words_in (length xs) place before word after) xs place
none_put {xs} {place} before word after not_all = rw none (nothing xs place)
  where
    size : ℕ
    size = length xs

    none : words_in size place before word after ≡ []
    none =
        by_test most_numbers (length before) (λ h. too_many_before size place before word after h) (λ a.
        by_test most_letters (length word) (λ h. word_too_long size place before word after a h) (λ b.
        by_test most_numbers (length after) (λ h. too_many_behind size place before word after a b h) (λ d.
        by_test size (place + line_room) (λ h. no_room_lem size place before word after a b d h) (λ r. absurd (not_all a b d r)))))
      where
        by_test : (n m : ℕ) → (n < m → words_in size place before word after ≡ []) → (m ≤ n → words_in size place before word after ≡ []) → words_in size place before word after ≡ []
        by_test n m f g = ⊎_elim f g (cases_lt n m)

-- so where there is room the line is put
pub words_put : {xs ys : List ℕ} {place next : ℕ} (before word after : List ℕ) → Wrote xs place (words_in (length xs) place before word after) ys next
    → length before ≤ most_numbers → length word ≤ most_letters → length after ≤ most_numbers → place + line_room ≤ length xs → Wrote xs place (line (decimals before ++ (word ∷ decimals after))) ys next
words_put {xs} {ys} {place} {next} before word after w a b c r = rw (← words_in_lem (length xs) place before word after a b c r) w
