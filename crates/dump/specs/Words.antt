-- The words that apdu-dump prints beside the kinds of headers (document 01, "The program"), by their letters.
-- Assumes nothing.
use Rattle.std.specs.Prelude.{List, [], ◌∷◌, ℕ}
use Rattle.headers.specs.Letters.{a, c, d, e, f, i, k, l, n, o, p, r, s, t, u, x}

abbrev pub application_word : List ℕ
application_word = a ∷ p ∷ p ∷ l ∷ i ∷ c ∷ a ∷ t ∷ i ∷ o ∷ n ∷ []

abbrev pub context_word : List ℕ
context_word = c ∷ o ∷ n ∷ t ∷ e ∷ x ∷ t ∷ []

abbrev pub open_word : List ℕ
open_word = o ∷ p ∷ e ∷ n ∷ []

abbrev pub close_word : List ℕ
close_word = c ∷ l ∷ o ∷ s ∷ e ∷ []

abbrev pub ok_word : List ℕ
ok_word = o ∷ k ∷ []

abbrev pub refused_word : List ℕ
refused_word = r ∷ e ∷ f ∷ u ∷ s ∷ e ∷ d ∷ []
