-- The word of each kind of header (document 01, "The program"; request K2), by its letters.
-- Assumes nothing.
use Rattle.std.specs.Prelude.{ℕ, List, [], ◌∷◌}
use Rattle.headers.specs.Letters.{a, b, c, e, g, i, j, l, m, n, o, p, q, r, s, t, u, x}

abbrev pub request_word : List ℕ
request_word = r ∷ e ∷ q ∷ u ∷ e ∷ s ∷ t ∷ []

abbrev pub simple_word : List ℕ
simple_word = s ∷ i ∷ m ∷ p ∷ l ∷ e ∷ []

abbrev pub complex_word : List ℕ
complex_word = c ∷ o ∷ m ∷ p ∷ l ∷ e ∷ x ∷ []

abbrev pub segment_word : List ℕ
segment_word = s ∷ e ∷ g ∷ m ∷ e ∷ n ∷ t ∷ []

abbrev pub error_word : List ℕ
error_word = e ∷ r ∷ r ∷ o ∷ r ∷ []

abbrev pub reject_word : List ℕ
reject_word = r ∷ e ∷ j ∷ e ∷ c ∷ t ∷ []

abbrev pub abort_word : List ℕ
abort_word = a ∷ b ∷ o ∷ r ∷ t ∷ []
