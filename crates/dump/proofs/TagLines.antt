-- How long a tag's line is at most, by its class.
-- Assumes nothing.
use mathlib.Core.List.{List, [], ◌∷◌}
use Prim.Native.Nat.{ℕ, ◌+◌, ◌≤◌, ◌<◌}
use native.Mathlib.Omega.{arith}
use lib.ListN.{length}
use Rattle.text.specs.Text.{Wrote, decimal, line}
use Rattle.text.proofs.Decimal.{decimal_most, decimal_short}
use Rattle.text.proofs.Words.{line_length}
use Rattle.dump.specs.Room.{tag_room}

module _ (frame start depth : ℕ) (word : List ℕ) (number : ℕ) (near : start < 10000) (shallow : depth < 100) (short : length word ≤ 11) (small : number < 1000) where
  -- with a value
  pub valued_most : (value : ℕ) {xs ys : List ℕ} {place next : ℕ} → value < 10000000000
      → Wrote xs place (line (decimal frame ∷ decimal start ∷ decimal depth ∷ word ∷ decimal number ∷ decimal value ∷ [])) ys next → next ≤ place + tag_room
  valued_most value h w =
      omega (arith, w.after, line_length (decimal frame ∷ decimal start ∷ decimal depth ∷ word ∷ decimal number ∷ decimal value ∷ []), decimal_short frame, decimal_most 3 start near, decimal_most 1 depth shallow, decimal_most 2 number small, decimal_most 9 value h)

  -- and without
  pub bare_most : {xs ys : List ℕ} {place next : ℕ} → Wrote xs place (line (decimal frame ∷ decimal start ∷ decimal depth ∷ word ∷ decimal number ∷ [])) ys next → next ≤ place + tag_room
  bare_most w =
      omega (arith, w.after, line_length (decimal frame ∷ decimal start ∷ decimal depth ∷ word ∷ decimal number ∷ []), decimal_short frame, decimal_most 3 start near, decimal_most 1 depth shallow, decimal_most 2 number small)
