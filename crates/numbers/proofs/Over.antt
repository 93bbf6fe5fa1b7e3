-- Bytes of a buffer replaced, one at a time and all at once.
-- Assumes nothing.
use mathlib.Core.Path.{◌≡◌, ◌∙◌, ap, sym}
use Prim.Native.Nat.{ℕ, ◌+◌, ◌/◌, ◌%◌, ◌^◌, ◌<◌}
use native.Mathlib.Nat.{add-zero}
use native.Mathlib.Numerals.{add-one}
use native.Mathlib.Omega.{arith}
use mathlib.Core.List.{List, [], ◌∷◌, ◌++◌, append_assoc}
use lib.ListN.{length, take, drop, set, get_or, take-append-drop}
use lib.Seq.{set_split, take-suc, set-append_seam, length-take-le, paste, take_all}
use Rattle.types.specs.Writing.{over}
use Rattle.numbers.specs.Integer.{low_bytes}
use Rattle.numbers.proofs.Low.{low_bytes_length, low_bytes_more}

-- one element set is one byte replaced
pub one_replaced : (xs : List ℕ) (place b : ℕ) → place < length xs → set xs place b ≡ over xs place (b ∷ [])
one_replaced xs place b h = set_split xs place b h ∙ rw (add-one place)

-- a whole list pasted replaces as many bytes
pub paste_all : (xs : List ℕ) (place : ℕ) (bytes : List ℕ) → paste xs place bytes (length bytes) ≡ over xs place bytes
paste_all xs place bytes = rw (take_all (length bytes) bytes (omega arith), append_assoc)

-- low bytes written from the last to the first: none yet
pub none_written : (xs : List ℕ) (end : ℕ) → xs ≡ take end xs ++ drop end xs
none_written xs end = sym (take-append-drop end xs)

-- one byte more
pub byte_written : (xs : List ℕ) (end place k v : ℕ) (rest : List ℕ) → end ≡ place + 1 → place < length xs
    → set (take end xs ++ (low_bytes k v ++ rest)) place (v / 256 ^ k % 256) ≡ take place xs ++ (low_bytes (k + 1) v ++ rest)
byte_written xs end place k v rest m h =
    let e : take end xs ++ (low_bytes k v ++ rest) ≡ take place xs ++ (get_or xs place 0 ∷ (low_bytes k v ++ rest)) = rw (m, add-one place, take-suc xs place 0 h, append_assoc) in
    let l : length (take place xs) ≡ place = length-take-le place xs (omega arith) in
    let b : ℕ = v / 256 ^ k % 256 in
    ap (λ (ys : List ℕ). set ys place b) e
    ∙ ap (λ (m : ℕ). set (take place xs ++ (get_or xs place 0 ∷ (low_bytes k v ++ rest))) m b) (sym l)
    ∙ set-append_seam (take place xs) (get_or xs place 0) (low_bytes k v ++ rest) b
    ∙ rw (low_bytes_more k v)

-- all of them
pub all_written : (xs : List ℕ) (place n v : ℕ) → take (place + 0) xs ++ (low_bytes n v ++ drop (place + n) xs) ≡ over xs place (low_bytes n v)
all_written xs place n v = rw (add-zero, low_bytes_length n v)
