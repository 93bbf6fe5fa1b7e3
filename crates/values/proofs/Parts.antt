-- Parts of the buffer: the bytes of one that stands at a place, or behind a first byte there.
-- Assumes nothing.
use mathlib.Core.Path.{◌≡◌, ◌∙◌, ap}
use Prim.Native.Nat.{ℕ, suc, ◌+◌, ◌-◌, ◌≤◌}
use native.Mathlib.Omega.{arith}
use mathlib.Core.List.{List, [], ◌∷◌, ◌++◌}
use lib.ListN.{length, take, drop, length-drop}
use lib.Seq.{take-append_seam}
use Rattle.types.specs.Answer.{accepted}
use Rattle.numbers.specs.Reading.{part_at, bytes_in, slice_from}
use Rattle.numbers.proofs.Found.{slice_at, behind}

pub part_bytes : (xs : List ℕ) (p : ℕ) (bytes rest : List ℕ) → drop p xs ≡ bytes ++ rest → bytes_in xs (part_at p (length bytes)) ≡ bytes
part_bytes xs p bytes rest e = ap (take (length bytes)) e ∙ take-append_seam bytes rest

pub part_bytes_behind : (xs : List ℕ) (p b : ℕ) (bytes rest : List ℕ) → drop p xs ≡ b ∷ (bytes ++ rest) → bytes_in xs (part_at (p + 1) (length bytes)) ≡ bytes
part_bytes_behind xs p b bytes rest e = part_bytes xs (p + 1) bytes rest (behind xs p (b ∷ []) (bytes ++ rest) e)

-- the part behind a first byte is read there
pub part_behind : (xs : List ℕ) → length xs ≤ 65535 → (place b : ℕ) (bytes rest : List ℕ) → drop place xs ≡ b ∷ (bytes ++ rest)
    → slice_from (suc (length bytes) - 1) xs (place + 1) ≡ accepted (part_at (place + 1) (length bytes)) (place + suc (length bytes))
part_behind xs small place b bytes rest e =
    let n : suc (length bytes) - 1 ≡ length bytes = omega arith in
    let l : place + 1 ≤ length xs = omega (arith, length-drop place xs, ap length e) in
    ap (λ (k : ℕ). slice_from k xs (place + 1)) n
    ∙ slice_at xs (place + 1) bytes rest small l (behind xs place (b ∷ []) (bytes ++ rest) e)
    ∙ ap (accepted (part_at (place + 1) (length bytes))) (let z : place + 1 + length bytes ≡ place + suc (length bytes) = omega arith in z)
