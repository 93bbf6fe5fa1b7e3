-- Octet strings: what is read stands there and the other way round, and the part holds the bytes that stand there.
-- Assumes nothing.
use mathlib.Core.Path.{◌≡◌, refl, ◌∙◌, ap, sym}
use Prim.Native.Nat.{ℕ, ◌+◌, ◌≤◌}
use native.Mathlib.Omega.{arith}
use mathlib.Core.List.{List, ◌++◌}
use lib.ListN.{length, drop}
use Rattle.types.specs.Answer.{accepted}
use Rattle.numbers.specs.Reading.{Part, part_at, bytes_in, slice_from}
use Rattle.numbers.proofs.Found.{slice_found, slice_at}
use Rattle.values.specs.Octets.{IsOctets}
use Rattle.values.proofs.Standing.{StoodOr, stood_or}
use Rattle.values.proofs.Parts.{part_bytes}

pub octets_or : (len : ℕ) (xs : List ℕ) (place : ℕ) → StoodOr (IsOctets len) xs place (slice_from len xs place)
octets_or len xs place =
    stood_or (IsOctets len) xs place (slice_from len xs place)
    (λ p next e.
    let f = slice_found len xs place p next e in
    record { bytes = f.bytes; is = record { sized = f.sized; lies = f.part_is }; here = f.here; ends = omega (arith, f.ends, f.sized) })

module _ (xs : List ℕ) (place : ℕ) (bytes rest : List ℕ) (e : drop place xs ≡ bytes ++ rest) {len : ℕ} {p : Part} (i : IsOctets len place bytes p) where
  -- the part is as long as the bytes
  lies_here : part_at place (length bytes) ≡ p
  lies_here = ap (part_at place) i.sized ∙ sym i.lies

  pub octets_read : length xs ≤ 65535 → place ≤ length xs → slice_from len xs place ≡ accepted p (place + length bytes)
  octets_read small l = ap (λ (n : ℕ). slice_from n xs place) (sym i.sized) ∙ slice_at xs place bytes rest small l e ∙ ap (λ (q : Part). accepted q (place + length bytes)) lies_here

  pub octets_again : bytes_in xs p ≡ bytes
  octets_again = ap (bytes_in xs) (sym lies_here) ∙ part_bytes xs place bytes rest e

pub octets_is : (place : ℕ) (lent : List ℕ) → IsOctets (length lent) place lent (part_at place (length lent))
octets_is place lent = record { sized = refl; lies = refl }
