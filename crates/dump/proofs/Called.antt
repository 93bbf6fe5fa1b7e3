-- Calls of `put_line` until nothing is left or no line ends put the texts of the lines, numbered in order, and come to where the line that has not ended begins.
-- Assumes nothing.
use mathlib.Core.Path.{◌≡◌, refl, ◌∙◌, ap, sym}
use mathlib.Core.Bool.{Bool, true, false}
use mathlib.Core.List.{List, [], ◌++◌}
use Prim.Native.Nat.{ℕ, ◌+◌}
use native.Mathlib.Nat.{add-zero}
use native.Mathlib.Omega.{arith}
use lib.ListN.{length, drop}
use lib.Seq.{drop-length}
use Rattle.lines.specs.Lines.{until_newline}
use Rattle.lines.specs.Input.{rest_on, lines_by}
use Rattle.lines.proofs.First.{first_line, no_line_lem}
use Rattle.dump.specs.Put.{text_of}
use Rattle.dump.specs.Stream.{texts, Calls, nothing_left, no_line_ends, no_room, one_line}
use Rattle.dump.proofs.Placed.{placed, none_ended, text_there}

-- the texts of the lines from a place on are put, their numbers counted, and the calls come to what stands behind the last newline
pub record TextsPut (xs : List ℕ) (ended : Bool) (start number : ℕ) (text : List ℕ) (last count : ℕ) : Type 0 where
  pub put : text ≡ texts number (lines_by ended (drop start xs))
  pub counted : count ≡ number + length (lines_by ended (drop start xs))
  pub rest : ended ≡ false → drop last xs ≡ rest_on [] (drop start xs)

-- nothing has no line
none_of_nothing : (ended : Bool) → lines_by ended [] ≡ []
none_of_nothing true = refl
none_of_nothing false = refl

pub calls_put : {xs : List ℕ} {ended : Bool} {start number last count : ℕ} {text : List ℕ} → Calls xs ended start number text last count → TextsPut xs ended start number text last count
calls_put {xs} {ended} (nothing_left {number}) =
    record { put = rw (drop-length xs, none_of_nothing ended) refl; counted = rw (drop-length xs, none_of_nothing ended) (sym (add-zero number)); rest = λ f. rw (drop-length xs) refl }
calls_put {xs} {ended} (no_line_ends {start} {number} out place e) =
    let w = none_ended ended number xs start out place out e in
    let n = no_line_lem ended xs start w.inside w.ending in
    record { put = rw n.lines refl; counted = rw n.lines (sym (add-zero number)); rest = λ f. sym (n.rest f) }
calls_put (no_room out place e c) = calls_put c
calls_put {xs} {ended} (one_line {start} {number} {last} {count} {text} out out' place to after e c) =
    let w = placed ended number xs start out place to after out' e in
    let n = first_line ended xs start w.inside w.there to w.ending in
    let r = calls_put c in
    record {
      put = ap (λ (t : List ℕ). t ++ text) (text_there w) ∙ ap (λ (t : List ℕ). text_of number (until_newline (drop start xs)) ++ t) r.put ∙ ap (texts number) (sym n.lines);
      counted = omega (arith, r.counted, ap length n.lines);
      rest = λ f. r.rest f ∙ sym (n.rest f);
    }
