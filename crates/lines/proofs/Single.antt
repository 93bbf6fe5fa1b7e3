-- No two answers of a call for a line are the same on paper, so its promise admits a single one.
-- Assumes nothing.
use mathlib.Core.Path.{◌≡◌, refl, ap}
use Prim.Native.Nat.{ℕ}
use Rattle.types.specs.Refusal.{row}
use Rattle.types.proofs.Single.{told_apart, program_refusal, refusal_back}
use Rattle.lines.specs.Lines.{LineThere, a_frame, no_frame, not_ended, not_read, line_of, paper_line}
use Rattle.std.specs.Prelude.{Option, Some, None, Result, Ok, Err}
use Rattle.types.specs.declared.refusal.Refusal.{Refusal}
use Rattle.lines.specs.declared.line.Line.{Line}

abbrev answered : LineThere → Result (Option Line) Refusal
answered (a_frame bytes next) = Ok (Some (record { bytes = Some bytes; next = next }))
answered (no_frame next) = Ok (Some (record { bytes = None; next = next }))
answered not_ended = Ok None
answered (not_read k c) = Err (program_refusal (row k c))

line_back : (bytes : Option ℕ) (next : ℕ) → answered (line_of bytes next) ≡ Ok (Some (record { bytes = bytes; next = next }))
line_back (Some bytes) next = refl
line_back None next = refl

answered_back : (x : Result (Option Line) Refusal) → answered (paper_line x) ≡ x
answered_back (Ok (Some line)) = line_back line.bytes line.next
answered_back (Ok None) = refl
answered_back (Err x) = ap Err (refusal_back x)

pub single_line : (x y : Result (Option Line) Refusal) → paper_line x ≡ paper_line y → x ≡ y
single_line = told_apart paper_line answered answered_back
