-- No two answers of a call for a line's text are the same on paper, so its promise admits a single one.
-- Assumes nothing.
use mathlib.Core.Path.{◌≡◌, refl, ap}
use Rattle.types.specs.Refusal.{row}
use Rattle.types.proofs.Single.{told_apart, program_refusal, refusal_back}
use Rattle.dump.specs.Put.{LineAnswer, text_put, none_ends, not_put, paper_put}
use Rattle.std.specs.Prelude.{Option, Some, None, Result, Ok, Err}
use Rattle.types.specs.declared.refusal.Refusal.{Refusal}
use Rattle.dump.specs.declared.line.LinePut.{LinePut}

abbrev answered : LineAnswer → Result (Option LinePut) Refusal
answered (text_put next place) = Ok (Some (record { next = next; place = place }))
answered none_ends = Ok None
answered (not_put k c) = Err (program_refusal (row k c))

answered_back : (x : Result (Option LinePut) Refusal) → answered (paper_put x) ≡ x
answered_back (Ok (Some put)) = refl
answered_back (Ok None) = refl
answered_back (Err x) = ap Err (refusal_back x)

pub single_put : (x y : Result (Option LinePut) Refusal) → paper_put x ≡ paper_put y → x ≡ y
single_put = told_apart paper_put answered answered_back
