-- No two answers are the same on paper, so each promise admits a single one.
-- Assumes nothing.
use mathlib.Core.Path.{◌≡◌, refl, ap}
use Prim.Native.Nat.{ℕ}
use Rattle.std.specs.declared.result.Result.{Result}
use Rattle.std.specs.declared.result.Result.TheVariants.{Ok, Err}
use Rattle.types.specs.Refusal.{row}
use Rattle.types.specs.Answer.{Answer, accepted, refused}
use Rattle.types.specs.declared.tag.Tag as program-tag
use Rattle.types.specs.declared.refusal.Refusal.{Refusal}
use Rattle.types.specs.declared.counted.CountedRefusal.{CountedRefusal}
use Rattle.types.proofs.Single.{told_apart, program_tag, tag_back, program_refusal, refusal_back}
use Rattle.bodies.specs.Scan.{Body, Counted, paper_body}
use Rattle.bodies.specs.Optional.{end_of_buffer, other_tag, Optional, body_or_refusal, absent, paper_optional}
use Rattle.bodies.specs.declared.body.Body as program-body
use Rattle.bodies.specs.declared.optional.OptionalBody.{OptionalBody}
use Rattle.bodies.specs.declared.optional.OptionalBody.TheVariants as o

abbrev program : Answer Body → ℕ → Result program-body.Body CountedRefusal
program (accepted b next) tags = Ok (record { start = b.start; len = b.size; number = b.number; next = next; tags = tags })
program (refused k c) tags = Err (record { refusal = program_refusal (row k c); tags = tags })

program_back : (x : Result program-body.Body CountedRefusal) → program (paper_body x).answer (paper_body x).tags ≡ x
program_back (Ok b) = refl
program_back (Err r) = ap (λ (y : Refusal). Err (record { refusal = y; tags = r.tags })) (refusal_back r.refusal)

-- no two answers for a body are the same on paper
pub single_body : (x y : Result program-body.Body CountedRefusal) → paper_body x ≡ paper_body y → x ≡ y
single_body = told_apart paper_body (λ (r : Counted). program r.answer r.tags) program_back

abbrev present : Result program-body.Body CountedRefusal → Result OptionalBody CountedRefusal
present (Ok b) = Ok (o.Present b)
present (Err r) = Err r

abbrev program_optional : Optional → Result OptionalBody CountedRefusal
program_optional (body_or_refusal x) = present (program x.answer x.tags)
program_optional (absent end_of_buffer) = Ok o.AbsentAtEnd
program_optional (absent (other_tag t)) = Ok (o.AbsentAt (program_tag t))

optional_back : (x : Result OptionalBody CountedRefusal) → program_optional (paper_optional x) ≡ x
optional_back (Ok (o.Present b)) = refl
optional_back (Ok o.AbsentAtEnd) = refl
optional_back (Ok (o.AbsentAt t)) = ap (λ (u : program-tag.Tag). Ok (o.AbsentAt u)) (tag_back t)
optional_back (Err r) = ap present (program_back (Err r))

-- no two answers for an optional body are the same on paper
pub single_optional : (x y : Result OptionalBody CountedRefusal) → paper_optional x ≡ paper_optional y → x ≡ y
single_optional = told_apart paper_optional program_optional optional_back
