-- No two answers of a tag reader are the same on paper, so each promise admits a single one.
-- Assumes nothing.
use mathlib.Core.Path.{◌≡◌}
use Prim.Native.Nat.{ℕ}
use Rattle.std.specs.declared.result.Result.{Result}
use Rattle.types.specs.Tag.{tag_of}
use Rattle.types.specs.declared.refusal.Refusal.{Refusal}
use Rattle.types.specs.declared.tag.Tag as program
use Rattle.types.proofs.Single.{single_by, program_tag, tag_back}
use Rattle.tags.specs.Reading.{paper_tag}

pub single_tag_read : (x y : Result (program.Tag × ℕ) Refusal) → paper_tag x ≡ paper_tag y → x ≡ y
single_tag_read = single_by tag_of program_tag tag_back
