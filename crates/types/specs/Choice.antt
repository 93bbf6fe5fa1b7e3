-- A choice between two, by a test.
-- Assumes nothing.
use Rattle.std.specs.Prelude.{Bool, true, false}

-- the first where the test holds, else the second
abbrev pub if : {A : Type 0} → Bool → A → A → A
if true a b = a
if false a b = b
