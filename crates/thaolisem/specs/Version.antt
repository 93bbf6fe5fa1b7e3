-- The version of the calls: a number that is raised with every change of what a call takes or of how the eight numbers tell an answer.
-- Assumes nothing.
use Rattle.std.specs.Prelude.{ℕ}

-- this version's number, as bindings/c/thaolisem.h and bindings/rust have it
abbrev pub calls_version : ℕ
calls_version = 3
