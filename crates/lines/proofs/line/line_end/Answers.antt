-- `lines::line_end` meets its contract: no byte up to the end of the digits is a newline, so the first from there on ends the line, and else the input does.
-- Assumes nothing.
use Rattle.std.proofs.Common.{◌∙◌, ap, eqb, length, arith}
use Rattle.std.proofs.lemmas.Slice.{between_to_end}
use Rattle.std.specs.List.{position}
use Rattle.lines.proofs.Ends.{ends_by_newline, has_not_ended, ends_with_input, nothing_left}
use Rattle.lines.proofs.line.line_end.Goals as goal

pub returns-in-Some : goal.returns-in-Some
returns-in-Some c =
    let a = c.args in
    let xs = a.buf.now in
    ends_by_newline xs a.place a.digits (omega arith) c.requires.buf_value a.ended c.in-Some.behind (c.in-Some.ensures ∙ ap (position (λ b. eqb b 10)) (between_to_end xs a.digits (length xs) (omega arith)))

pub returns-in-None : goal.returns-in-None
returns-in-None c =
    let a = c.args in
    let xs = a.buf.now in
    ends_with_input xs a.place a.digits (omega arith) c.requires.buf_value a.ended (c.in-None.ensures ∙ ap (position (λ b. eqb b 10)) (between_to_end xs a.digits (length xs) (omega arith))) (cc) (omega arith)

pub returns-in-None-2 : goal.returns-in-None-2
returns-in-None-2 c =
    let a = c.args in
    let xs = a.buf.now in
    nothing_left xs a.place a.digits (omega arith) c.requires.buf_value a.ended (c.in-None.ensures ∙ ap (position (λ b. eqb b 10)) (between_to_end xs a.digits (length xs) (omega arith))) (cc) (omega arith) (omega arith)

pub returns-in-None-2-2 : goal.returns-in-None-2-2
returns-in-None-2-2 c =
    let a = c.args in
    let xs = a.buf.now in
    has_not_ended xs a.place a.digits (omega arith) c.requires.buf_value a.ended (c.in-None.ensures ∙ ap (position (λ b. eqb b 10)) (between_to_end xs a.digits (length xs) (omega arith))) (cc)
