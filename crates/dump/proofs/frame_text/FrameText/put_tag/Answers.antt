-- `FrameText::put_tag` meets its contract: in each arm the tag's class and number are known, and its words are one line.
-- Assumes nothing.
use native.Mathlib.Omega.{arith}
use Rattle.dump.specs.Frame.{tag_line}
use Rattle.dump.specs.Words.{application_word, context_word, open_word, close_word}
use Rattle.dump.proofs.TagLines.{valued_most, bare_most}
use Rattle.dump.proofs.frame_text.FrameText.put_tag.Goals as goal

pub returns-in-Application : goal.returns-in-Application
unfolding tag_line
returns-in-Application c =
    let a = c.args in
    let p = c.put_line.ensures in
    rw (c.in-Application.is, ← c.number.ensures.value)
    (record { wrote = p.wrote; upper_bound = valued_most a.self.now.number a.start a.depth application_word c.number.result c.requires.0 c.requires.1 (omega arith) (omega (arith, c.number.ensures.upper_bound)) a.tag.value (omega arith) p.wrote; same_number = p.same_number; same_buffer = p.same_buffer })

pub returns-in-ContextSpecific : goal.returns-in-ContextSpecific
unfolding tag_line
returns-in-ContextSpecific c =
    let a = c.args in
    let p = c.put_line-in-ContextSpecific.ensures in
    rw c.in-ContextSpecific.is
    (record { wrote = p.wrote; upper_bound = valued_most a.self.now.number a.start a.depth context_word c.in-ContextSpecific.n c.requires.0 c.requires.1 (omega arith) (omega arith) a.tag.value (omega arith) p.wrote; same_number = p.same_number; same_buffer = p.same_buffer })

pub returns-in-ContextSpecificOpening : goal.returns-in-ContextSpecificOpening
unfolding tag_line
returns-in-ContextSpecificOpening c =
    let a = c.args in
    let p = c.put_line-in-ContextSpecificOpening.ensures in
    rw c.in-ContextSpecificOpening.is
    (record { wrote = p.wrote; upper_bound = bare_most a.self.now.number a.start a.depth open_word c.in-ContextSpecificOpening.n c.requires.0 c.requires.1 (omega arith) (omega arith) p.wrote; same_number = p.same_number; same_buffer = p.same_buffer })

pub returns-in-ContextSpecificClosing : goal.returns-in-ContextSpecificClosing
unfolding tag_line
returns-in-ContextSpecificClosing c =
    let a = c.args in
    let p = c.put_line-in-ContextSpecificClosing.ensures in
    rw c.in-ContextSpecificClosing.is
    (record { wrote = p.wrote; upper_bound = bare_most a.self.now.number a.start a.depth close_word c.in-ContextSpecificClosing.n c.requires.0 c.requires.1 (omega arith) (omega arith) p.wrote; same_number = p.same_number; same_buffer = p.same_buffer })
