-- `FrameText::put_line` meets its contract: there is room, and no more is given than a line has, so the line is put.
-- Assumes nothing.
use native.Mathlib.Omega.{arith}
use mathlib.Core.Path.{refl}
use Rattle.text.proofs.Words.{words_put}
use Rattle.dump.proofs.frame_text.FrameText.put_line.Goals as goal

pub returns : goal.returns
returns c =
    let a = c.args in
    let p = c.put_words-self.ensures in
    record { wrote = words_put a.before.now a.word.now a.after.now p.wrote (omega arith) (omega arith) (omega arith) (omega arith); upper_bound = p.upper_bound; same_number = refl; same_buffer = refl }
