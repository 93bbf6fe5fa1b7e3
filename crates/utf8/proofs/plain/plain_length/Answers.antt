-- `plain::plain_length` meets its contract: words of bytes that pass, and then the bytes that pass of the next word or behind all words, are as many bytes as pass.
-- Assumes nothing.
use Rattle.std.proofs.Common.{◌≡◌, sym, ◌∙◌, ◌/◌, ◌<◌, [], length, get_or, arith}
use Rattle.std.proofs.lemmas.Option.{gets}
use Rattle.std.specs.Char.{is_ascii}
use borrow.Author.Tests.{ltb-true, ltb-false}
use Rattle.utf8.proofs.Runs.{up_to_chunk, up_to_rest}
use Rattle.utf8.proofs.plain.plain_length.Goals.{in-Some, in-None}
use Rattle.utf8.proofs.plain.plain_length.Goals as goal

pub returns : goal.returns
returns c =
    let text = c.args.text.now in
    let words = c.as_chunks.result.0.now in
    let count = c.plain_words-count.result in
    elim c.match-get.branch [
      | in-Some w ↦
          let h : count < length words = ltb-true count (length words) (sym w.in-Some.ensures.lookup.0) in
          let e : w.in-Some.word.now ≡ get_or words count [] = grind (arith, gets) in
          up_to_chunk is_ascii 8 text words count c.match-get.more c.as_chunks.ensures.front c.plain_words-count.ensures.value w.in-Some.word.now (omega arith) c.as_chunks.ensures.front_len e (w.more-is ∙ w.plain_bytes-more.ensures.value)
      | in-None w ↦
          let h : count ≡ length text / 8 = omega (arith, ltb-false count (length words) (sym w.in-None.ensures.lookup.0)) in
          up_to_rest is_ascii 8 text words count c.match-get.more c.as_chunks.ensures.front c.plain_words-count.ensures.value c.as_chunks.result.1.now h c.as_chunks.ensures.back (w.more-is ∙ w.plain_bytes-more-in-None.ensures.value)
    ]
