-- `plain::plain_words` meets its contract: fours of words that pass, and then words that pass, are as many words as pass.
-- Assumes nothing.
use Rattle.std.proofs.Common.{◌≡◌, ◌*◌, length, drop, arith, rules, tests, ◌∙◌}
use Rattle.std.specs.List.{prefix_len, list_all}
use Rattle.std.specs.Char.{is_ascii}
use Rattle.std.proofs.lemmas.Iterator.{YieldsList-from_slice}
use Rattle.std.proofs.lemmas.Iterator.Consumers.{count_from_yields_List, YieldsList-at}
use Rattle.std.proofs.lemmas.Iterator.Search.{YieldsList-from_take_while}
use Rattle.std.proofs.lemmas.List.Folds.{length-prefix_len}
use Rattle.std.proofs.lemmas.Slice.{between_to_end}
use Rattle.utf8.proofs.Runs.{by_chunks}
use Rattle.utf8.proofs.plain.plain_words.Goals as goal

pub returns-clause-value : goal.returns-clause-value
returns-clause-value c =
    let words = c.args.words.now in
    let fours = c.as_chunks.result.0.now in
    let behind = drop (4 * c.count-many.result) words in
    let many : c.count-many.result ≡ prefix_len (list_all (list_all is_ascii)) fours =
    count_from_yields_List c.take_while.result c.count-many.result c.count-many.ensures.ran
    (YieldsList-from_take_while _ (list_all (list_all is_ascii)) (YieldsList-at c.take_while.ensures.source (YieldsList-from_slice fours cc)) c.take_while.ensures.closure c.take_while.ensures.done (λ x b q k. search (rules, tests)))
    ∙ length-prefix_len (list_all (list_all is_ascii)) fours in
    let more : c.count.result ≡ prefix_len (list_all is_ascii) behind =
    count_from_yields_List c.take_while-2.result c.count.result c.count.ensures.ran
    (YieldsList-from_take_while _ (list_all is_ascii) (YieldsList-at c.take_while-2.ensures.source (YieldsList-from_slice behind (c.iter-2.ensures.rest ∙ between_to_end words (4 * c.count-many.result) (length words) (omega arith)))) c.take_while-2.ensures.closure c.take_while-2.ensures.done (λ x b q k. search (rules, tests)))
    ∙ length-prefix_len (list_all is_ascii) behind in
    by_chunks (list_all is_ascii) 4 words fours c.count-many.result c.count.result c.as_chunks.ensures.front many more
