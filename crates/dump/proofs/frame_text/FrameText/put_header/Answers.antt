-- `FrameText::put_header` meets its contract: the word and the numbers that headers tells are those of the header's line.
-- Assumes nothing.
use Rattle.std.proofs.Common.{◌≡◌, ◌∙◌, ap, length, arith, rules}
use Rattle.std.proofs.lemmas.Grind.{same_number_lists}
use Rattle.types.proofs.Padded.{padded_length}
use Rattle.headers.specs.Header.{header_of, kind_of, field_numbers}
use Rattle.dump.proofs.HeaderLines.{header_line_lem}
use Rattle.dump.proofs.frame_text.FrameText.put_header.Goals as goal

pub returns : goal.returns
returns c =
    let p = c.put_line.ensures in
    let d = c.described-description in
    let fields : c.map-fields.result ≡ d.result.fields = same_number_lists _ _ (omega (arith, c.map-fields.ensures.items.long, ap length d.ensures.fields_value, padded_length 4 (field_numbers (header_of c.args.header).fields))) (λ i h. let w = c.map-fields.ensures.items.at i 0 0 (omega arith) in search rules) in
    let e = header_line_lem c.args.self.now.number (header_of c.args.header) (kind_of d.result.kind) c.row.result.word.now c.map-fields.result d.result.count d.ensures.kind_value c.row.ensures.word_value (fields ∙ d.ensures.fields_value) d.ensures.count_value d.ensures.count_bound in
    record { wrote = rw (← e) p.wrote; upper_bound = p.upper_bound; same_number = p.same_number; same_buffer = p.same_buffer }
