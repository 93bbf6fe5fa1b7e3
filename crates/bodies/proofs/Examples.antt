-- Document 01's examples of bodies, and those of docs/DECISIONS.md, by a statement over their list, which antt computes.
-- Assumes nothing.
use mathlib.Core.Path.{◌≡◌, refl}
use mathlib.Core.List.{List, [], ◌∷◌}
use Rattle.types.specs.Tag.{application, context, opening, closing, tag}
use Rattle.types.specs.Refusal.{amount, tag_found}
use Rattle.types.specs.Answer.{refused}
use Rattle.numbers.specs.Reading.{byte_from, slice_from, part_of, fixed_from}
use Rattle.tags.specs.Reading.{number_from, tag_value_from, tag_after, tag_from, expected_from}
use Rattle.bodies.specs.Scan.{Counted, counted, handed, unread, scan_step_after, scan_step_from, scan_from, body_from, body_for_from}
use Rattle.bodies.specs.Optional.{end_of_buffer, other_tag, Optional, body_or_refusal, absent, optional_from}

-- two items and a closing tag; an allowance that is too small; a Boolean, whose value is no length; a closing of another number;
-- an opening without its closing; content that passes the end, with and without allowance left; no items; an allowance of 0; no opening; no bytes; a place past the end;
-- block tags of two bytes: a closing behind an opening of one, an opening before a closing of one, with an item and without, both, and one that is cut
abbrev pub asked : List Counted
asked =
    body_from 4 (0x3E ∷ 0x21 ∷ 0x07 ∷ 0x3F ∷ []) 0 ∷ body_from 1 (0x3E ∷ 0x21 ∷ 0x07 ∷ 0x3F ∷ []) 0
    ∷ body_from 4 (0x3E ∷ 0x15 ∷ 0x3F ∷ 0x3F ∷ []) 0 ∷ body_from 3 (0x3E ∷ 0x2F ∷ 0x3F ∷ []) 0
    ∷ body_from 3 (0x3E ∷ 0x3E ∷ 0x3F ∷ []) 0
    ∷ body_from 4 (0x3E ∷ 0x24 ∷ 0x00 ∷ 0x3F ∷ []) 0 ∷ body_from 1 (0x3E ∷ 0x24 ∷ 0x00 ∷ 0x3F ∷ []) 0
    ∷ body_from 2 (0x3E ∷ 0x3F ∷ []) 0
    ∷ body_from 0 (0x3E ∷ []) 0 ∷ body_from 0 (0x21 ∷ 0x07 ∷ []) 0 ∷ body_from 0 [] 0 ∷ body_from 0 [] 1
    ∷ body_for_from 3 4 (0x3E ∷ 0x21 ∷ 0x07 ∷ 0x3F ∷ []) 0 ∷ body_for_from 4 4 (0x3E ∷ 0x21 ∷ 0x07 ∷ 0x3F ∷ []) 0
    ∷ body_from 5 (0x3E ∷ 0x21 ∷ 0x07 ∷ 0xFF ∷ 0x03 ∷ []) 0 ∷ body_from 3 (0x3E ∷ 0xFF ∷ 0x03 ∷ []) 0
    ∷ body_from 5 (0xFE ∷ 0x03 ∷ 0x21 ∷ 0x07 ∷ 0x3F ∷ []) 0
    ∷ body_for_from 16 4 (0xFE ∷ 0x10 ∷ 0xFF ∷ 0x10 ∷ []) 0 ∷ body_for_from 15 4 (0xFE ∷ 0x10 ∷ 0xFF ∷ 0x10 ∷ []) 0
    ∷ body_from 9 (0xFE ∷ 0x0F ∷ 0xFF ∷ []) 0 ∷ []

abbrev pub answered : List Counted
answered =
    handed 1 2 3 4 2 ∷ counted (refused 14 (amount 1)) 1
    ∷ handed 1 2 3 4 2 ∷ handed 1 1 3 3 2
    ∷ counted (refused 3 (amount 3)) 2
    ∷ counted (refused 3 (amount 4)) 1 ∷ counted (refused 14 (amount 1)) 1
    ∷ handed 1 0 3 2 1
    ∷ unread 14 (amount 0) ∷ unread 6 (tag_found (tag (application 2) 1)) ∷ unread 3 (amount 0) ∷ unread 2 (amount 1)
    ∷ handed 1 2 3 4 2 ∷ unread 4 (tag_found (tag (opening 3) 0))
    ∷ handed 1 2 3 5 2 ∷ handed 1 0 3 3 1
    ∷ handed 2 2 3 5 2
    ∷ handed 2 0 16 4 1 ∷ unread 4 (tag_found (tag (opening 16) 0))
    ∷ unread 3 (amount 3) ∷ []

pub edges : (asked ≡ answered) × (part_of 2 (0x3E ∷ 0x21 ∷ 0x07 ∷ 0x3F ∷ []) 1 ≡ 0x21 ∷ 0x07 ∷ [])
unfolding byte_from slice_from part_of fixed_from number_from tag_value_from tag_after tag_from expected_from scan_step_after scan_step_from scan_from body_from body_for_from
edges = (refl, refl)

-- of an optional body: it is there; another tag; the buffer's end; a block that is cut; a context tag of its number; a tag that is cut;
-- a closing of its number; another number's opening; an allowance that is spent, and one that nothing is asked of; a place past the end; content that passes the end;
-- block 15 where it is asked for, and where 3 is; an opening of two bytes that is cut
abbrev pub optional_asked : List Optional
optional_asked =
    optional_from 3 9 (0x3E ∷ 0x21 ∷ 0x07 ∷ 0x3F ∷ []) 0 ∷ optional_from 3 9 (0x21 ∷ 0x07 ∷ []) 0 ∷ optional_from 3 9 [] 0
    ∷ optional_from 0 9 (0x0E ∷ 0x21 ∷ 0x05 ∷ []) 0 ∷ optional_from 3 9 (0x39 ∷ []) 0 ∷ optional_from 3 9 (0xF9 ∷ []) 0
    ∷ optional_from 3 9 (0x3F ∷ []) 0 ∷ optional_from 3 9 (0x4E ∷ 0x4F ∷ []) 0
    ∷ optional_from 3 1 (0x3E ∷ 0x21 ∷ 0x07 ∷ 0x3F ∷ []) 0 ∷ optional_from 3 0 (0x21 ∷ 0x07 ∷ []) 0
    ∷ optional_from 3 9 [] 1 ∷ optional_from 3 9 (0x3E ∷ 0x24 ∷ 0x00 ∷ 0x3F ∷ []) 0
    ∷ optional_from 15 9 (0xFE ∷ 0x0F ∷ 0xFF ∷ 0x0F ∷ []) 0 ∷ optional_from 3 9 (0xFE ∷ 0x0F ∷ 0xFF ∷ 0x0F ∷ []) 0 ∷ optional_from 3 9 (0xFE ∷ []) 0 ∷ []

abbrev pub optional_answered : List Optional
optional_answered =
    body_or_refusal (handed 1 2 3 4 2) ∷ absent (other_tag (tag (application 2) 1)) ∷ absent end_of_buffer
    ∷ body_or_refusal (counted (refused 3 (amount 3)) 1) ∷ absent (other_tag (tag (context 3) 1)) ∷ body_or_refusal (unread 3 (amount 1))
    ∷ absent (other_tag (tag (closing 3) 0)) ∷ absent (other_tag (tag (opening 4) 0))
    ∷ body_or_refusal (counted (refused 14 (amount 1)) 1) ∷ absent (other_tag (tag (application 2) 1))
    ∷ body_or_refusal (unread 2 (amount 1)) ∷ body_or_refusal (counted (refused 3 (amount 4)) 1)
    ∷ body_or_refusal (handed 2 0 15 4 1) ∷ absent (other_tag (tag (opening 15) 0)) ∷ body_or_refusal (unread 3 (amount 1)) ∷ []

pub optional_edges : optional_asked ≡ optional_answered
unfolding byte_from fixed_from slice_from number_from tag_value_from tag_after tag_from scan_step_after scan_step_from scan_from optional_from
optional_edges = refl
