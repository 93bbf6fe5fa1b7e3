-- Document 01's examples of the walk, steps of it, and the program's second frame, by one statement each, which antt computes.
-- Assumes nothing.
use mathlib.Core.Path.{◌≡◌, refl}
use Prim.Native.Nat.{ℕ}
use mathlib.Core.List.{List, [], ◌∷◌}
use Rattle.types.specs.Tag.{application, context, opening, closing, tag}
use Rattle.types.specs.Refusal.{amount}
use Rattle.types.specs.Answer.{passed, stopped}
use Rattle.numbers.specs.Reading.{byte_from, slice_from, fixed_from}
use Rattle.tags.specs.Reading.{number_from, tag_value_from, tag_after, tag_from}
use Rattle.walk.specs.Tag.{item_from}
use Rattle.walk.specs.Walk.{seen, walked, Step, ends, goes, step_from, walk_for, walk_on, walk_from, Report, report, reported}
use Rattle.walk.specs.Step.{opened, step_at}

-- 3E 2F 3F; 3E 4E 3F; 3E 21 07 3F; 3E 15 3F 3F; 3E 3E 3F; 3E 24 00 3F; an octet string of 4,294,967,295 bytes; seventeen openings; no bytes; 0E FF 00; FE 0F FF 10
abbrev pub given : List Report
given =
    reported (walk_from (0x3E ∷ 0x2F ∷ 0x3F ∷ []) 0)
    ∷ reported (walk_from (0x3E ∷ 0x4E ∷ 0x3F ∷ []) 0)
    ∷ reported (walk_from (0x3E ∷ 0x21 ∷ 0x07 ∷ 0x3F ∷ []) 0)
    ∷ reported (walk_from (0x3E ∷ 0x15 ∷ 0x3F ∷ 0x3F ∷ []) 0)
    ∷ reported (walk_from (0x3E ∷ 0x3E ∷ 0x3F ∷ []) 0)
    ∷ reported (walk_from (0x3E ∷ 0x24 ∷ 0x00 ∷ 0x3F ∷ []) 0)
    ∷ reported (walk_from (0x65 ∷ 0xFF ∷ 0xFF ∷ 0xFF ∷ 0xFF ∷ 0xFF ∷ []) 0)
    ∷ reported (walk_from (0x0E ∷ 0x0E ∷ 0x0E ∷ 0x0E ∷ 0x0E ∷ 0x0E ∷ 0x0E ∷ 0x0E ∷ 0x0E ∷ 0x0E ∷ 0x0E ∷ 0x0E ∷ 0x0E ∷ 0x0E ∷ 0x0E ∷ 0x0E ∷ 0x0E ∷ []) 0)
    ∷ reported (walk_from [] 0)
    ∷ reported (walk_from (0x0E ∷ 0xFF ∷ 0x00 ∷ []) 0)
    ∷ reported (walk_from (0xFE ∷ 0x0F ∷ 0xFF ∷ 0x10 ∷ []) 0) ∷ []

abbrev pub expected : List Report
expected =
    report 1 (stopped 15 (amount 1))
    ∷ report 2 (stopped 15 (amount 2))
    ∷ report 3 passed
    ∷ report 3 passed
    ∷ report 3 (stopped 3 (amount 3))
    ∷ report 1 (stopped 3 (amount 6))
    ∷ report 0 (stopped 3 (amount 4294967301))
    ∷ report 16 (stopped 16 (amount 16))
    ∷ report 0 passed
    ∷ report 2 passed
    ∷ report 1 (stopped 15 (amount 2)) ∷ []

pub examples : given ≡ expected
unfolding byte_from slice_from fixed_from number_from tag_value_from tag_after tag_from item_from step_from walk_for walk_on walk_from
examples = refl

-- steps: 3E; 3F where block 3 is open, where blocks 3 and 4 are, and where there was one of number 3 that is closed; an opening where sixteen are open; no bytes, with no block open and with one; 0F and 3F where seventeen are said to be open, of which the innermost has no place; a place past the end
abbrev sixteen : List ℕ
sixteen = 3 ∷ 3 ∷ 3 ∷ 3 ∷ 3 ∷ 3 ∷ 3 ∷ 3 ∷ 3 ∷ 3 ∷ 3 ∷ 3 ∷ 3 ∷ 3 ∷ 3 ∷ 3 ∷ []

abbrev pub steps_given : List Step
steps_given =
    step_at (0x3E ∷ []) 0 (opened 0 sixteen)
    ∷ step_at (0x3F ∷ []) 0 (opened 1 (3 ∷ 4 ∷ []))
    ∷ step_at (0x3F ∷ []) 0 (opened 2 (3 ∷ 4 ∷ []))
    ∷ step_at (0x3F ∷ []) 0 (opened 0 (3 ∷ 4 ∷ []))
    ∷ step_at (0x3E ∷ []) 0 (opened 16 sixteen)
    ∷ step_at [] 0 (opened 0 sixteen)
    ∷ step_at [] 0 (opened 1 sixteen)
    ∷ step_at (0x0F ∷ []) 0 (opened 17 sixteen)
    ∷ step_at (0x3F ∷ []) 0 (opened 17 sixteen)
    ∷ step_at [] 1 (opened 0 sixteen) ∷ []

abbrev pub steps_expected : List Step
steps_expected =
    goes (seen 0 0 (tag (opening 3) 0)) 1 (3 ∷ [])
    ∷ goes (seen 0 0 (tag (closing 3) 0)) 1 []
    ∷ ends (stopped 15 (amount 0))
    ∷ ends (stopped 15 (amount 0))
    ∷ ends (stopped 16 (amount 0))
    ∷ ends passed
    ∷ ends (stopped 3 (amount 0))
    ∷ goes (seen 0 16 (tag (closing 0) 0)) 1 sixteen
    ∷ ends (stopped 15 (amount 0))
    ∷ ends (stopped 2 (amount 1)) ∷ []

pub steps : steps_given ≡ steps_expected
unfolding byte_from slice_from fixed_from number_from tag_value_from tag_after tag_from item_from step_from step_at
steps = refl

-- 30 01 0C 0C 00 80 00 05 19 55 3E 44 42 90 00 00 3F, from place 3: the five tags that the program prints
pub frame : walk_from (0x30 ∷ 0x01 ∷ 0x0C ∷ 0x0C ∷ 0x00 ∷ 0x80 ∷ 0x00 ∷ 0x05 ∷ 0x19 ∷ 0x55 ∷ 0x3E ∷ 0x44 ∷ 0x42 ∷ 0x90 ∷ 0x00 ∷ 0x00 ∷ 0x3F ∷ []) 3
    ≡ walked
    (seen 3 0 (tag (context 0) 4) ∷ seen 8 0 (tag (context 1) 1) ∷ seen 10 0 (tag (opening 3) 0) ∷ seen 11 1 (tag (application 4) 4) ∷ seen 16 0 (tag (closing 3) 0) ∷ [])
    passed
unfolding byte_from slice_from fixed_from number_from tag_value_from tag_after tag_from item_from step_from walk_for walk_on walk_from
frame = refl
