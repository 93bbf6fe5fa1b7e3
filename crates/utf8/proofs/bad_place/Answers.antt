-- `bad_place` meets its contract: before `place` there are whole sequences alone, so the answer on the text is the answer from `place` on;
-- the inner loop has passed some of the bytes that are to follow, and leaves by label where one is wrong. Assumes nothing.
use mathlib.Core.Path.{◌≡◌, refl, sym, ap, ◌∙◌}
use mathlib.Core.Bool.{true, false}
use Prim.Native.Nat.{◌+◌, ◌-◌}
use native.Mathlib.Omega.{arith}
use lib.ListN.{drop, length-drop}
use Rattle.utf8.specs.Table.{UTF8-char}
use Rattle.utf8.specs.Check.{begins, sequence_length, check_of}
use Rattle.utf8.specs.Lead.{ranges}
use Rattle.utf8.proofs.Places.{check_at, end_good, none_bad, sequence_leads}
use Rattle.utf8.proofs.Following.{stray_begins_none, wrong_begins_none, right_begins, nothing_left, cut_wrong, byte_passed, low_wrong, high_wrong, byte_of_part, part_passed}
use Rattle.utf8.proofs.Runs.{run_ends, run_passed, goes_ahead}
use Rattle.utf8.proofs.bad_place.Goals.{else-sequences-test, then-sequences-test+else-is_ascii+in_default, then-sequences-test+else-is_ascii+in-Some+then-text-place, then-sequences-test+else-is_ascii+in-Some+else-text-place+then-loop-byte-test+then-byte-lowest, then-byte-lowest-via-then-byte-lowest, then-byte-lowest-via-else-byte-lowest+then-highest-byte}
use Rattle.utf8.proofs.bad_place.Goals as goal

pub sequences-init : goal.sequences-init
unfolding check_at check_of
sequences-init c = (omega arith, refl)

pub overflow_add-place : goal.overflow_add-place
overflow_add-place c = record { fits = omega (arith, run_ends c.args.text.now c.sequences.place _ c.sequences-test.true c.plain_length-place.ensures) }

pub sequences-smaller-then-is_ascii : goal.sequences-smaller-then-is_ascii
sequences-smaller-then-is_ascii c =
    let inside = c.sequences-test.true in
    let is = c.plain_length-place.ensures in
    omega (arith, goes_ahead c.args.text.now c.sequences.place _ inside is (sym c.is_ascii.ensures ∙ c.if-is_ascii.true), run_ends c.args.text.now c.sequences.place _ inside is)

pub sequences-preserved-then-is_ascii : goal.sequences-preserved-then-is_ascii
sequences-preserved-then-is_ascii c = (
  run_ends c.args.text.now c.sequences.place _ c.sequences-test.true c.plain_length-place.ensures,
  c.sequences.invariant.1 ∙ run_passed c.args.text.now c.sequences.place _ c.sequences-test.true c.plain_length-place.ensures,
)

pub loop-byte-preserved : goal.loop-byte-preserved
loop-byte-preserved c =
    let text = c.args.text.now in
    let place = c.sequences.place in
    let f = c.in-Some.field-0 in
    let i = c.loop-byte in
    let at = byte_of_part text (place + 1) c.loop-byte-test.true in
    let next : place + 1 + i.byte-index + 1 ≡ place + 1 + (i.byte-index + 1) = omega arith in
    let left : f.count - i.byte-index - 1 ≡ f.count - (i.byte-index + 1) = omega arith in
    i.invariant ∙ rw (← next, ← left) (byte_passed text (place + 1 + i.byte-index) (f.count - i.byte-index) i.lowest i.highest (omega arith) (omega arith) (omega arith) (omega arith))

pub sequences-preserved : goal.sequences-preserved
sequences-preserved c =
    let text = c.args.text.now in
    let place = c.sequences.place in
    let f = c.in-Some.field-0 in
    let i = c.loop-byte in
    let none : f.count - i.byte-index ≡ 0 = omega (arith, part_passed text (place + 1) (omega arith) c.loop-byte-test.false) in
    let all : begins (ranges f.count f.low f.high) (drop (place + 1) text) ≡ true = i.invariant ∙ nothing_left text (f.count - i.byte-index) i.lowest i.highest (place + 1 + i.byte-index) none in
    (omega arith, c.sequences.invariant.1 ∙ sequence_leads text place f.count (right_begins text place c.sequences-test.true f c.in-Some.ensures all) ∙ ap (check_at text) (omega arith))

pub returns-then-place-text : goal.returns-then-place-text
returns-then-place-text c =
    let text = c.args.text.now in
    let place = c.sequences.place in
    let h = c.if-place-text.true in
    let none_begins : sequence_length UTF8-char (drop place text) ≡ 0 =
    elim c.sequences-test.branch [
      | else-sequences-test w ↦ absurd (omega arith)
      | then-sequences-test+else-is_ascii+in_default w ↦ stray_begins_none text place h w.in_default.ensures
      | then-sequences-test+else-is_ascii+in-Some+then-text-place w ↦ let f = w.in-Some.field-0 in wrong_begins_none text place h f w.in-Some.ensures (cut_wrong f.count f.low f.high (drop (place + 1) text) (omega (arith, length-drop (place + 1) text)))
      | then-sequences-test+else-is_ascii+in-Some+else-text-place+then-loop-byte-test+then-byte-lowest w ↦
          let f = w.in-Some.field-0 in
          let i = w.loop-byte in
          let at = byte_of_part text (place + 1) w.loop-byte-test.true in
          let wrong : begins (ranges (f.count - i.byte-index) i.lowest i.highest) (drop (place + 1 + i.byte-index) text) ≡ false =
          elim w.then-byte-lowest.branch [
            | then-byte-lowest-via-then-byte-lowest w' ↦ low_wrong text (place + 1 + i.byte-index) (f.count - i.byte-index) i.lowest i.highest (omega arith) (omega arith) (omega arith)
            | then-byte-lowest-via-else-byte-lowest+then-highest-byte w' ↦ high_wrong text (place + 1 + i.byte-index) (f.count - i.byte-index) i.lowest i.highest (omega arith) (omega arith) (omega arith)
          ] in
          wrong_begins_none text place h f w.in-Some.ensures (i.invariant ∙ wrong)
    ] in
    sym (c.sequences.invariant.1 ∙ none_bad text place h none_begins)

pub returns-else-place-text : goal.returns-else-place-text
returns-else-place-text c =
    let text = c.args.text.now in
    sym (c.sequences.invariant.1 ∙ end_good text c.sequences.place c.if-place-text.false)
