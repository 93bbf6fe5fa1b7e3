-- Calls of `put_line` one after the other are calls from the first line of what was read on.
-- Assumes nothing.
use mathlib.Core.Path.{◌≡◌, refl, ◌∙◌, ap, sym}
use mathlib.Core.Bool.{Bool, true, false}
use mathlib.Core.List.{List, []}
use Prim.Native.Nat.{ℕ, ◌+◌, ◌≤◌, ◌<◌}
use native.Mathlib.Omega.{arith}
use lib.Dec.{ltb}
use lib.ListN.{length}
use borrow.Author.Tests.{ltb-true, ltb-false}
use Rattle.types.specs.Refusal.{amount}
use Rattle.dump.specs.Room.{text_room}
use Rattle.dump.specs.Put.{text_put, none_ends, not_put, LineLeft, line_left, put_from}
use Rattle.dump.specs.Stream.{Calls, nothing_left, no_line_ends, no_room, one_line}
use Rattle.dump.proofs.LineTexts.{no_room_lem, no_line_lem}
use Rattle.dump.proofs.Placed.{none_ended}
use Rattle.apdu_dump.specs.Standing.{Made}

-- calls from a place on are the rest of calls from the first line on
pub record Leads (xs : List ℕ) (ended : Bool) (first start number : ℕ) : Type 0 where
  pub on : (text : List ℕ) (last count : ℕ) → Calls xs ended start number text last count → Made xs ended first last count

module _ (xs : List ℕ) (ended : Bool) (first : ℕ) where
  module _ (start number : ℕ) (led : Leads xs ended first start number) where
    -- a text put leads to the next line
    pub put_leads : (out out' : List ℕ) (place to after : ℕ) → line_left (text_put to after) out' ≡ put_from ended number xs start out place → Leads xs ended first to (number + 1)
    put_leads out out' place to after e = record { on = λ text last count c. led.on _ last count (one_line out out' place to after e c) }

    -- a refusal for want of room leads to the same line
    pub room_leads : (out : List ℕ) (place : ℕ) → start ≤ length xs → place ≤ length out → length out < place + text_room → Leads xs ended first start number
    room_leads out place h k r = record { on = λ text last count c. led.on text last count (no_room out place (no_room_lem ended number xs start out place h k r) c) }

    -- where nothing is left, the calls are made
    pub all_made : start ≡ length xs → Made xs ended first start number
    all_made e = led.on [] start number (rw e nothing_left)

    -- and where no line ends
    pub none_made : (out out' : List ℕ) (place : ℕ) → line_left none_ends out' ≡ put_from ended number xs start out place → start ≤ length xs → place ≤ length out → Made xs ended first start number
    none_made out out' place e h k =
        by_room (ltb (length out) (place + text_room)) refl
      where
        by_room : (t : Bool) → ltb (length out) (place + text_room) ≡ t → Made xs ended first start number
        by_room true t =
            let q : not_put 13 (amount text_room) ≡ none_ends = ap (λ (x : LineLeft). x.answer) (no_room_lem ended number xs start out place h k (ltb-true _ _ t) ∙ sym e) in
            let z : ◌≡◌ {A = ℕ} 0 1 = cc in
            absurd (omega arith)
        by_room false t = led.on [] start number (no_line_ends out place (no_line_lem ended number xs start out place h (ltb-false _ _ t) (none_ended ended number xs start out place out' e).ending))
