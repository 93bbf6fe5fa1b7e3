-- What an answer of a call for a line's text tells: where the line ended, and which text stands in the buffer where.
-- Assumes nothing.
use mathlib.Core.Path.{◌≡◌, refl, ◌∙◌, ap, sym}
use mathlib.Core.Bool.{Bool, true, false}
use mathlib.Core.List.{List, ◌++◌}
use Prim.Native.Nat.{ℕ, ◌+◌, ◌-◌, ◌≤◌, ◌<◌}
use native.Mathlib.Omega.{arith}
use lib.Dec.{ltb}
use lib.ListN.{length, take, drop, length-append}
use lib.Seq.{take_at, drop_at, length-take-le}
use borrow.Author.Tests.{le-ltb, ltb-true, ltb-false}
use Rattle.types.specs.Choice.{if}
use Rattle.types.specs.Refusal.{Carried, amount}
use Rattle.types.specs.Writing.{over}
use Rattle.types.proofs.Choices.{either}
use Rattle.lines.specs.Lines.{until_newline, End, line_ends, no_line, end_from}
use Rattle.lines.proofs.There.{ends_there}
use Rattle.dump.specs.Room.{text_room}
use Rattle.dump.specs.Put.{text_of, text_put, none_ends, not_put, LineLeft, line_left, put_by, put_from}

-- a text was put
pub record Placed (ended : Bool) (number : ℕ) (xs : List ℕ) (start : ℕ) (out : List ℕ) (place next after : ℕ) (out' : List ℕ) : Type 0 where
  pub inside : start ≤ length xs
  pub room : place + text_room ≤ length out
  pub there : ℕ
  pub ending : line_ends there next ≡ end_from ended xs start
  pub behind : after ≡ place + length (text_of number (until_newline (drop start xs)))
  pub buffer : out' ≡ over out place (text_of number (until_newline (drop start xs)))

-- no line ended
pub record NoneEnded (ended : Bool) (xs : List ℕ) (start : ℕ) : Type 0 where
  pub inside : start ≤ length xs
  pub ending : no_line ≡ end_from ended xs start

module _ (ended : Bool) (number : ℕ) (xs : List ℕ) (start : ℕ) (out : List ℕ) (place : ℕ) where
  -- what follows from an answer that is no refusal
  unless_refused : (P : LineLeft → Type 0) → ((n : ℕ) (c : _) → P (line_left (not_put n (amount c)) out)) → (start ≤ length xs → place + text_room ≤ length out → P (put_by (end_from ended xs start) (text_of number (until_newline (drop start xs))) out place)) → P (put_from ended number xs start out place)
  unfolding put_from
  unless_refused P r f =
      either P (ltb (length xs) start) (λ e. r 2 start)
      (λ e. either P (ltb (length out) place) (λ d. r 2 place)
      (λ d. either P (ltb (length out) (place + text_room)) (λ k. r 13 text_room)
      (λ k. f (ltb-false (length xs) start e) (ltb-false (length out) (place + text_room) k))))

  pub placed : (next after : ℕ) (out' : List ℕ) → line_left (text_put next after) out' ≡ put_from ended number xs start out place → Placed ended number xs start out place next after out'
  placed next after out' =
      unless_refused (λ (x : LineLeft). line_left (text_put next after) out' ≡ x → Placed ended number xs start out place next after out')
      (λ n c e. let q : text_put next after ≡ not_put n (amount c) = ap (λ (x : LineLeft). x.answer) e in let z : ◌≡◌ {A = ℕ} 0 1 = cc in absurd (omega arith))
      (λ h k. by_end h k (end_from ended xs start) refl)
    where
      by_end : start ≤ length xs → place + text_room ≤ length out → (x : End) → end_from ended xs start ≡ x → line_left (text_put next after) out' ≡ put_by x (text_of number (until_newline (drop start xs))) out place → Placed ended number xs start out place next after out'
      by_end h k (line_ends e n) q p =
          let w : text_put next after ≡ text_put n (place + length (text_of number (until_newline (drop start xs)))) = ap (λ (x : LineLeft). x.answer) p in
          let a : next ≡ n = cc in
          record { inside = h; room = k; there = e; ending = rw a (sym q); behind = cc; buffer = ap (λ (x : LineLeft). x.buffer) p }
      by_end h k no_line q p = let w : text_put next after ≡ none_ends = ap (λ (x : LineLeft). x.answer) p in let z : ◌≡◌ {A = ℕ} 0 1 = cc in absurd (omega arith)

  pub none_ended : (out' : List ℕ) → line_left none_ends out' ≡ put_from ended number xs start out place → NoneEnded ended xs start
  none_ended out' =
      unless_refused (λ (x : LineLeft). line_left none_ends out' ≡ x → NoneEnded ended xs start)
      (λ n c e. let q : none_ends ≡ not_put n (amount c) = ap (λ (x : LineLeft). x.answer) e in let z : ◌≡◌ {A = ℕ} 0 1 = cc in absurd (omega arith))
      (λ h k. by_end h (end_from ended xs start) refl)
    where
      by_end : start ≤ length xs → (x : End) → end_from ended xs start ≡ x → line_left none_ends out' ≡ put_by x (text_of number (until_newline (drop start xs))) out place → NoneEnded ended xs start
      by_end h (line_ends e n) q p = let w : none_ends ≡ text_put n (place + length (text_of number (until_newline (drop start xs)))) = ap (λ (x : LineLeft). x.answer) p in let z : ◌≡◌ {A = ℕ} 0 1 = cc in absurd (omega arith)
      by_end h no_line q p = record { inside = h; ending = sym q }

-- a refusal between places that both lie inside is for want of room
pub refused_for_room : (ended : Bool) (number : ℕ) (xs : List ℕ) (start : ℕ) (out : List ℕ) (place n : ℕ) (c : Carried) (out' : List ℕ) → line_left (not_put n c) out' ≡ put_from ended number xs start out place → start ≤ length xs → place ≤ length out → length out < place + text_room
unfolding put_from
refused_for_room ended number xs start out place n c out' e h k =
    by_room (ltb (length out) (place + text_room)) refl (rw (le-ltb (length xs) start h, le-ltb (length out) place k) at e)
  where
    by_end : (x : End) → line_left (not_put n c) out' ≡ put_by x (text_of number (until_newline (drop start xs))) out place → length out < place + text_room
    by_end (line_ends there next) p = let w : not_put n c ≡ text_put next (place + length (text_of number (until_newline (drop start xs)))) = ap (λ (x : LineLeft). x.answer) p in let z : ◌≡◌ {A = ℕ} 0 1 = cc in absurd (omega arith)
    by_end no_line p = let w : not_put n c ≡ none_ends = ap (λ (x : LineLeft). x.answer) p in let z : ◌≡◌ {A = ℕ} 0 1 = cc in absurd (omega arith)

    by_room : (t : Bool) → ltb (length out) (place + text_room) ≡ t → line_left (not_put n c) out' ≡ if t (line_left (not_put 13 (amount text_room)) out) (put_by (end_from ended xs start) (text_of number (until_newline (drop start xs))) out place) → length out < place + text_room
    by_room true t p = ltb-true (length out) (place + text_room) t
    by_room false t p = by_end (end_from ended xs start) p

-- the next line begins behind this one's start, inside what was read
pub moves_on : {ended : Bool} {number : ℕ} {xs : List ℕ} {start : ℕ} {out : List ℕ} {place next after : ℕ} {out' : List ℕ} → Placed ended number xs start out place next after out' → (start < next) × (next ≤ length xs)
moves_on {ended} {number} {xs} {start} {out} {place} {next} p = let w = ends_there ended xs start p.there next p.inside p.ending in (w.1, w.2)

-- the text ends inside its buffer
pub stays_inside : {ended : Bool} {number : ℕ} {xs : List ℕ} {start : ℕ} {out : List ℕ} {place next after : ℕ} {out' : List ℕ} → Placed ended number xs start out place next after out' → length out' ≡ length out → after ≤ length out
stays_inside {ended} {number} {xs} {start} {out} {place} {next} {after} {out'} p e =
    let t : List ℕ = text_of number (until_newline (drop start xs)) in
    let n : length out' ≡ length (take place out) + (length t + length (drop (place + length t) out)) = ap length p.buffer ∙ length-append (take place out) (t ++ drop (place + length t) out) ∙ rw (length-append t (drop (place + length t) out)) refl in
    let m : length (take place out) ≡ place = length-take-le place out (omega (arith, p.room)) in
    omega (arith, p.behind)

-- and what stands between the place and the place after is the text
pub text_there : {ended : Bool} {number : ℕ} {xs : List ℕ} {start : ℕ} {out : List ℕ} {place next after : ℕ} {out' : List ℕ} → Placed ended number xs start out place next after out' → take (after - place) (drop place out') ≡ text_of number (until_newline (drop start xs))
text_there {ended} {number} {xs} {start} {out} {place} {next} {after} {out'} p =
    let t : List ℕ = text_of number (until_newline (drop start xs)) in
    let d : drop place out' ≡ t ++ drop (place + length t) out = ap (drop place) p.buffer ∙ drop_at (take place out) (t ++ drop (place + length t) out) place (length-take-le place out (omega (arith, p.room))) in
    ap (take (after - place)) d ∙ take_at t (drop (place + length t) out) (after - place) (omega (arith, p.behind))
