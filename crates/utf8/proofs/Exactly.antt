-- The check and the grammar agree: good exactly on text, else the end of the longest text with which the bytes begin.
-- Assumes nothing.
use mathlib.Core.Path.{◌≡◌, refl, sym, ap, ◌∙◌, subst}
use mathlib.Core.List.{List, [], append-nil}
use mathlib.Core.Logic.{◌↔◌}
use Prim.Native.Nat.{ℕ, ◌+◌, ◌≤◌}
use native.Mathlib.Omega.{arith}
use lib.ListN.{length, take, drop, length-append, take-append-drop}
use lib.Seq.{length-take-le, take-length, take_at, drop_at}
use Rattle.utf8.specs.Text.{Text, BadPlace}
use Rattle.utf8.specs.Check.{Verdict, good, bad_at, check_from, check_of}
use Rattle.utf8.proofs.Characters.{none_begins}
use Rattle.utf8.proofs.Answers.{text-passed, Says, says}

-- the check says good exactly if the bytes are a text of the grammar
pub good_exactly : (bytes : List ℕ) → check_of bytes ≡ good ↔ Text bytes
unfolding check_of check_from
good_exactly bytes = (
  λ e. subst (Says bytes 0) e (says bytes 0 0 (omega arith)),
  λ t. ap (check_from 0 0) (sym (append-nil bytes)) ∙ text-passed 0 [] t,
)

-- a place that the check calls bad is the end of the longest text with which the bytes begin, and no character begins there
pub bad_place : (bytes : List ℕ) (place : ℕ) → check_of bytes ≡ bad_at place → BadPlace bytes place
unfolding check_of
bad_place bytes place e =
    let s : Says bytes 0 (bad_at place) = subst (Says bytes 0) e (says bytes 0 0 (omega arith)) in
    let at : length s.0 ≡ place = omega (arith, s.4) in
    record {
      inside = omega (arith, ap length s.2, length-append s.0 s.1, s.5);
      before = subst Text (sym (ap (take place) s.2 ∙ take_at s.0 s.1 place at)) s.3;
      nothing_begins = λ c rest ch split. none_begins s.1 s.6 c rest ch (sym (ap (drop place) s.2 ∙ drop_at s.0 s.1 place at) ∙ split);
      longest = λ other h t. no_longer other h t;
    }
  where
    no_longer : (other : ℕ) → other ≤ length bytes → Text (take other bytes) → other ≤ place
    no_longer other h t =
        let passed : check_from 0 0 bytes ≡ check_from (0 + length (take other bytes)) 0 (drop other bytes) =
        ap (check_from 0 0) (sym (take-append-drop other bytes)) ∙ text-passed 0 (drop other bytes) t in
        let s : Says (drop other bytes) (0 + length (take other bytes) + 0) (bad_at place) =
        subst (Says (drop other bytes) (0 + length (take other bytes) + 0)) (sym passed ∙ e) (says (drop other bytes) (0 + length (take other bytes)) 0 (omega arith)) in
        omega (arith, s.4, length-take-le other bytes h)

-- the check calls a place bad exactly if it is that place
pub bad_exactly : (bytes : List ℕ) (place : ℕ) → check_of bytes ≡ bad_at place ↔ BadPlace bytes place
bad_exactly bytes place = (bad_place bytes place, λ b. by_answer (check_of bytes) refl b)
  where
    by_answer : (v : Verdict) → check_of bytes ≡ v → BadPlace bytes place → v ≡ bad_at place
    by_answer good e b = absurd (omega (arith, b.inside, b.longest (length bytes) (omega arith) (subst Text (sym (take-length bytes)) ((good_exactly bytes).0 e))))
    by_answer (bad_at p) e b =
        let q = bad_place bytes p e in
        ap bad_at (let same : p ≡ place = omega (arith, b.inside, q.inside, b.longest p (omega (arith, q.inside)) q.before, q.longest place (omega (arith, b.inside)) b.before) in same)
