-- The lines of a walk's tags, put while it is walked: one after the other, until it ends.
-- Assumes nothing.
use mathlib.Core.Path.{◌≡◌, ◌∙◌, ap}
use mathlib.Core.List.{List}
use Prim.Native.Nat.{ℕ, ◌+◌}
use native.Mathlib.Omega.{arith}
use lib.ListN.{length}
use Rattle.types.specs.Answer.{Outcome}
use Rattle.walk.specs.Walk.{Seen, Walk, ended, more, walk_from}
use Rattle.walk.proofs.Steps.{walk_left, left_first}
use Rattle.text.specs.Text.{Wrote}
use Rattle.text.proofs.Puts.{Coming, nothing, all_coming, go_on, come}
use Rattle.dump.specs.Frame.{tag_line, tag_lines}

-- of a walk so many tags' lines are put, and those of what is left of it are still to come
pub record Halfway (frame : ℕ) (w left : Walk) (tags : ℕ) (xs : List ℕ) (place : ℕ) (ys : List ℕ) (p : ℕ) : Type 0 where
  pub coming : Coming xs place (tag_lines frame w.tags) ys p (tag_lines frame left.tags)
  pub counted : length w.tags ≡ tags + length left.tags
  pub same_outcome : w.outcome ≡ left.outcome

-- at first all are
pub begins : (frame : ℕ) (bytes : List ℕ) (body : ℕ) (os xs : List ℕ) (place : ℕ) → Halfway frame (walk_from bytes body) (walk_left bytes body 0 os) 0 xs place xs place
begins frame bytes body os xs place =
    let e = left_first bytes body os in
    record { coming = all_coming (ap (λ (w : Walk). tag_lines frame w.tags) e); counted = omega (arith, ap (λ (w : Walk). length w.tags) e); same_outcome = ap (λ (w : Walk). w.outcome) e }

module _ {frame : ℕ} {w left : Walk} {tags : ℕ} {xs ys : List ℕ} {place p : ℕ} (h : Halfway frame w left tags xs place ys p) where
  -- one tag's line more was put
  pub goes_on : {t : Seen} {after : Walk} {zs : List ℕ} {q : ℕ} → left ≡ more t after → Wrote ys p (tag_line frame t) zs q → Halfway frame w after (tags + 1) xs place zs q
  goes_on {t} {after} e put =
      record {
        coming = go_on h.coming (ap (λ (l : Walk). tag_lines frame l.tags) e) put;
        counted = omega (arith, h.counted, ap (λ (l : Walk). length l.tags) e);
        same_outcome = h.same_outcome ∙ ap (λ (l : Walk). l.outcome) e;
      }

  -- the walk ends, and all are put
  pub all_lines : {o : Outcome} → left ≡ ended o → Wrote xs place (tag_lines frame w.tags) ys p
  all_lines e = come h.coming (ap (λ (l : Walk). tag_lines frame l.tags) e) (nothing ys p)

  pub all_counted : {o : Outcome} → left ≡ ended o → tags ≡ length w.tags
  all_counted e = omega (arith, h.counted, ap (λ (l : Walk). length l.tags) e)

  pub ends_so : {o : Outcome} → left ≡ ended o → w.outcome ≡ o
  ends_so e = h.same_outcome ∙ ap (λ (l : Walk). l.outcome) e
