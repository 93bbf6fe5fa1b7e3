-- What a walk that passes has walked over is a list of items of the grammar, and behind it the closings of the blocks that were open.
-- Assumes nothing.
use mathlib.Core.Path.{◌≡◌, refl, ◌∙◌, ap, sym, subst, subst₂}
use Prim.Native.Nat.{ℕ, zero, suc, ◌+◌, ◌<◌, ◌≤◌}
use native.Mathlib.Omega.{arith}
use mathlib.Core.List.{List, [], ◌∷◌, ◌++◌, append_assoc, append-nil}
use lib.Dec.{ltb, eqb}
use lib.ListN.{length, drop, length-append, drop_of_length-le}
use borrow.Author.Tests.{ltb-true, ltb-false, eqb-true}
use Rattle.types.specs.Tag.{Number, application, context, opening, closing, Tag, tag}
use Rattle.types.specs.Refusal.{Carried}
use Rattle.types.specs.Answer.{Answer, accepted, refused, passed, stopped}
use Rattle.types.proofs.Choices.{either}
use Rattle.tags.specs.Header.{IsTag}
use Rattle.bodies.specs.Item.{content_length}
use Rattle.walk.specs.Tag.{item_from}
use Rattle.walk.specs.Walk.{Seen, seen, Step, ends, goes, closing_step, step_by, step_of, at_end, step_from, turn, walk_for, walk_on}
use Rattle.walk.specs.Grammar.{Plain, Items}
use Rattle.walk.specs.Grammar.Items.{none, plain, block}
use Rattle.walk.proofs.Found.{item_found, opening_found, closing_found}

-- the two kinds of item, with the places named
plain' : {p q d : ℕ} {t : Tag} (header content : List ℕ) {rest : List ℕ} {tags : List Seen} → Plain t.number → IsTag t header → length content ≡ content_length t
    → Items q d rest tags → q ≡ p + length header + length content
    → Items p d (header ++ (content ++ rest)) (seen p d t ∷ tags)
plain' {d = d} header content {rest} {tags} h is sized x e = plain header content h is sized (subst (λ (j : ℕ). Items j d rest tags) e x)

block' : {p q₁ q₂ q₃ d n : ℕ} (opener inside closer : List ℕ) {rest : List ℕ} {inner tags : List Seen} → d < 16 → IsTag (tag (opening n) 0) opener
    → Items q₁ (suc d) inside inner → IsTag (tag (closing n) 0) closer → Items q₃ d rest tags → q₁ ≡ p + length opener → q₂ ≡ q₁ + length inside → q₃ ≡ q₂ + length closer
    → Items p d (opener ++ (inside ++ (closer ++ rest))) (seen p d (tag (opening n) 0) ∷ (inner ++ (seen q₂ d (tag (closing n) 0) ∷ tags)))
block' {p} {q₁} {q₂} {q₃} {d} {n} opener inside closer {rest} {inner} {tags} l opened x closed y e₁ e₂ e₃ =
    subst (λ (j : ℕ). Items p d (opener ++ (inside ++ (closer ++ rest))) (seen p d (tag (opening n) 0) ∷ (inner ++ (seen j d (tag (closing n) 0) ∷ tags)))) (let z : p + length opener + length inside ≡ q₂ = omega arith in z)
    (block opener inside closer l opened (subst (λ (j : ℕ). Items j (suc d) inside inner) e₁ x) closed
    (subst (λ (j : ℕ). Items j d rest tags) (let z : q₃ ≡ p + length opener + length inside + length closer = omega arith in z) y))

-- what is left of a passing walk once a list of items is over: nothing, or the closing tag of the innermost block and, around it, more items and so on
data Tail : ℕ → List ℕ → List ℕ → List Seen → Type 0 where
  over : {q : ℕ} → Tail q [] [] []
  shut : {q n : ℕ} {ns bytes : List ℕ} {all : List Seen} (closer b r : List ℕ) {q₁ q₂ : ℕ} {tags after : List Seen} → IsTag (tag (closing n) 0) closer
      → Items q₁ (length ns) b tags → Tail q₂ ns r after → q₁ ≡ q + length closer → q₂ ≡ q₁ + length b
      → bytes ≡ closer ++ (b ++ r) → all ≡ seen q (length ns) (tag (closing n) 0) ∷ (tags ++ after) → Tail q (n ∷ ns) bytes all

-- from a place on, where these blocks are open: items, and what is left
record Rest (p : ℕ) (ns bytes : List ℕ) (tags : List Seen) : Type 0 where
  b : List ℕ
  r : List ℕ
  now : List Seen
  later : List Seen
  q : ℕ
  head : Items p (length ns) b now
  tail : Tail q ns r later
  place : q ≡ p + length b
  same : bytes ≡ b ++ r
  all : tags ≡ now ++ later

rest_end : (p : ℕ) → Rest p [] [] []
rest_end p = record { b = []; r = []; now = []; later = []; q = p; head = none; tail = over; place = omega arith; same = refl; all = refl }

rest_plain : {p q : ℕ} {ns bytes : List ℕ} {t : Tag} {tags : List Seen} (header content : List ℕ) → Plain t.number → IsTag t header → length content ≡ content_length t → q ≡ p + length header + length content
    → Rest q ns bytes tags → Rest p ns (header ++ (content ++ bytes)) (seen p (length ns) t ∷ tags)
rest_plain {p} {q} {ns} {t = t} header content h is sized e x =
    let s : length (header ++ (content ++ x.b)) ≡ length header + (length content + length x.b) = simp length-append in
    record {
      b = header ++ (content ++ x.b);
      r = x.r;
      now = seen p (length ns) t ∷ x.now;
      later = x.later;
      q = x.q;
      head = plain' header content h is sized x.head e;
      tail = x.tail;
      place = omega (arith, x.place);
      same = ap (λ (y : List ℕ). header ++ (content ++ y)) x.same ∙ simp append_assoc;
      all = ap (λ (y : List Seen). seen p (length ns) t ∷ y) x.all;
    }

rest_closing : {p q n : ℕ} {ns bytes : List ℕ} {tags : List Seen} (closer : List ℕ) → IsTag (tag (closing n) 0) closer → q ≡ p + length closer
    → Rest q ns bytes tags → Rest p (n ∷ ns) (closer ++ bytes) (seen p (length ns) (tag (closing n) 0) ∷ tags)
rest_closing {p} {q} {n} {ns} {bytes} {tags} closer is e x = record {
  b = [];
  r = closer ++ bytes;
  now = [];
  later = seen p (length ns) (tag (closing n) 0) ∷ tags;
  q = p;
  head = none;
  tail = shut closer x.b x.r is x.head x.tail e x.place (ap (λ (y : List ℕ). closer ++ y) x.same) (ap (λ (y : List Seen). seen p (length ns) (tag (closing n) 0) ∷ y) x.all);
  place = omega arith;
  same = refl;
  all = refl;
}

rest_opening' : {p q q₀ n : ℕ} {ns r : List ℕ} {later : List Seen} (opener b : List ℕ) {now : List Seen} → length ns < 16 → IsTag (tag (opening n) 0) opener → q ≡ p + length opener
    → Items q (suc (length ns)) b now → q₀ ≡ q + length b → Tail q₀ (n ∷ ns) r later
    → Rest p ns (opener ++ (b ++ r)) (seen p (length ns) (tag (opening n) 0) ∷ (now ++ later))
rest_opening' {p} {q} {q₀} {n} {ns} opener b {now} l is e x e₀ (shut closer b₂ r₂ {q₁} {q₂} {tags} {after} closed y z e₁ e₂ eb ea) =
    let s : length (opener ++ (b ++ (closer ++ b₂))) ≡ length opener + (length b + (length closer + length b₂)) = simp length-append in
    record {
      b = opener ++ (b ++ (closer ++ b₂));
      r = r₂;
      now = seen p (length ns) (tag (opening n) 0) ∷ (now ++ (seen q₀ (length ns) (tag (closing n) 0) ∷ tags));
      later = after;
      q = q₂;
      head = block' opener b closer l is x closed y e e₀ e₁;
      tail = z;
      place = omega arith;
      same = ap (λ (y : List ℕ). opener ++ (b ++ y)) eb ∙ simp append_assoc;
      all = ap (λ (y : List Seen). seen p (length ns) (tag (opening n) 0) ∷ (now ++ y)) ea ∙ simp append_assoc;
    }

rest_opening : {p q n : ℕ} {ns bytes : List ℕ} {tags : List Seen} (opener : List ℕ) → length ns < 16 → IsTag (tag (opening n) 0) opener → q ≡ p + length opener
    → Rest q (n ∷ ns) bytes tags → Rest p ns (opener ++ bytes) (seen p (length ns) (tag (opening n) 0) ∷ tags)
rest_opening {p} {q} {n} {ns} opener l is e x =
    subst₂ (λ (y : List ℕ) (z : List Seen). Rest p ns (opener ++ y) (seen p (length ns) (tag (opening n) 0) ∷ z)) (sym x.same) (sym x.all)
    (rest_opening' opener x.b l is e x.head x.place x.tail)

items_of : {p q : ℕ} {b r : List ℕ} {now later : List Seen} → Items p 0 b now → Tail q [] r later → Items p 0 (b ++ r) (now ++ later)
items_of {p} {b = b} {now = now} x over = subst₂ (λ (y : List ℕ) (z : List Seen). Items p 0 y z) (sym (append-nil b)) (sym (append-nil now)) x

rest_items : {p : ℕ} {bytes : List ℕ} {tags : List Seen} → Rest p [] bytes tags → Items p 0 bytes tags
rest_items {p} x = subst₂ (λ (y : List ℕ) (z : List Seen). Items p 0 y z) (sym x.same) (sym x.all) (items_of x.head x.tail)

pub never : {k : ℕ} {c : Carried} → stopped k c ≡ passed → ⊥
never e = let z : ◌≡◌ {A = ℕ} 0 1 = cc in omega arith

abbrev Passes : List ℕ → ℕ → ℕ → List ℕ → Step → Type 0
Passes xs f place ns s = (turn s (walk_for f xs)).outcome ≡ passed → Rest place ns (drop place xs) (turn s (walk_for f xs)).tags

passes_end : (xs : List ℕ) (f place : ℕ) (ns : List ℕ) → length xs ≤ place → Passes xs f place ns (ends (at_end xs ns))
passes_end xs f place [] l e = subst (λ (y : List ℕ). Rest place [] y []) (sym (drop_of_length-le xs l)) (rest_end place)
passes_end xs f place (n ∷ ns) l e = absurd (never e)

-- a step, where what follows it is known
module _ (xs : List ℕ) (f place : ℕ)
    (on : (next : ℕ) (ms : List ℕ) → (walk_for f xs next ms).outcome ≡ passed → Rest next ms (drop next xs) (walk_for f xs next ms).tags) where
  passes_plain : (ns : List ℕ) (t : Tag) (next : ℕ) → Plain t.number → item_from xs place ≡ accepted t next → Passes xs f place ns (goes (seen place (length ns) t) next ns)
  passes_plain ns t next h g e =
      let i = item_found xs place t next g in
      subst (λ (y : List ℕ). Rest place ns y (seen place (length ns) t ∷ (walk_for f xs next ns).tags)) (sym i.here)
      (rest_plain i.header i.content h i.is_tag i.sized i.ends (on next ns e))

  passes_opening : (ns : List ℕ) (n v next : ℕ) → item_from xs place ≡ accepted (tag (opening n) v) next → length ns < 16 → Passes xs f place ns (goes (seen place (length ns) (tag (opening n) v)) next (n ∷ ns))
  passes_opening ns n v next g l e =
      let i = opening_found xs place n v next g in
      subst₂ (λ (y : List ℕ) (w : ℕ). Rest place ns y (seen place (length ns) (tag (opening n) w) ∷ (walk_for f xs next (n ∷ ns)).tags)) (sym i.1.here) (sym i.0)
      (rest_opening i.1.header l i.1.is_tag i.1.ends (on next (n ∷ ns) e))

  passes_innermost : (ns : List ℕ) (n v next : ℕ) → item_from xs place ≡ accepted (tag (closing n) v) next → Passes xs f place (n ∷ ns) (goes (seen place (length ns) (tag (closing n) v)) next ns)
  passes_innermost ns n v next g e =
      let i = closing_found xs place n v next g in
      subst₂ (λ (y : List ℕ) (w : ℕ). Rest place (n ∷ ns) y (seen place (length ns) (tag (closing n) w) ∷ (walk_for f xs next ns).tags)) (sym i.1.here) (sym i.0)
      (rest_closing i.1.header i.1.is_tag i.1.ends (on next ns e))

  passes_closing : (ns : List ℕ) (n v next : ℕ) → item_from xs place ≡ accepted (tag (closing n) v) next → Passes xs f place ns (closing_step place ns n (tag (closing n) v) next)
  passes_closing [] n v next g = λ e. absurd (never e)
  passes_closing (m ∷ ns) n v next g =
      either (Passes xs f place (m ∷ ns)) (eqb n m)
      (λ u. subst (λ (j : ℕ). Passes xs f place (j ∷ ns) (goes (seen place (length ns) (tag (closing n) v)) next ns)) (eqb-true n m u) (passes_innermost ns n v next g))
      (λ u e. absurd (never e))

  passes_by : (ns : List ℕ) (k : Number) (v next : ℕ) → item_from xs place ≡ accepted (tag k v) next → Passes xs f place ns (step_by place ns k (tag k v) next)
  passes_by ns (application n) v next g = passes_plain ns (tag (application n) v) next tt g
  passes_by ns (context n) v next g = passes_plain ns (tag (context n) v) next tt g
  passes_by ns (opening n) v next g =
      either (Passes xs f place ns) (ltb (length ns) 16) (λ u. passes_opening ns n v next g (ltb-true (length ns) 16 u)) (λ u e. absurd (never e))
  passes_by ns (closing n) v next g = passes_closing ns n v next g

  passes_of : (ns : List ℕ) (a : Answer Tag) → item_from xs place ≡ a → Passes xs f place ns (step_of place ns a)
  passes_of ns (accepted t next) g = passes_by ns t.number t.value next g
  passes_of ns (refused k c) g = λ e. absurd (never e)

  passes_from : (ns : List ℕ) → Passes xs f place ns (step_from xs place ns)
  unfolding step_from
  passes_from ns =
      either (Passes xs f place ns) (ltb place (length xs)) (λ u. passes_of ns (item_from xs place) refl) (λ u. passes_end xs f place ns (ltb-false place (length xs) u))

passes : (xs : List ℕ) (f place : ℕ) (ns : List ℕ) → (walk_for f xs place ns).outcome ≡ passed → Rest place ns (drop place xs) (walk_for f xs place ns).tags
unfolding walk_for
passes xs zero place ns e = absurd (never e)
passes xs (suc f) place ns e = passes_from xs f place (passes xs f) ns e

-- with no block open, it is a list of items alone
pub passing : (xs : List ℕ) (place : ℕ) → (walk_on xs place []).outcome ≡ passed → Items place 0 (drop place xs) (walk_on xs place []).tags
unfolding walk_on
passing xs place e = rest_items (passes xs (suc (length xs)) place [] e)
