-- No string has two readings: the bytes of a list of items tell its tags, each with its place and depth, for strings of any length.
-- Assumes nothing.
use mathlib.Core.Path.{◌≡◌, refl, ◌∙◌, ap, sym, subst}
use Prim.Native.Nat.{ℕ, suc, ◌+◌}
use native.Mathlib.Omega.{arith}
use mathlib.Core.List.{List, [], ◌∷◌, ◌++◌, append_assoc}
use lib.ListN.{length, length-append}
use Rattle.types.specs.Tag.{Number, application, context, opening, closing, Tag, tag}
use Rattle.tags.specs.Header.{IsTag}
use Rattle.tags.proofs.Exactly.{tag_length}
use Rattle.tags.proofs.OneTag.{one_tag, same_front}
use Rattle.bodies.specs.Item.{content_length}
use Rattle.walk.specs.Walk.{Seen, seen}
use Rattle.walk.specs.Grammar.{Plain, Items}
use Rattle.walk.specs.Grammar.Items.{none, plain, block}

-- where a list of items is over: at the end, or at a closing tag
data Stops : List ℕ → Type 0 where
  at_end_lem : Stops []
  at_closing : {n : ℕ} (closer rest : List ℕ) → IsTag (tag (closing n) 0) closer → Stops (closer ++ rest)

-- the tag of an item does not close
abbrev Begins : Number → Type 0
Begins (application n) = Unit {0}
Begins (context n) = Unit {0}
Begins (opening n) = Unit {0}
Begins (closing n) = ⊥

plain_begins : (k : Number) → Plain k → Begins k
plain_begins (application n) h = tt
plain_begins (context n) h = tt
plain_begins (opening n) h = absurd h
plain_begins (closing n) h = absurd h

-- there no item begins
no_item : {r : List ℕ} → Stops r → {t : Tag} {h : List ℕ} → IsTag t h → Begins t.number → (w : List ℕ) → r ≡ h ++ w → ⊥
no_item at_end_lem {t} {h} is b w e = let l : 0 ≡ length h + length w = ap length e ∙ length-append h w in omega (arith, tag_length is)
no_item (at_closing closer rest c) {t} {h} is b w e = subst (λ (u : Tag). Begins u.number) (sym (one_tag c is rest w e).same_tag) b

record One (b b' r r' : List ℕ) (ts ts' : List Seen) : Type 0 where
  same_bytes : b ≡ b'
  same_rest : r ≡ r'
  same_tags : ts ≡ ts'

regroup : (a b c : List ℕ) → (a ++ b) ++ c ≡ a ++ (b ++ c)
regroup a b c = append_assoc a b c

regroup_block : (a b c d r : List ℕ) → (a ++ (b ++ (c ++ d))) ++ r ≡ a ++ (b ++ (c ++ (d ++ r)))
regroup_block a b c d r = simp append_assoc

one_seen : {p p' d d' : ℕ} {t t' : Tag} {ts ts' : List Seen} → p ≡ p' → d ≡ d' → t ≡ t' → ts ≡ ts' → seen p d t ∷ ts ≡ seen p' d' t' ∷ ts'
one_seen {p} {p'} {d} {d'} {t} {t'} {ts} a b c e =
    ap (λ (j : ℕ). seen j d t ∷ ts) a ∙ ap (λ (j : ℕ). seen p' j t ∷ ts) b ∙ ap (λ (u : Tag). seen p' d' u ∷ ts) c ∙ ap (λ (us : List Seen). seen p' d' t' ∷ us) e

one : {p p' d d' : ℕ} {b b' : List ℕ} {ts ts' : List Seen} → Items p d b ts → Items p' d' b' ts' → p ≡ p' → d ≡ d' → (r r' : List ℕ) → Stops r → Stops r' → b ++ r ≡ b' ++ r' → One b b' r r' ts ts'
one none none ep ed r r' s s' e = record { same_bytes = refl; same_rest = e; same_tags = refl }
one none (plain {t} h c {rest} f is k x) ep ed r r' s s' e = absurd (no_item s is (plain_begins t.number f) ((c ++ rest) ++ r') (e ∙ regroup h (c ++ rest) r'))
one none (block o i c {rest} l op x cl y) ep ed r r' s s' e = absurd (no_item s op tt ((i ++ (c ++ rest)) ++ r') (e ∙ regroup o (i ++ (c ++ rest)) r'))
one (plain {t} h c {rest} f is k x) none ep ed r r' s s' e = absurd (no_item s' is (plain_begins t.number f) ((c ++ rest) ++ r) (sym e ∙ regroup h (c ++ rest) r))
one (block o i c {rest} l op x cl y) none ep ed r r' s s' e = absurd (no_item s' op tt ((i ++ (c ++ rest)) ++ r) (sym e ∙ regroup o (i ++ (c ++ rest)) r))
one (plain {t} h c {rest} f is k x) (block o i b {rest = rest'} l op x' cl y) ep ed r r' s s' e =
    let w = one_tag is op ((c ++ rest) ++ r) ((i ++ (b ++ rest')) ++ r') (sym (regroup h (c ++ rest) r) ∙ e ∙ regroup o (i ++ (b ++ rest')) r') in
    absurd (subst (λ (u : Tag). Plain u.number) w.same_tag f)
one (block o i b {rest = rest'} l op x' cl y) (plain {t} h c {rest} f is k x) ep ed r r' s s' e =
    let w = one_tag op is ((i ++ (b ++ rest')) ++ r) ((c ++ rest) ++ r') (sym (regroup o (i ++ (b ++ rest')) r) ∙ e ∙ regroup h (c ++ rest) r') in
    absurd (subst (λ (u : Tag). Plain u.number) (sym w.same_tag) f)
one (plain {place = p} {depth = d} {t} h c {rest} f is k x) (plain {place = p'} {depth = d'} {t = t'} h' c' {rest = rest'} f' is' k' x') ep ed r r' s s' e =
    let w = one_tag is is' ((c ++ rest) ++ r) ((c' ++ rest') ++ r') (sym (regroup h (c ++ rest) r) ∙ e ∙ regroup h' (c' ++ rest') r') in
    let v = same_front c (rest ++ r) c' (rest' ++ r') (k ∙ ap (λ (u : Tag). content_length u) w.same_tag ∙ sym k') (sym (regroup c rest r) ∙ w.same_rest ∙ regroup c' rest' r') in
    let q : p + length h + length c ≡ p' + length h' + length c' = omega (arith, ap length w.same_bytes, ap length v.0) in
    let u = one x x' q ed r r' s s' v.1 in
    record {
      same_bytes = ap (λ (y : List ℕ). y ++ (c ++ rest)) w.same_bytes ∙ ap (λ (y : List ℕ). h' ++ (y ++ rest)) v.0 ∙ ap (λ (y : List ℕ). h' ++ (c' ++ y)) u.same_bytes;
      same_rest = u.same_rest;
      same_tags = one_seen ep ed w.same_tag u.same_tags;
    }
one (block {place = p} {depth = d} {n} o i c {rest} {tags = ts} l op x cl y) (block {place = p'} {depth = d'} o' i' c' {rest = rest'} {inner = inner'} l' op' x' cl' y') ep ed r r' s s' e =
    let w = one_tag op op' (i ++ (c ++ (rest ++ r))) (i' ++ (c' ++ (rest' ++ r'))) (sym (regroup_block o i c rest r) ∙ e ∙ regroup_block o' i' c' rest' r') in
    let q₁ : p + length o ≡ p' + length o' = omega (arith, ap length w.same_bytes) in
    let v = one x x' q₁ (ap suc ed) (c ++ (rest ++ r)) (c' ++ (rest' ++ r')) (at_closing c (rest ++ r) cl) (at_closing c' (rest' ++ r') cl') w.same_rest in
    let z = one_tag cl cl' (rest ++ r) (rest' ++ r') v.same_rest in
    let q₂ : p + length o + length i ≡ p' + length o' + length i' = omega (arith, ap length v.same_bytes) in
    let q₃ : p + length o + length i + length c ≡ p' + length o' + length i' + length c' = omega (arith, ap length z.same_bytes) in
    let u = one y y' q₃ ed r r' s s' z.same_rest in
    record {
      same_bytes =
          ap (λ (y : List ℕ). y ++ (i ++ (c ++ rest))) w.same_bytes ∙ ap (λ (y : List ℕ). o' ++ (y ++ (c ++ rest))) v.same_bytes
          ∙ ap (λ (y : List ℕ). o' ++ (i' ++ (y ++ rest))) z.same_bytes ∙ ap (λ (y : List ℕ). o' ++ (i' ++ (c' ++ y))) u.same_bytes;
      same_rest = u.same_rest;
      same_tags =
          one_seen ep ed w.same_tag
          (ap (λ (us : List Seen). us ++ (seen (p + length o + length i) d (tag (closing n) 0) ∷ ts)) v.same_tags
          ∙ ap (λ (us : List Seen). inner' ++ us) (one_seen q₂ ed z.same_tag u.same_tags));
    }

-- two readings of the same bytes, at the same place and depth, have the same tags
pub one_reading : {place depth : ℕ} {bytes : List ℕ} {tags tags' : List Seen} → Items place depth bytes tags → Items place depth bytes tags' → tags ≡ tags'
one_reading x y = (one x y refl refl [] [] at_end_lem at_end_lem refl).same_tags
