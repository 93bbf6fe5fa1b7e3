-- A list of items of the grammar is walked whole, wherever it stands and whatever blocks are open around it.
-- Assumes nothing.
use mathlib.Core.Path.{◌≡◌, refl, ◌∙◌, ap, sym}
use Prim.Native.Nat.{ℕ, suc, ◌+◌, ◌<◌, ◌≤◌}
use native.Mathlib.Omega.{arith}
use mathlib.Core.List.{List, [], ◌∷◌, ◌++◌, append_assoc}
use lib.ListN.{length, drop, length-append}
use borrow.Author.Tests.{lt-ltb, eq-eqb}
use Rattle.types.specs.Tag.{Number, application, context, opening, closing, Tag, tag}
use Rattle.types.specs.Answer.{accepted}
use Rattle.walk.specs.Tag.{item_from}
use Rattle.walk.specs.Walk.{Seen, seen, Walk, walked, more, Step, step_by, step_of, turn, walk_on}
use Rattle.walk.specs.Grammar.{Plain, Items}
use Rattle.walk.specs.Grammar.Items.{none, plain, block}
use Rattle.numbers.proofs.Found.{behind}
use Rattle.walk.proofs.Found.{item_read, item_moves_on}
use Rattle.walk.proofs.Unfolds.{inside_step, unfolds}

-- tags in front of a walk
abbrev pub mores : List Seen → Walk → Walk
mores ts w = walked (ts ++ w.tags) w.outcome

-- the walk at an item
walk_item : (xs : List ℕ) (place : ℕ) (t : Tag) (next : ℕ) → item_from xs place ≡ accepted t next → (ns : List ℕ) → walk_on xs place ns ≡ turn (step_by place ns t.number t next) (walk_on xs)
walk_item xs place t next g ns =
    let w = item_moves_on xs place t next g in
    unfolds xs place ns ∙ ap (λ (s : Step). turn s (walk_on xs)) (inside_step xs place ns (omega arith) ∙ ap (step_of place ns) g)

plain_turn : (on : ℕ → List ℕ → Walk) (place : ℕ) (ns : List ℕ) (k : Number) (t : Tag) (next : ℕ) → Plain k → turn (step_by place ns k t next) on ≡ more (seen place (length ns) t) (on next ns)
plain_turn on place ns (application n) t next h = refl
plain_turn on place ns (context n) t next h = refl
plain_turn on place ns (opening n) t next h = absurd h
plain_turn on place ns (closing n) t next h = absurd h

walk_plain : (xs : List ℕ) (place : ℕ) (t : Tag) (next : ℕ) → item_from xs place ≡ accepted t next → Plain t.number → (ns : List ℕ) → walk_on xs place ns ≡ more (seen place (length ns) t) (walk_on xs next ns)
walk_plain xs place t next g h ns = walk_item xs place t next g ns ∙ plain_turn (walk_on xs) place ns t.number t next h

walk_opening : (xs : List ℕ) (place n next : ℕ) → item_from xs place ≡ accepted (tag (opening n) 0) next → (ns : List ℕ) → length ns < 16
    → walk_on xs place ns ≡ more (seen place (length ns) (tag (opening n) 0)) (walk_on xs next (n ∷ ns))
walk_opening xs place n next g ns l = walk_item xs place (tag (opening n) 0) next g ns ∙ simp (lt-ltb (length ns) 16 l)

walk_closing : (xs : List ℕ) (place n next : ℕ) → item_from xs place ≡ accepted (tag (closing n) 0) next → (ns : List ℕ)
    → walk_on xs place (n ∷ ns) ≡ more (seen place (length ns) (tag (closing n) 0)) (walk_on xs next ns)
walk_closing xs place n next g ns = walk_item xs place (tag (closing n) 0) next g (n ∷ ns) ∙ simp (eq-eqb n n refl)

module _ (xs : List ℕ) (small : length xs ≤ 65535) where
  pub along : {place depth : ℕ} {bytes : List ℕ} {tags : List Seen} → Items place depth bytes tags → (rest : List ℕ) → drop place xs ≡ bytes ++ rest → (ns : List ℕ) → length ns ≡ depth
      → walk_on xs place ns ≡ mores tags (walk_on xs (place + length bytes) ns)
  along (none {place}) r e ns z = ap (λ (j : ℕ). walk_on xs j ns) (let y : place ≡ place + 0 = omega arith in y)
  along (plain {place} {depth} {t} header content {rest} {tags} h is sized x) r e ns z =
      let here : drop place xs ≡ header ++ (content ++ (rest ++ r)) = e ∙ simp append_assoc in
      let w = item_read xs place t header content (rest ++ r) small here is sized in
      let d : drop (place + length header + length content) xs ≡ rest ++ r = behind xs (place + length header) content (rest ++ r) (behind xs place header (content ++ (rest ++ r)) here) in
      let s : length (header ++ (content ++ rest)) ≡ length header + (length content + length rest) = simp length-append in
      walk_plain xs place t (place + length header + length content) w h ns
      ∙ ap (λ (j : ℕ). more (seen place j t) (walk_on xs (place + length header + length content) ns)) z
      ∙ ap (more (seen place depth t))
      (along x r d ns z ∙ ap (λ (j : ℕ). mores tags (walk_on xs j ns)) (let y : place + length header + length content + length rest ≡ place + length (header ++ (content ++ rest)) = omega arith in y))
  along (block {place} {depth} {n} opener inside closer {rest} {inner} {tags} l opened x closed y) r e ns z =
      let here : drop place xs ≡ opener ++ (inside ++ (closer ++ (rest ++ r))) = e ∙ simp append_assoc in
      let d₁ : drop (place + length opener) xs ≡ inside ++ (closer ++ (rest ++ r)) = behind xs place opener (inside ++ (closer ++ (rest ++ r))) here in
      let d₂ : drop (place + length opener + length inside) xs ≡ closer ++ (rest ++ r) = behind xs (place + length opener) inside (closer ++ (rest ++ r)) d₁ in
      let d₃ : drop (place + length opener + length inside + length closer) xs ≡ rest ++ r = behind xs (place + length opener + length inside) closer (rest ++ r) d₂ in
      let w₁ : item_from xs place ≡ accepted (tag (opening n) 0) (place + length opener) =
      item_read xs place (tag (opening n) 0) opener [] (inside ++ (closer ++ (rest ++ r))) small here opened refl ∙ ap (accepted (tag (opening n) 0)) (let v : place + length opener + 0 ≡ place + length opener = omega arith in v) in
      let w₂ : item_from xs (place + length opener + length inside) ≡ accepted (tag (closing n) 0) (place + length opener + length inside + length closer) =
      item_read xs (place + length opener + length inside) (tag (closing n) 0) closer [] (rest ++ r) small d₂ closed refl
      ∙ ap (accepted (tag (closing n) 0)) (let v : place + length opener + length inside + length closer + 0 ≡ place + length opener + length inside + length closer = omega arith in v) in
      let s : length (opener ++ (inside ++ (closer ++ rest))) ≡ length opener + (length inside + (length closer + length rest)) = simp length-append in
      let o : Seen = seen place depth (tag (opening n) 0) in
      let c : Seen = seen (place + length opener + length inside) depth (tag (closing n) 0) in
      walk_opening xs place n (place + length opener) w₁ ns (omega arith)
      ∙ ap (λ (j : ℕ). more (seen place j (tag (opening n) 0)) (walk_on xs (place + length opener) (n ∷ ns))) z
      ∙ ap (more o) (along x (closer ++ (rest ++ r)) d₁ (n ∷ ns) (ap suc z)
      ∙ ap (mores inner)
      (walk_closing xs (place + length opener + length inside) n (place + length opener + length inside + length closer) w₂ ns
      ∙ ap (λ (j : ℕ). more (seen (place + length opener + length inside) j (tag (closing n) 0)) (walk_on xs (place + length opener + length inside + length closer) ns)) z
      ∙ ap (more c) (along y r d₃ ns z
      ∙ ap (λ (j : ℕ). mores tags (walk_on xs j ns)) (let v : place + length opener + length inside + length closer + length rest ≡ place + length (opener ++ (inside ++ (closer ++ rest))) = omega arith in v))))
      ∙ ap (λ (ts : List Seen). walked (o ∷ ts) (walk_on xs (place + length (opener ++ (inside ++ (closer ++ rest)))) ns).outcome)
      (sym (append_assoc inner (c ∷ tags) (walk_on xs (place + length (opener ++ (inside ++ (closer ++ rest)))) ns).tags))
