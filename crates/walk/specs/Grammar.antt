-- The grammar of the strict walk (document 01, "Bodies"; ASHRAE 135, 20.2.1.3.2 for the two tags of a block), on bytes alone. Nothing here walks.
-- Assumes nothing.
use Rattle.std.specs.Prelude.{ℕ, suc, ◌+◌, ◌<◌, ◌≡◌, List, [], ◌∷◌, ◌++◌, length}
use Rattle.types.specs.Tag.{Number, application, context, opening, closing, Tag, tag}
use Rattle.tags.specs.Header.{IsTag}
use Rattle.bodies.specs.Item.{content_length}
use Rattle.walk.specs.Walk.{Seen, seen}

-- the tag of a plain item neither opens nor closes
abbrev pub Plain : Number → Type 0
Plain (application n) = Unit {0}
Plain (context n) = Unit {0}
Plain (opening n) = ⊥
Plain (closing n) = ⊥

-- bytes that are a list of items, the first at a place, with a depth (the blocks open around them), and the list of their tags. It is
--   empty; or
--   a plain item (the bytes of its tag, and as much content as the tag says), and more items; or
--   a block (an opening tag, a list of items one deeper, and a closing tag of the same number), where fewer than sixteen blocks are open around it, and more items.
-- (`a ++ b` is a and then b, `t ∷ ts` is t and then ts, `[]` is nothing; what stands before an arrow is asked, and the last line is what then is one)
pub data Items : (place depth : ℕ) → (bytes : List ℕ) → (tags : List Seen) → Type 0 where
  none : {place depth : ℕ} → Items place depth [] []
  plain : {place depth : ℕ} {t : Tag} (header content : List ℕ) {rest : List ℕ} {tags : List Seen}
      → Plain t.number → IsTag t header → length content ≡ content_length t
      → Items (place + length header + length content) depth rest tags
      → Items place depth (header ++ (content ++ rest)) (seen place depth t ∷ tags)
  block : {place depth n : ℕ} (opener inside closer : List ℕ) {rest : List ℕ} {inner tags : List Seen}
      → depth < 16 → IsTag (tag (opening n) 0) opener
      → Items (place + length opener) (suc depth) inside inner
      → IsTag (tag (closing n) 0) closer
      → Items (place + length opener + length inside + length closer) depth rest tags
      → Items place depth (opener ++ (inside ++ (closer ++ rest)))
      (seen place depth (tag (opening n) 0) ∷ (inner ++ (seen (place + length opener + length inside) depth (tag (closing n) 0) ∷ tags)))
