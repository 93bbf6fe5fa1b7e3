-- The blocks of a walk, and the bodies that `get_tagged_body` hands over at their opening tags.
-- Assumes nothing.
use Rattle.std.specs.Prelude.{ℕ, suc, ◌+◌, ◌<◌, ◌≡◌, List, [], ◌∷◌, ◌++◌, map, length}
use Rattle.types.specs.Tag.{Number, application, context, opening, closing, tag}
use Rattle.bodies.specs.Item.{Item}
use Rattle.bodies.specs.Body.{BodyAt}
use Rattle.bodies.specs.Scan.{body_from}
use Rattle.bodies.specs.Given.{given}
use Rattle.walk.specs.Walk.{Seen, seen}
use Rattle.walk.specs.Grammar.{Items}

-- a block of number n with its opening tag at a place, and the tags that come after that: first those of its inside, which is a list of items one deeper, then its closing tag.
-- Its inside is the body there, with the same tags, and that body is what `get_tagged_body` hands over, with any allowance for its items and the closing tag
pub record Block (xs : List ℕ) (place depth n : ℕ) (later : List Seen) : Type 0 where
  pub inside : List ℕ
  pub items : List Item
  pub body : BodyAt xs place n inside items
  pub inner : List Seen
  pub after : List Seen
  pub list : Items (place + length body.opener) (suc depth) inside inner
  pub follows : later ≡ inner ++ (seen (place + length body.opener + length inside) depth (tag (closing n) 0) ∷ after)
  pub same_tags : map (λ (i : Item). i.tag) items ≡ map (λ (t : Seen). t.tag) inner
  pub hands_over : (allowance : ℕ) → length items < allowance → body_from allowance xs place ≡ given body

abbrev pub BlockIf : List ℕ → Number → (place depth : ℕ) → (later : List Seen) → Type 0
BlockIf xs (opening n) place depth later = Block xs place depth n later
BlockIf xs (closing n) place depth later = Unit {0}
BlockIf xs (application n) place depth later = Unit {0}
BlockIf xs (context n) place depth later = Unit {0}

-- every opening tag in a list of tags opens such a block
abbrev pub Blocks : List ℕ → List Seen → Type 0
Blocks xs [] = Unit {0}
Blocks xs (t ∷ later) = BlockIf xs t.tag.number t.place t.depth later × Blocks xs later
