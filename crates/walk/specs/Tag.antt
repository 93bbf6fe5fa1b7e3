-- Tags as the strict walk takes them (document 01, "Bodies"): each with its content, and with the number of blocks that are open.
-- Assumes nothing.
use Rattle.std.specs.Prelude.{ℕ, ◌+◌, ◌-◌, List, length, ltb, eqb, Result, Ok, Err}
use Rattle.types.specs.Choice.{if}
use Rattle.types.specs.Tag.{Number, application, context, opening, closing, Tag, tag_of}
use Rattle.types.specs.Refusal.{amount}
use Rattle.types.specs.Answer.{Answer, accepted, refused, refusal, then}
use Rattle.tags.specs.Reading.{tag_from}
use Rattle.bodies.specs.Item.{content_length}
use Rattle.types.specs.declared.refusal.Refusal.{Refusal}
use Rattle.walk.specs.declared.tag.Accepted.{Accepted}

-- the tag of the item at a place, with the place after its content, which is to end inside the buffer: else 3, with the place where it should end
unfoldable pub item_from : List ℕ → (place : ℕ) → Answer Tag
item_from xs place =
    then (tag_from xs place) (λ t next.
    if (ltb (length xs) (next + content_length t)) (refused 3 (amount (next + content_length t)))
    (accepted t (next + content_length t)))

-- a tag, its depth (the blocks open around it), and the blocks open after it
pub record Standing : Type 0 where
  pub tag : Tag
  pub depth : ℕ
  pub blocks : ℕ

abbrev pub standing : Tag → (depth blocks : ℕ) → Standing
standing t depth blocks = record { tag = t; depth = depth; blocks = blocks }

-- where so many blocks are open, by the tag's class: a seventeenth block gives 16, a closing with no block open 15, each with the tag's place
abbrev pub stands_by : (place blocks : ℕ) → Number → Tag → (next : ℕ) → Answer Standing
stands_by place blocks (application n) t next = accepted (standing t blocks blocks) next
stands_by place blocks (context n) t next = accepted (standing t blocks blocks) next
stands_by place blocks (opening n) t next = if (ltb blocks 16) (accepted (standing t blocks (blocks + 1)) next) (refused 16 (amount place))
stands_by place blocks (closing n) t next = if (eqb blocks 0) (refused 15 (amount place)) (accepted (standing t (blocks - 1) (blocks - 1)) next)

unfoldable pub stands_at : (place blocks : ℕ) → Tag → (next : ℕ) → Answer Standing
stands_at place blocks t next = stands_by place blocks t.number t next

-- the tag at a place where so many blocks are open: 3 first, then 15 or 16
unfoldable pub tag_at : List ℕ → (place blocks : ℕ) → Answer Standing
tag_at xs place blocks = then (item_from xs place) (λ t next. stands_at place blocks t next)

abbrev pub paper_tag_at : Result Accepted Refusal → Answer Standing
paper_tag_at (Ok a) = accepted (standing (tag_of a.tag) a.depth a.blocks) a.next
paper_tag_at (Err r) = refusal r
