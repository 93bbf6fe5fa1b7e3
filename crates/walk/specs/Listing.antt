-- The tags that a program lists by one call for each, with a place and the number of open blocks alone.
-- Assumes nothing.
use Rattle.std.specs.Prelude.{ℕ, zero, suc, List, [], ◌∷◌}
use Rattle.types.specs.Answer.{Answer, accepted, refused}
use Rattle.walk.specs.Tag.{Standing, tag_at}
use Rattle.walk.specs.Walk.{Seen, seen}

-- a tag, and those from the place after it on, with the blocks then open; none after a refusal
abbrev pub listed_by : (place : ℕ) → Answer Standing → ((place blocks : ℕ) → List Seen) → List Seen
listed_by place (accepted s next) on = seen place s.depth s.tag ∷ on next s.blocks
listed_by place (refused n c) on = []

-- so many tags from a place on, where so many blocks are open
unfoldable pub listed : (count : ℕ) → List ℕ → (place blocks : ℕ) → List Seen
listed zero xs place blocks = []
listed (suc count) xs place blocks = listed_by place (tag_at xs place blocks) (listed count xs)
