-- What the count that comes with an answer counts: the tags wholly read after the opening (document 01, "Bodies").
-- Assumes nothing.
use Rattle.std.specs.Prelude.{ℕ, suc, ◌+◌, ◌-◌, ◌<◌, ◌≡◌, List, length}
use Rattle.types.specs.Tag.{opening, closing, Tag, tag}
use Rattle.types.specs.Refusal.{Carried, amount}
use Rattle.types.specs.Answer.{accepted, refused}
use Rattle.tags.specs.Reading.{tag_from}
use Rattle.bodies.specs.Item.{content_length}
use Rattle.bodies.specs.Scan.{Counted, counted, handed}

-- so many tags are read from one place on, each behind the content of the one before, up to another place, which may be past the end
pub data TagsRead (xs : List ℕ) : (from to read : ℕ) → Type 0 where
  nothing : {place : ℕ} → TagsRead xs place place 0
  another : {from next to read : ℕ} {t : Tag}
      → tag_from xs from ≡ accepted t next
      → TagsRead xs (next + content_length t) to read
      → TagsRead xs from to (suc read)

-- the opening of n is read at a place, and ends at the next
abbrev pub OpeningRead : List ℕ → (place n next : ℕ) → Type 0
OpeningRead xs place n next = tag_from xs place ≡ accepted (tag (opening n) 0) next

-- the closing of n
abbrev pub ClosingRead : List ℕ → (place n next : ℕ) → Type 0
ClosingRead xs place n next = tag_from xs place ≡ accepted (tag (closing n) 0) next

-- no tag is read at a place, and 3 carries this: the place is past the end, or the tag's bytes run out
pub data NoTagRead (xs : List ℕ) (place : ℕ) : Carried → Type 0 where
  past : length xs < place → NoTagRead xs place (amount (length xs))
  cut : {c : Carried} → tag_from xs place ≡ refused 3 c → NoTagRead xs place c

-- an answer with its count, where an opening of n ends at a place:
--   a body, with the tags read up to its closing tag, and that one
--   14, with the tags read, as many as the allowance
--   3, with the tags read up to where no tag is
pub data Counts (allowance : ℕ) (xs : List ℕ) (n place : ℕ) : Counted → Type 0 where
  with_closing : {end next read : ℕ}
      → TagsRead xs place end read → ClosingRead xs end n next
      → Counts allowance xs n place (handed place (end - place) n next (read + 1))
  spent : {end : ℕ}
      → TagsRead xs place end allowance
      → Counts allowance xs n place (counted (refused 14 (amount allowance)) allowance)
  run_out : {end read : ℕ} {c : Carried}
      → TagsRead xs place end read → NoTagRead xs end c
      → Counts allowance xs n place (counted (refused 3 c) read)

-- the count of an answer: as above, where an opening of a number that is wanted is read at the place; and 0 where none is
pub data CountIs (wanted : ℕ → Type 0) (allowance : ℕ) (xs : List ℕ) (place : ℕ) (r : Counted) : Type 0 where
  behind_opening : {n next : ℕ}
      → wanted n → OpeningRead xs place n next → Counts allowance xs n next r
      → CountIs wanted allowance xs place r
  no_opening : ((n next : ℕ) → wanted n → OpeningRead xs place n next → ⊥) → r.tags ≡ 0
      → CountIs wanted allowance xs place r
