-- The inputs that K9 and its readings name, by one statement over their list, which antt computes.
-- Assumes nothing.
use Rattle.std.proofs.Common.{◌≡◌, ℕ, true, false, List, [], ◌∷◌, map, refl}
use Rattle.types.specs.Refusal.{amount}
use Rattle.segments.specs.State.{State, state, first_state}
use Rattle.segments.specs.Taking.{more, finished, refused, After, after, as_due, answer_then, joining, takes}

-- a state, a frame and a lent buffer
pub record Asked : Type 0 where
  pub state : State
  pub frame : List ℕ
  pub buffer : List ℕ

abbrev pub ask : State → List ℕ → List ℕ → Asked
ask s f xs = record { state = s; frame = f; buffer = xs }

-- two bytes held of answer 1 to service 12, and sequence number 1 due
abbrev pub two : State
two = state true false 1 12 1 2

-- the last frame as the first; a part of no bytes; too few bytes, of another type too; another type; bit 3 clear; the low bits set; a choice and a window at fault;
-- windows 0, 128 and 127; a first sequence number of 1; another choice; no room; more held than there is; after 255 comes 0; finished, and too short a frame
abbrev pub asked : List Asked
asked =
    ask first_state (0x38 ∷ 0x01 ∷ 0x00 ∷ 0x04 ∷ 0x0C ∷ 0x78 ∷ []) (0xAA ∷ [])
    ∷ ask first_state (0x3C ∷ 0x01 ∷ 0x00 ∷ 0x04 ∷ 0x0C ∷ []) []
    ∷ ask first_state (0x20 ∷ []) []
    ∷ ask first_state (0x30 ∷ 0x01 ∷ 0x0C ∷ []) []
    ∷ ask first_state (0x30 ∷ 0x01 ∷ 0x0C ∷ 0x0C ∷ 0x0C ∷ []) []
    ∷ ask first_state (0x34 ∷ 0x01 ∷ 0x00 ∷ 0x04 ∷ 0x0C ∷ []) []
    ∷ ask first_state (0x3F ∷ 0x01 ∷ 0x00 ∷ 0x04 ∷ 0x0C ∷ []) []
    ∷ ask first_state (0x38 ∷ 0x01 ∷ 0x00 ∷ 0x00 ∷ 0x22 ∷ []) []
    ∷ ask first_state (0x38 ∷ 0x01 ∷ 0x00 ∷ 0x00 ∷ 0x0C ∷ []) []
    ∷ ask first_state (0x38 ∷ 0x01 ∷ 0x00 ∷ 0x80 ∷ 0x0C ∷ []) []
    ∷ ask first_state (0x3B ∷ 0x01 ∷ 0x00 ∷ 0x7F ∷ 0x0C ∷ []) []
    ∷ ask first_state (0x38 ∷ 0x01 ∷ 0x01 ∷ 0x04 ∷ 0x0C ∷ []) []
    ∷ ask two (0x38 ∷ 0x01 ∷ 0x01 ∷ 0x04 ∷ 0x0D ∷ []) (1 ∷ 2 ∷ [])
    ∷ ask two (0x38 ∷ 0x01 ∷ 0x01 ∷ 0x04 ∷ 0x0C ∷ 3 ∷ 4 ∷ []) (1 ∷ 2 ∷ 0xAA ∷ [])
    ∷ ask two (0x38 ∷ 0x01 ∷ 0x01 ∷ 0x04 ∷ 0x0C ∷ []) (1 ∷ [])
    ∷ ask (state true false 1 12 255 0) (0x3C ∷ 0x01 ∷ 0xFF ∷ 0x04 ∷ 0x0C ∷ []) []
    ∷ ask (state true true 1 12 1 0) (0x38 ∷ []) []
    ∷ []

abbrev pub answers : List After
answers =
    after (finished (state true true 1 12 1 1)) (0x78 ∷ [])
    ∷ after (more (state true false 1 12 1 0)) []
    ∷ after (refused 3 (amount 1)) []
    ∷ after (refused 3 (amount 3)) []
    ∷ after (refused 17 (amount 48)) []
    ∷ after (refused 17 (amount 52)) []
    ∷ after (more (state true false 1 12 1 0)) []
    ∷ after (refused 11 (amount 34)) []
    ∷ after (refused 24 (amount 0)) []
    ∷ after (refused 24 (amount 0)) []
    ∷ after (finished (state true true 1 12 1 0)) []
    ∷ after (refused 26 (amount 0)) []
    ∷ after (refused 25 (amount 0)) (1 ∷ 2 ∷ [])
    ∷ after (refused 13 (amount 2)) (1 ∷ 2 ∷ 0xAA ∷ [])
    ∷ after (refused 13 (amount 0)) (1 ∷ [])
    ∷ after (more (state true false 1 12 0 0)) []
    ∷ after (refused 27 (amount 0)) []
    ∷ []

pub taken_so : map (λ (a : Asked). takes a.state a.frame a.buffer) asked ≡ answers
unfolding takes as_due joining answer_then
taken_so = refl
