-- Calls made one after the other from the first state on (document 02, K9), and what is to be known of the frames that they accepted.
-- Assumes nothing.
use Rattle.std.specs.Prelude.{◌≡◌, ℕ, ◌%◌, Bool, false, not, List, [], ◌∷◌, ◌++◌, length, take}
use Rattle.segments.specs.State.{State, first_state}
use Rattle.segments.specs.Segment.{invoke_id_of, sequence_of, choice_of, service_part, more_follow}
use Rattle.segments.specs.Taking.{TakeAnswer, more, finished, refused, takes}

-- the state that the caller goes on with: the one answered or, after a refusal, the one that it had
abbrev pub onward : State → TakeAnswer → State
onward s (more t) = t
onward s (finished t) = t
onward s (refused n c) = s

-- the frames accepted so far, the latest first: a refused one is none of them
abbrev pub counting : List ℕ → TakeAnswer → List (List ℕ) → List (List ℕ)
counting f (more t) fs = f ∷ fs
counting f (finished t) fs = f ∷ fs
counting f (refused n c) fs = fs

-- calls from the first state on, by which these frames were accepted, the latest first, and after which there are this state and this buffer.
-- Between two calls the caller may lend another buffer, or change what stands behind the bytes held, and leaves those as they were
pub data Called : List (List ℕ) → State → List ℕ → Type 0 where
  none : {xs : List ℕ} → Called [] first_state xs
  call : {fs : List (List ℕ)} {s : State} {xs : List ℕ} → Called fs s xs → (f ys : List ℕ) → take s.held ys ≡ take s.held xs
      → Called (counting f (takes s f ys).answer fs) (onward s (takes s f ys).answer) (takes s f ys).buffer

-- the parts of frames joined, in the order in which they came
abbrev pub parts_joined : List (List ℕ) → List ℕ
parts_joined [] = []
parts_joined (f ∷ earlier) = parts_joined earlier ++ service_part f

-- each frame's sequence number is how many came before it, modulo 256
abbrev pub InSequence : List (List ℕ) → Type 0
InSequence [] = Unit {0}
InSequence (f ∷ earlier) = (sequence_of f ≡ length earlier % 256) × InSequence earlier

-- all have this invoke id and this service choice
abbrev pub OfAnswer : (id choice : ℕ) → List (List ℕ) → Type 0
OfAnswer id choice [] = Unit {0}
OfAnswer id choice (f ∷ earlier) = (invoke_id_of f ≡ id) × (choice_of f ≡ choice) × OfAnswer id choice earlier

-- the latest says that none follows
abbrev pub last_came : List (List ℕ) → Bool
last_came [] = false
last_came (f ∷ earlier) = not (more_follow f)

-- no frame came behind one that says that none follows
abbrev pub NoneBehindEnd : List (List ℕ) → Type 0
NoneBehindEnd [] = Unit {0}
NoneBehindEnd (f ∷ earlier) = (last_came earlier ≡ false) × NoneBehindEnd earlier
