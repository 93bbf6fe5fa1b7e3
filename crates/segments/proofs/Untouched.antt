-- What a call leaves alone: every byte where the frame is refused, and every byte but those of its part where it is accepted.
-- Assumes nothing.
use Rattle.std.proofs.Common.{◌≡◌, ℕ, ◌+◌, List, length, refl, arith}
use Rattle.types.specs.Refusal.{Carried}
use Rattle.types.specs.Writing.{over}
use Rattle.types.proofs.Choices.{either}
use Rattle.numbers.proofs.Untouched.{Around, around}
use Rattle.segments.specs.State.{State}
use Rattle.segments.specs.Segment.{service_part}
use Rattle.segments.specs.Taking.{TakeAnswer, refused, takes}
use Rattle.segments.proofs.Exactly.{segment_in, taken_cases}

module _ (s : State) (f xs : List ℕ) where
  -- a refused frame changes no byte
  pub refused_untouched : (n : ℕ) (c : Carried) → (takes s f xs).answer ≡ refused n c → (takes s f xs).buffer ≡ xs
  refused_untouched n c =
      taken_cases s f xs (λ a. a.answer ≡ refused n c → a.buffer ≡ xs)
      (λ m d e. refl)
      (λ a. either (λ (t : TakeAnswer). t ≡ refused n c → over xs s.held (service_part f) ≡ xs) (segment_in f).follow
      (λ b e. let z : ◌≡◌ {A = ℕ} 0 1 = cc in absurd (omega arith))
      (λ b e. let z : ◌≡◌ {A = ℕ} 0 1 = cc in absurd (omega arith)))

  -- no call changes a byte before the place where the part goes, nor one from behind it on
  pub outside_untouched : Around xs s.held (s.held + length (service_part f)) (takes s f xs).buffer
  outside_untouched =
      taken_cases s f xs (λ a. Around xs s.held (s.held + length (service_part f)) a.buffer)
      (λ n c. (refl, refl))
      (λ a. around (service_part f) xs s.held (s.held + length (service_part f)) _ (record { small = a.short; room = a.room; ends = refl; buffer = refl }))
