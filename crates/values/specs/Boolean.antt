-- A Boolean (ASHRAE 135, 20.2.3): its tag's value tells it, and it has no content.
-- Assumes nothing.
use Rattle.std.specs.Prelude.{ℕ, ◌<◌, Bool, true, false, List, [], ltb}
use Rattle.types.specs.Answer.{Answer, accepted}

-- above 0 is true
unfoldable pub boolean_under : ℕ → ℕ → Answer Bool
boolean_under v place = accepted (ltb 0 v) place

-- the same, said and not computed: under a tag of this value, these bytes are this Boolean
pub data IsBoolean : ℕ → List ℕ → Bool → Type 0 where
  is_false : IsBoolean 0 [] false
  is_true : {v : ℕ} → 0 < v → IsBoolean v [] true
