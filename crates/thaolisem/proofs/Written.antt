-- What numbers name of an integer is written as tags writes it.
-- Assumes nothing.
use mathlib.Core.Path.{◌≡◌, refl}
use Prim.Native.Nat.{ℕ}
use mathlib.Core.List.{List}
use Rattle.types.specs.Tag.{application, context}
use Rattle.tags.specs.Item.{item_to}
use Rattle.thaolisem.specs.Named.{integer_named_to}

-- an integer of class 1 is written under the application tag of its kind, and one of class 2 under the context tag, as tags writes it: what is known of that write is known of this one
pub integer_written : (kind k : ℕ) (content xs : List ℕ) (place : ℕ) → (integer_named_to kind 1 k content xs place ≡ item_to (application kind) content xs place) × (integer_named_to kind 2 k content xs place ≡ item_to (context k) content xs place)
integer_written kind k content xs place = (refl, refl)
