-- What is answered where there is a body (document 01, "Bodies").
-- Assumes nothing.
use Rattle.std.specs.Prelude.{ℕ, ◌+◌, List, length}
use Rattle.bodies.specs.Item.{Item}
use Rattle.bodies.specs.Body.{BodyAt}
use Rattle.bodies.specs.Scan.{Counted, handed}

-- the view starts after the opening tag, and has its own length; the number; the next place is after the closing tag; the count is the items plus one
abbrev pub given : {xs : List ℕ} {place n : ℕ} {view : List ℕ} {items : List Item} → BodyAt xs place n view items → Counted
given {xs} {place} {n} {view} {items} b =
    handed (place + length b.opener) (length view) n (place + length b.opener + length view + length b.closer) (length items + 1)
