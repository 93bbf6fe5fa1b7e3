-- What the writer of a header tests before the room, and what is answered and left then.
-- Assumes nothing.
use mathlib.Core.Path.{◌≡◌, refl, ◌∙◌, ap}
use mathlib.Core.Bool.{Bool, true, false}
use Prim.Native.Nat.{ℕ, ◌+◌, ◌≤◌}
use native.Mathlib.Omega.{arith}
use mathlib.Core.List.{List}
use lib.Dec.{ltb}
use lib.ListN.{length}
use borrow.Author.Tests.{le-ltb, ltb-false}
use Rattle.std.specs.declared.result.Result.{Result}
use Rattle.std.specs.declared.result.Result.TheVariants.{Ok, Err}
use Rattle.types.specs.Choice.{if}
use Rattle.types.specs.Refusal.{Carried, amount, table}
use Rattle.types.specs.Answer.{Answer, accepted, refused}
use Rattle.types.specs.Writing.{Writable, can, cannot, left, write_answer, writing, paper_written}
use Rattle.types.specs.declared.refusal.Refusal.{Refusal}
use Rattle.types.specs.declared.refusal.Refusal.TheVariants.{ServiceChoiceTooLarge}
use Rattle.numbers.proofs.Inside.{room_inside}
use Rattle.headers.specs.Header.{Header}
use Rattle.headers.specs.Writing.{choice_writable, both, writable, header_to}

-- a choice that is tested
abbrev pub tested : ℕ → Result ℕ Refusal
tested c = if (ltb 33 c) (Err (ServiceChoiceTooLarge c)) (Ok c)

-- is refused as one that cannot be written
choice_refused : (c : ℕ) (r : Refusal) → Err r ≡ tested c → choice_writable c ≡ cannot (table r).number (table r).carries
choice_refused c r = go (ltb 33 c)
  where
    go : (b : Bool) → ◌≡◌ {A = Result ℕ Refusal} (Err r) (if b (Err (ServiceChoiceTooLarge c)) (Ok c)) → if b (cannot 11 (amount c)) can ≡ cannot (table r).number (table r).carries
    go true e = let f : ServiceChoiceTooLarge c ≡ r = cc in ap (λ (x : Refusal). cannot (table x).number (table x).carries) f
    go false e = cc

-- or is itself, and goes to 33
pub choice_passed : (c d : ℕ) → Ok d ≡ tested c → (d ≡ c) × (c ≤ 33)
choice_passed c d = go (ltb 33 c) refl
  where
    go : (b : Bool) → ltb 33 c ≡ b → ◌≡◌ {A = Result ℕ Refusal} (Ok d) (if b (Err (ServiceChoiceTooLarge c)) (Ok c)) → (d ≡ c) × (c ≤ 33)
    go true f e = cc
    go false f e = (cc, ltb-false 33 c f)

module _ (h : Header) (xs : List ℕ) (place : ℕ) where
  refused_first : (a : Bool) → ltb 65535 (length xs) ≡ a → (b : Bool) → ltb (length xs) place ≡ b → (n : ℕ) (k : Carried) → refused n k ≡ write_answer 0 can 0 xs place → left (refused n k) xs ≡ header_to h xs place
  unfolding header_to writing write_answer
  refused_first true f b g n k e = simp f (ap (λ (x : Answer (Unit {0})). left x xs) (simp f at e))
  refused_first false f true g n k e = simp (f, g) (ap (λ (x : Answer (Unit {0})). left x xs) (simp (f, g) at e))
  refused_first false f false g n k e =
      let i : place + 0 ≤ length xs = let l = ltb-false (length xs) place g in omega arith in
      let d : refused n k ≡ accepted tt (place + 0) = simp (f, g, le-ltb (length xs) (place + 0) i) at e in
      cc

  -- where the buffer is too long or the place past its end, that is the answer
  pub untested_refused : (n : ℕ) (k : Carried) → refused n k ≡ write_answer 0 can 0 xs place → left (refused n k) xs ≡ header_to h xs place
  untested_refused = refused_first (ltb 65535 (length xs)) refl (ltb (length xs) place) refl

  -- where they are not, what cannot be written is refused
  pub unwritable_refused : (end n : ℕ) (k : Carried) → accepted tt end ≡ write_answer 0 can 0 xs place → writable h.fields ≡ cannot n k → left (refused n k) xs ≡ header_to h xs place
  unfolding header_to writing write_answer
  unwritable_refused end n k e w =
      let i = room_inside 0 can 0 xs place end e in
      simp (w, le-ltb 65535 (length xs) i.2, le-ltb (length xs) place (omega arith))

  -- as a choice is, where nothing else of the header is
  pub choice_unwritable : (end c : ℕ) (r : Refusal) → accepted tt end ≡ write_answer 0 can 0 xs place → Err r ≡ tested c → writable h.fields ≡ both (choice_writable c) can → left (paper_written (Err r)) xs ≡ header_to h xs place
  choice_unwritable end c r e t w = unwritable_refused end (table r).number (table r).carries e (w ∙ ap (λ (v : Writable). both v can) (choice_refused c r t))
