-- The bytes of an error, its fixed bytes and then class and code written behind them, are the error written.
-- Assumes nothing.
use mathlib.Core.Path.{◌≡◌, refl, ◌∙◌, ap, ap₂, sym}
use Prim.Native.Nat.{ℕ, ◌+◌, ◌≤◌}
use native.Mathlib.Omega.{arith}
use mathlib.Core.List.{List, [], ◌∷◌, ◌++◌, append-nil}
use lib.ListN.{length, length-append}
use borrow.Author.Tests.{le-ltb}
use Rattle.types.specs.Tag.{application}
use Rattle.types.specs.Refusal.{Carried}
use Rattle.types.specs.Answer.{Answer, accepted, refused}
use Rattle.types.specs.Writing.{Left, can, left, over, settled, write_answer, writing}
use Rattle.numbers.specs.Integer.{unsigned_length, unsigned_bytes}
use Rattle.numbers.proofs.Inside.{room_inside}
use Rattle.numbers.proofs.Wrote.{over_length, over_behind, write_fits}
use Rattle.tags.specs.Writing.{tag_value_allowed}
use Rattle.tags.specs.Item.{item_to, item_lent_to}
use Rattle.values.specs.Enumerated.{enumerated_bytes}
use Rattle.values.proofs.Fewest.{enumerated_length}
use Rattle.headers.specs.Header.{header_of}
use Rattle.headers.specs.Writing.{header_bytes, header_to}
use Rattle.headers.specs.declared.header.Header.TheVariants as h
use Rattle.headers.proofs.Back.{error_length}

-- where there is room for bytes and for others behind them, writing the others where the first were is writing all of them
written_behind : (bytes more xs : List ℕ) (place : ℕ) → length xs ≤ 65535 → place + (length bytes + length more) ≤ length xs → writing 0 can more (over xs place bytes) (place + length bytes) ≡ writing 0 can (bytes ++ more) xs place
written_behind bytes more xs place small room =
    let l : length (over xs place bytes) ≡ length xs = over_length bytes xs place (omega arith) in
    let n : place + length bytes + length more ≡ place + length (bytes ++ more) = omega (arith, length-append bytes more) in
    write_fits 0 more (over xs place bytes) (place + length bytes) (omega arith) (omega arith) (omega arith)
    ∙ (λ i. left (accepted tt (n i)) (over_behind bytes more xs place (omega arith) i))
    ∙ sym (write_fits 0 (bytes ++ more) xs place (omega arith) small (omega arith))

-- two answers that are the same name the same place
ends : {a b : ℕ} → ◌≡◌ {A = Answer (Unit {0})} (accepted tt a) (accepted tt b) → a ≡ b
ends e = cc

-- an enumerated value under its own tag can be written
item_writing : (x : ℕ) (xs : List ℕ) (place : ℕ) → item_to (application 9) (unsigned_bytes x) xs place ≡ writing 0 can (enumerated_bytes x) xs place
unfolding item_to item_lent_to tag_value_allowed
item_writing x xs place = refl

-- of an error, whose class and code have 32 bits, and with as many bytes as all of it has
module _ (id c class code : ℕ) (xs : List ℕ) (place : ℕ) (known : c ≤ 33) (class-wide : class ≤ 4294967295) (code-wide : code ≤ 4294967295) (len : ℕ) (whole : len ≡ 5 + unsigned_length class + unsigned_length code) where
  abbrev fixed : List ℕ
  fixed = 80 ∷ id ∷ c ∷ []

  abbrev bytes : List ℕ
  bytes = header_bytes (header_of (h.ConfirmedBacnetError id c class code))

  -- what is written for an error whose service choice is one
  error_writing : header_to (header_of (h.ConfirmedBacnetError id c class code)) xs place ≡ writing 0 can bytes xs place
  unfolding header_to
  error_writing = simp (le-ltb 33 c known)

  -- it is refused as room for all of it is
  pub error_no_room : (n : ℕ) (k : Carried) → refused n k ≡ write_answer 0 can len xs place → left (refused n k) xs ≡ header_to (header_of (h.ConfirmedBacnetError id c class code)) xs place
  unfolding writing
  error_no_room n k e =
      ap (settled bytes xs place) (e ∙ ap (λ (m : ℕ). write_answer 0 can m xs place) (whole ∙ sym (error_length id c class code class-wide code-wide)))
      ∙ sym error_writing

  -- and where there is room
  module _ (end : ℕ) (given : accepted tt end ≡ write_answer 0 can len xs place) where
    small : length xs ≤ 65535
    small = (room_inside 0 can len xs place end given).2

    room : place + len ≤ length xs
    room = (room_inside 0 can len xs place end given).1

    abbrev before : List ℕ
    before = fixed ++ enumerated_bytes class

    fixed_written : writing 3 can fixed xs place ≡ left (accepted tt (place + 3)) (over xs place fixed)
    fixed_written = write_fits 3 fixed xs place (omega arith) (small) (let r = room in omega arith)

    -- the fixed bytes are not refused
    pub fixed_not_refused : (n : ℕ) (k : Carried) (ys : List ℕ) → left (refused n k) ys ≡ writing 3 can fixed xs place → ⊥
    fixed_not_refused n k ys e = let f : refused n k ≡ accepted tt (place + 3) = ap (λ (l : Left). l.answer) (e ∙ fixed_written) in cc

    -- what they leave
    module _ (second : ℕ) (ys : List ℕ) (first : left (accepted tt second) ys ≡ writing 3 can fixed xs place) where
      class_written : item_to (application 9) (unsigned_bytes class) ys second ≡ left (accepted tt (place + length before)) (over xs place before)
      class_written =
          let l = enumerated_length class class-wide in
          let r = room in
          let w : left (accepted tt second) ys ≡ left (accepted tt (place + 3)) (over xs place fixed) = first ∙ fixed_written in
          ap₂ (λ (l : List ℕ) (m : ℕ). item_to (application 9) (unsigned_bytes class) l m) (ap (λ (l : Left). l.buffer) w) (ends (ap (λ (l : Left). l.answer) w))
          ∙ item_writing class (over xs place fixed) (place + 3)
          ∙ written_behind fixed (enumerated_bytes class) xs place small (omega arith)
          ∙ write_fits 0 before xs place (omega arith) small (omega (arith, length-append fixed (enumerated_bytes class)))

      -- the class is not refused there
      pub class_not_refused : (n : ℕ) (k : Carried) (zs : List ℕ) → left (refused n k) zs ≡ item_to (application 9) (unsigned_bytes class) ys second → ⊥
      class_not_refused n k zs e = let f : refused n k ≡ accepted tt (place + length before) = ap (λ (l : Left). l.answer) (e ∙ class_written) in cc

      -- and what the code leaves behind it is the error
      pub error_written : (next : ℕ) (zs : List ℕ) (a : Answer (Unit {0})) (ws : List ℕ) → left (accepted tt next) zs ≡ item_to (application 9) (unsigned_bytes class) ys second
          → left a ws ≡ item_to (application 9) (unsigned_bytes code) zs next → left a ws ≡ header_to (header_of (h.ConfirmedBacnetError id c class code)) xs place
      unfolding header_bytes
      error_written next zs a ws e f =
          let r = room in
          let w : left (accepted tt next) zs ≡ left (accepted tt (place + length before)) (over xs place before) = e ∙ class_written in
          f
          ∙ ap₂ (λ (l : List ℕ) (m : ℕ). item_to (application 9) (unsigned_bytes code) l m) (ap (λ (l : Left). l.buffer) w) (ends (ap (λ (l : Left). l.answer) w))
          ∙ item_writing code (over xs place before) (place + length before)
          ∙ written_behind before (enumerated_bytes code) xs place small (omega (arith, length-append fixed (enumerated_bytes class), enumerated_length class class-wide, enumerated_length code code-wide))
          ∙ ap (λ (l : List ℕ). writing 0 can (fixed ++ (enumerated_bytes class ++ l)) xs place) (sym (append-nil (enumerated_bytes code)))
          ∙ sym error_writing
