-- An enumerated value is written in its shortest form, and bytes that are one are written again as they stood exactly if they have that form.
-- Assumes nothing.
use mathlib.Core.Path.{◌≡◌, refl, sym, subst}
use mathlib.Core.Logic.{◌↔◌}
use Prim.Native.Nat.{ℕ, ◌+◌, ◌<◌, ◌≤◌}
use native.Mathlib.Omega.{arith}
use mathlib.Core.List.{List, ◌++◌}
use lib.Dec.{lit<}
use lib.ListN.{length, length-append}
use borrow.Author.Tests.{lt-ltb}
use Rattle.types.specs.Tag.{application, tag}
use Rattle.types.specs.Answer.{accepted}
use Rattle.numbers.specs.Integer.{unsigned_value, unsigned_length, unsigned_bytes, Bytes}
use Rattle.numbers.proofs.Value.{bytes_joined, bytes_before, bytes_behind}
use Rattle.numbers.proofs.Least.{length_between, length_least}
use Rattle.numbers.proofs.Shortest.{unsigned_length_lem, unsigned_shortest}
use Rattle.tags.specs.Header.{IsTag}
use Rattle.tags.specs.Writing.{tag_bytes}
use Rattle.tags.specs.Room.{IsIntegerItem, OnlyShortest}
use Rattle.tags.proofs.ReadsAs.{unsigned_kind}
use Rattle.tags.proofs.Room.{item_only_shortest}
use Rattle.tags.proofs.OneTag.{same_front}
use Rattle.values.specs.Integer.{IsEnumerated}
use Rattle.values.specs.Enumerated.{enumerated_from, enumerated_bytes, IsEnumeratedItem, under_nine, Fewest, is_there}
use Rattle.values.proofs.EnumeratedItems.{enumerated_answers, enumerated_item, item_fits}

-- an enumerated value under its tag is that tag and that unsigned integer
is_item : {x : ℕ} {bytes : List ℕ} → Bytes bytes → IsEnumeratedItem x bytes → IsIntegerItem unsigned_value (application 9) x bytes
is_item b (under_nine {head = head} {content = content} is i) = record {
  header = head;
  content = content;
  parts = refl;
  tagged = record { whole = subst (λ (len : ℕ). IsTag (tag (application 9) len) head) (sym i.integer.sized) is; below = bytes_before head content b };
  bytes = bytes_behind head content b;
  some = omega (arith, i.integer.some, i.integer.sized);
  most = omega (arith, i.integer.most, i.integer.sized);
  stands = sym i.integer.stands;
}

module _ (x : ℕ) (fits : x ≤ 4294967295) where
  -- 32 bits take four bytes at the most, so the tag has a single byte
  content_few : (1 ≤ length (unsigned_bytes x)) × (length (unsigned_bytes x) ≤ 4)
  content_few = omega (arith, unsigned_length_lem x, length_between x, length_least x 4 (omega arith) (omega arith))

  tag_alone : (len : ℕ) → len < 5 → length (tag_bytes (tag (application 9) len)) ≡ 1
  unfolding tag_bytes
  tag_alone len h = simp (lt-ltb len 5 h)

  -- two to five bytes: one for the tag, and the content
  pub enumerated_length : length (enumerated_bytes x) ≡ 1 + unsigned_length x
  enumerated_length = let f = content_few in omega (arith, length-append (tag_bytes (tag (application 9) (length (unsigned_bytes x)))) (unsigned_bytes x), tag_alone (length (unsigned_bytes x)) (omega arith), unsigned_length_lem x)

  pub enumerated_between : (2 ≤ length (enumerated_bytes x)) × (length (enumerated_bytes x) ≤ 5)
  enumerated_between = let f = content_few in omega (arith, enumerated_length, unsigned_length_lem x)

  -- of all strings that are that tag and that integer what is written is the only shortest (tags, K14)
  shortest : OnlyShortest (IsIntegerItem unsigned_value (application 9) x) (enumerated_bytes x)
  shortest = item_only_shortest unsigned_kind (application 9) (lit< tt) x (unsigned_bytes x) (unsigned_shortest x (omega arith))

  written_below : Bytes (enumerated_bytes x)
  written_below = let i = shortest.is_so in subst Bytes (sym i.parts) (bytes_joined i.header i.content i.tagged.below i.bytes)

  -- its content is the least
  no_fewer : {len : ℕ} {content : List ℕ} → Bytes content → IsEnumerated len content x → length (unsigned_bytes x) ≤ length content
  no_fewer {content = content} b i = (unsigned_shortest x (omega arith)).least content (record { some = omega (arith, i.integer.some, i.integer.sized); bytes = b; stands = sym i.integer.stands })

  -- the bytes that are written are the fewest
  pub written_fewest : Fewest x (enumerated_bytes x)
  written_fewest other b i = shortest.least other (is_item b i)

  -- and no others are as few
  fewest_written : {bytes : List ℕ} → Bytes bytes → IsEnumeratedItem x bytes → Fewest x bytes → enumerated_bytes x ≡ bytes
  fewest_written {bytes} b i few = sym (shortest.only bytes (is_item b i) (omega (arith, few (enumerated_bytes x) written_below (enumerated_item x fits), written_fewest bytes b i)))

-- bytes that are an enumerated value are written again for it exactly if they are the fewest
pub fewest_exactly : (x : ℕ) (bytes : List ℕ) → Bytes bytes → IsEnumeratedItem x bytes → (enumerated_bytes x ≡ bytes) ↔ Fewest x bytes
fewest_exactly x bytes b i = (λ e. subst (Fewest x) e (written_fewest x (item_fits i)), fewest_written x (item_fits i) b i)

-- bytes that begin with the ones that are written for an enumerated value, and with others that are it, begin with the same
pub one_item : (x : ℕ) {item : List ℕ} (more rest : List ℕ) → IsEnumeratedItem x item → length (item ++ rest) ≤ 65535 → enumerated_bytes x ++ more ≡ item ++ rest → (enumerated_bytes x ≡ item) × (more ≡ rest)
one_item x {item} more rest i small e =
    let own : List ℕ = enumerated_bytes x in
    let a : enumerated_from (item ++ rest) 0 ≡ accepted x (0 + length item) = enumerated_answers (item ++ rest) 0 (accepted x (0 + length item)) (is_there item rest small refl i refl) in
    let b : enumerated_from (item ++ rest) 0 ≡ accepted x (0 + length own) = enumerated_answers (item ++ rest) 0 (accepted x (0 + length own)) (is_there own more small (sym e) (enumerated_item x (item_fits i)) refl) in
    let n : 0 + length own ≡ 0 + length item = cc in
    same_front own more item rest (omega arith) e
