-- A byte string reads as an integer under a tag exactly if it is that tag and that integer's content: the definition by the readers and the one that only says so agree, for every string.
-- Assumes nothing.
use mathlib.Core.Path.{◌≡◌, refl, ◌∙◌, ap, ap₂, sym, subst, subst₂}
use mathlib.Core.Logic.{◌↔◌}
use Prim.Native.Nat.{ℕ, ◌+◌, ◌≤◌}
use native.Mathlib.Omega.{arith}
use mathlib.Core.List.{List, [], ◌++◌, append-nil, append_assoc}
use lib.ListN.{length, drop, length-append, drop_of_length-le}
use Rattle.types.specs.Tag.{Number, Tag, tag}
use Rattle.types.specs.Answer.{Answer, accepted}
use Rattle.numbers.specs.Integer.{unsigned_value, signed_value, Bytes, Holds}
use Rattle.numbers.specs.Reading.{unsigned_from, signed_from}
use Rattle.numbers.proofs.Value.{bytes_joined, bytes_before, bytes_behind}
use Rattle.numbers.proofs.Found.{IntegerFound, unsigned_found, signed_found, unsigned_at, signed_at, behind}
use Rattle.numbers.proofs.OneContent.{unsigned_one_content, signed_one_content}
use Rattle.tags.specs.Header.{IsTag}
use Rattle.tags.specs.Room.{ReadsAs, IsIntegerItem}
use Rattle.tags.proofs.Exactly.{tag_found_lem, tag_read, tag_length}
use Rattle.tags.proofs.OneTag.{no_bytes, one_tag}

-- a kind of integer: what its reader reads stands there, what stands there it reads, and of contents of one length one alone holds an integer
pub record IntegerKind {A : Type 0} (value_of : List ℕ → A) (integer_from : ℕ → List ℕ → ℕ → Answer A) : Type 0 where
  pub found : (len : ℕ) (xs : List ℕ) (place : ℕ) (v : A) (next : ℕ) → integer_from len xs place ≡ accepted v next → IntegerFound value_of len xs place v next
  pub there : (xs : List ℕ) (place : ℕ) (content rest : List ℕ) → length xs ≤ 65535 → 1 ≤ length content → length content ≤ 8 → drop place xs ≡ content ++ rest → integer_from (length content) xs place ≡ accepted (value_of content) (place + length content)
  pub one : (v : A) (a b : List ℕ) → Holds value_of v a → Holds value_of v b → length a ≡ length b → a ≡ b

-- a string that is a tag and an integer has 2 to 15 bytes: one to seven of the tag, one to eight of the content
module _ {A : Type 0} {value_of : List ℕ → A} {n : Number} {v : A} {string : List ℕ} (i : IsIntegerItem value_of n v string) where
  pub item_length : length string ≡ length i.header + length i.content
  item_length = ap length i.parts ∙ length-append i.header i.content

  pub item_some : 2 ≤ length string
  item_some = omega (arith, item_length, (tag_length i.tagged.whole).0, i.some)

  pub item_most : length string ≤ 15
  item_most = omega (arith, item_length, (tag_length i.tagged.whole).1, i.most)

pub unsigned_kind : IntegerKind unsigned_value unsigned_from
unsigned_kind = record { found = unsigned_found; there = unsigned_at; one = unsigned_one_content }

pub signed_kind : IntegerKind signed_value signed_from
signed_kind = record { found = signed_found; there = signed_at; one = signed_one_content }

module _ {A : Type 0} {value_of : List ℕ → A} {integer_from : ℕ → List ℕ → ℕ → Answer A} (kind : IntegerKind value_of integer_from) (n : Number) (v : A) (string : List ℕ) where
  reads_is : ReadsAs integer_from n v string → IsIntegerItem value_of n v string
  reads_is r =
      let t = tag_found_lem string 0 r.found r.after r.tag_read in
      let i = kind.found r.found.value string r.after v r.next r.integer_read in
      let none : drop r.next string ≡ [] = drop_of_length-le string {i = r.next} (omega (arith, r.whole)) in
      let parts : string ≡ t.bytes ++ i.bytes = t.here ∙ ap (λ (l : List ℕ). t.bytes ++ l) (i.here ∙ ap (λ (l : List ℕ). i.bytes ++ l) none ∙ append-nil i.bytes) in
      let all : Bytes (t.bytes ++ i.bytes) = subst Bytes parts r.bytes in
      record {
        header = t.bytes;
        content = i.bytes;
        parts = parts;
        tagged = record { whole = subst₂ (λ (m : Number) (len : ℕ). IsTag (tag m len) t.bytes) r.number (sym i.sized) t.is_tag; below = bytes_before t.bytes i.bytes all };
        bytes = bytes_behind t.bytes i.bytes all;
        some = omega (arith, i.some, i.sized);
        most = omega (arith, i.most, i.sized);
        stands = sym i.stands;
      }

  is_reads : IsIntegerItem value_of n v string → ReadsAs integer_from n v string
  is_reads i =
      let after : ℕ = 0 + length i.header in
      let small : length string ≤ 65535 = omega (arith, item_most i) in
      let at : drop after string ≡ i.content ++ [] = behind string 0 i.header i.content i.parts ∙ sym (append-nil i.content) in
      record {
        bytes = subst Bytes (sym i.parts) (bytes_joined i.header i.content i.tagged.below i.bytes);
        found = tag n (length i.content);
        after = after;
        next = after + length i.content;
        tag_read = tag_read string small 0 (tag n (length i.content)) i.header i.content i.parts i.tagged.whole;
        number = refl;
        integer_read = kind.there string after i.content [] small i.some i.most at ∙ ap (λ (x : A). accepted x (after + length i.content)) i.stands;
        whole = omega (arith, item_length i);
      }

  -- of either kind of integer
  pub reads_exactly : ReadsAs integer_from n v string ↔ IsIntegerItem value_of n v string
  reads_exactly = (reads_is, is_reads)

-- a string reads as one class and number, and as one integer of a kind
pub one_reading : {A : Type 0} (integer_from : ℕ → List ℕ → ℕ → Answer A) (n m : Number) (v w : A) (string : List ℕ) → ReadsAs integer_from n v string → ReadsAs integer_from m w string → (n ≡ m) × (v ≡ w)
one_reading integer_from n m v w string p q =
    let t : accepted p.found p.after ≡ accepted q.found q.after = sym p.tag_read ∙ q.tag_read in
    let same : p.found ≡ q.found = cc in
    let after : p.after ≡ q.after = cc in
    let i : accepted v p.next ≡ accepted w q.next = sym p.integer_read ∙ ap₂ (λ (f : Tag) (a : ℕ). integer_from f.value string a) same after ∙ q.integer_read in
    (sym p.number ∙ ap (λ (f : Tag). f.number) same ∙ q.number, let e : v ≡ w = cc in e)

-- a string that reads begins no other that reads, whatever their tags, kinds and integers
module _ {A B : Type 0} {value_of : List ℕ → A} {other_of : List ℕ → B} {integer_from : ℕ → List ℕ → ℕ → Answer A} {other_from : ℕ → List ℕ → ℕ → Answer B} (kind : IntegerKind value_of integer_from) (other : IntegerKind other_of other_from) (n m : Number) (v : A) (w : B) (string more : List ℕ) where
  pub begins_no_other : ReadsAs integer_from n v string → ReadsAs other_from m w (string ++ more) → more ≡ []
  begins_no_other p q =
      let i = reads_is kind n v string p in
      let j = reads_is other m w (string ++ more) q in
      let e : i.header ++ (i.content ++ more) ≡ j.header ++ j.content = sym (append_assoc i.header i.content more) ∙ ap (λ (l : List ℕ). l ++ more) (sym i.parts) ∙ j.parts in
      let o = one_tag i.tagged.whole j.tagged.whole (i.content ++ more) j.content e in
      let l : length i.content ≡ length j.content = ap (λ (t : Tag). t.value) o.same_tag in
      no_bytes more (omega (arith, l, ap length o.same_rest, length-append i.content more))
