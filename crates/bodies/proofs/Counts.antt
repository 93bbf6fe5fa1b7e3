-- The count of tags that comes with every answer.
-- Assumes nothing.
use Prim.Native.Nat.{ℕ, ◌+◌, ◌≤◌}
use mathlib.Core.Path.{◌≡◌, refl, sym, ap, ap₂, ◌∙◌, subst}
use mathlib.Core.List.{List}
use native.Mathlib.Omega.{arith}
use lib.ListN.{length}
use Rattle.types.specs.Tag.{opening, Tag, tag}
use Rattle.types.specs.Refusal.{Carried, amount}
use Rattle.types.specs.Answer.{Answer, accepted, refused}
use Rattle.tags.specs.Reading.{tag_from}
use Rattle.tags.proofs.Exactly.{tag_found_lem}
use Rattle.bodies.specs.Scan.{Body, Counted, counted, scanned, body_from, body_for_from}
use Rattle.bodies.specs.Item.{Item}
use Rattle.bodies.specs.Count as read
use Rattle.bodies.proofs.Items.{ItemsRead, tags_read}
use Rattle.bodies.proofs.Scanned.{Why, spent, run_out, Says, scan_says}
use Rattle.bodies.proofs.Ways.{body_ways, body_for_ways}

-- what the scan behind an opening says
pub scanned_says : (allowance : ℕ) (xs : List ℕ) (place n next : ℕ) → tag_from xs place ≡ accepted (tag (opening n) 0) next
    → let r = scanned allowance n xs next in Says allowance n next 0 0 xs next r.answer r.tags
scanned_says allowance xs place n next e = scan_says n next xs (tag_found_lem xs place (tag (opening n) 0) next e).small allowance 0 0 next

why_within : (allowance k : ℕ) (xs : List ℕ) (end m : ℕ) {r : ℕ} {c : Carried} → Why allowance k xs end m r c → m ≤ allowance
why_within allowance k xs end m (spent h) = omega arith
why_within allowance k xs end m (run_out h g) = omega arith

says_within : (allowance n next : ℕ) (xs : List ℕ) (a : Answer Body) (tags : ℕ) → Says allowance n next 0 0 xs next a tags → tags ≤ allowance
says_within allowance n next xs (accepted b after) tags y = omega (arith, y.count, y.within)
says_within allowance n next xs (refused r c) tags y = omega (arith, y.count, why_within allowance 0 xs y.end (length y.items) y.why)

-- the count is never more than the allowance
pub count_within : (allowance : ℕ) (xs : List ℕ) (place : ℕ) → (body_from allowance xs place).tags ≤ allowance
count_within allowance xs place =
    body_ways (λ (r : Counted). r.tags ≤ allowance) allowance xs place
    (λ n next e. let r = scanned allowance n xs next in says_within allowance n next xs r.answer r.tags (scanned_says allowance xs place n next e))
    (λ t next e f. omega arith)
    (λ r c e. omega arith)

pub count_within_for_tag : (expected allowance : ℕ) (xs : List ℕ) (place : ℕ) → (body_for_from expected allowance xs place).tags ≤ allowance
count_within_for_tag expected allowance xs place =
    body_for_ways (λ (r : Counted). r.tags ≤ allowance) expected allowance xs place
    (λ next e. let r = scanned allowance expected xs next in says_within allowance expected next xs r.answer r.tags (scanned_says allowance xs place expected next e))
    (λ t next e f. omega arith)
    (λ r c e. omega arith)

why_counts : (allowance n next end : ℕ) (xs : List ℕ) {items : List Item} → ItemsRead xs next end items → {r : ℕ} {c : Carried} → Why allowance 0 xs end (length items) r c → read.Counts allowance xs n next (counted (refused r c) (length items))
why_counts allowance n next end xs {items} x (spent h) =
    subst (read.Counts allowance xs n next) (ap₂ (λ (i j : ℕ). counted (refused 14 (amount i)) j) (let z : allowance ≡ 0 + length items = omega arith in z) (sym h))
    (read.spent (subst (read.TagsRead xs next end) h (tags_read x)))
why_counts allowance n next end xs x (run_out h g) = read.run_out (tags_read x) g

says_counts : (allowance n next : ℕ) (xs : List ℕ) (a : Answer Body) (tags : ℕ) → Says allowance n next 0 0 xs next a tags → read.Counts allowance xs n next (counted a tags)
says_counts allowance n next xs (accepted b after) tags y =
    subst (read.Counts allowance xs n next)
    (ap₂ (λ (x : Body) (j : ℕ). counted (accepted x after) j) (sym y.lies) (let z : length y.items + 1 ≡ tags = omega (arith, y.count) in z))
    (read.with_closing (tags_read y.passed) y.closes_it)
says_counts allowance n next xs (refused r c) tags y =
    subst (λ (j : ℕ). read.Counts allowance xs n next (counted (refused r c) j)) (let z : length y.items ≡ tags = omega (arith, y.count) in z)
    (why_counts allowance n next y.end xs y.passed y.why)

-- the count is the number of tags wholly read after the opening, with a refusal too
pub count_is : (allowance : ℕ) (xs : List ℕ) (place : ℕ) → read.CountIs (λ n. Unit {0}) allowance xs place (body_from allowance xs place)
count_is allowance xs place =
    body_ways (read.CountIs (λ n. Unit {0}) allowance xs place) allowance xs place
    (λ n next e. let r = scanned allowance n xs next in read.behind_opening tt e (says_counts allowance n next xs r.answer r.tags (scanned_says allowance xs place n next e)))
    (λ t next e f. read.no_opening (λ n after w g. let i : t ≡ tag (opening n) 0 = cc in f n (ap (λ (x : Tag). x.number) i)) refl)
    (λ r c e. read.no_opening (λ n after w g. let z : ◌≡◌ {A = ℕ} 0 1 = cc in omega arith) refl)

pub count_is_for_tag : (expected allowance : ℕ) (xs : List ℕ) (place : ℕ) → read.CountIs (λ n. n ≡ expected) allowance xs place (body_for_from expected allowance xs place)
count_is_for_tag expected allowance xs place =
    body_for_ways (read.CountIs (λ n. n ≡ expected) allowance xs place) expected allowance xs place
    (λ next e. let r = scanned allowance expected xs next in read.behind_opening refl e (says_counts allowance expected next xs r.answer r.tags (scanned_says allowance xs place expected next e)))
    (λ t next e f. read.no_opening (λ n after w g. let i : t ≡ tag (opening n) 0 = cc in f (ap (λ (x : Tag). x.number) i ∙ ap opening w)) refl)
    (λ r c e. read.no_opening (λ n after w g. let z : ◌≡◌ {A = ℕ} 0 1 = cc in omega arith) refl)
