-- The rule for the control byte, proved over the table: the kind that it tells is found, there is never a second, and where it tells none it is refused 17.
-- Assumes nothing.
use mathlib.Core.Path.{◌≡◌, refl, ◌∙◌, ap, sym}
use Prim.Native.Nat.{ℕ, ◌/◌, ◌%◌}
use native.Mathlib.Omega.{arith}
use mathlib.Core.Bool.{Bool, true, false}
use mathlib.Core.List.{List, [], ◌∷◌}
use lib.Dec.{eqb}
use borrow.Author.Tests.{eqb-true, eqb-false}
use Rattle.std.specs.declared.option.Option.{Option}
use Rattle.std.specs.declared.option.Option.TheVariants.{Some, None}
use Rattle.types.specs.Choice.{if}
use Rattle.types.specs.Refusal.{amount}
use Rattle.types.specs.Answer.{Answer, refused}
use Rattle.types.proofs.Single.{told_apart}
use Rattle.headers.specs.Header.{Kind, request, simple, complex, segment, error, reject, abort, Header, row_of, kinds}
use Rattle.headers.specs.Reading.{tells, kind_from, first_of, first_told, header_after}
use Rattle.headers.specs.Bytes.{TellsKind}

-- the test of a row says whether the control byte tells the kind
module _ (k : Kind) (control : ℕ) (P : Bool → Type 0) (yes-case : TellsKind k control → P true) (no-case : (TellsKind k control → ⊥) → P false) where
  tells_cases : P (tells (row_of k) control)
  tells_cases = go (eqb (control / 16) (row_of k).pdu_type) refl (row_of k).segmentable refl (eqb (control / 8 % 2) 0) refl
    where
      go : (t : Bool) → eqb (control / 16) (row_of k).pdu_type ≡ t → (s : Bool) → (row_of k).segmentable ≡ s → (u : Bool) → eqb (control / 8 % 2) 0 ≡ u → P (if t (if s u true) false)
      go true t true s true u = yes-case (record { of_type = eqb-true (control / 16) (row_of k).pdu_type t; unsegmented = λ e. eqb-true (control / 8 % 2) 0 u })
      go true t true s false u = no-case (λ w. eqb-false (control / 8 % 2) 0 u (w.unsegmented s))
      go true t false s u v = yes-case (record { of_type = eqb-true (control / 16) (row_of k).pdu_type t; unsegmented = λ e. let z : ◌≡◌ {A = ℕ} 0 1 = cc in absurd (omega arith) })
      go false t s u v w = no-case (λ x. eqb-false (control / 16) (row_of k).pdu_type t x.of_type)

-- the control byte tells none of some kinds
abbrev NoneOf : List Kind → ℕ → Type 0
NoneOf [] control = Unit {0}
NoneOf (k ∷ ks) control = (TellsKind k control → ⊥) × NoneOf ks control

-- `kinds` leaves none out
none_left : (control : ℕ) → NoneOf kinds control → (k : Kind) → TellsKind k control → ⊥
none_left control n request = n.0
none_left control n simple = n.1.0
none_left control n complex = n.1.1.0
none_left control n segment = n.1.1.1.0
none_left control n error = n.1.1.1.1.0
none_left control n reject = n.1.1.1.1.1.0
none_left control n abort = n.1.1.1.1.1.1.0

first_cases : (ks : List Kind) (control : ℕ) (xs : List ℕ) (place : ℕ) (P : Answer Header → Type 0)
    → ((k : Kind) → TellsKind k control → P (kind_from k ((row_of k).held control) xs place)) → (NoneOf ks control → P (refused 17 (amount control))) → P (first_of ks control xs place)
first_cases [] control xs place P f g = g tt
first_cases (k ∷ ks) control xs place P f g =
    tells_cases k control (λ b. P (if b (kind_from k ((row_of k).held control) xs place) (first_of ks control xs place)))
    (λ w. f k w)
    (λ n. first_cases ks control xs place P f (λ ns. g (n, ns)))

-- what holds of the header of the kind told, and of 17 where none is told, holds of the header behind a control byte
pub after_cases : (control : ℕ) (xs : List ℕ) (place : ℕ) (P : Answer Header → Type 0)
    → ((k : Kind) → TellsKind k control → P (kind_from k ((row_of k).held control) xs place)) → (((k : Kind) → TellsKind k control → ⊥) → P (refused 17 (amount control))) → P (header_after control xs place)
unfolding header_after
after_cases control xs place P f g = first_cases kinds control xs place P f (λ n. g (none_left control n))

-- no two kinds have one type
abbrev pub of_type : ℕ → Kind
of_type t = if (eqb t 0) request (if (eqb t 2) simple (if (eqb t 3) complex (if (eqb t 4) segment (if (eqb t 5) error (if (eqb t 6) reject abort)))))

pub type_back : (k : Kind) → of_type (row_of k).pdu_type ≡ k
type_back request = refl
type_back simple = refl
type_back complex = refl
type_back segment = refl
type_back error = refl
type_back reject = refl
type_back abort = refl

pub one_kind : (control : ℕ) (j k : Kind) → TellsKind j control → TellsKind k control → j ≡ k
one_kind control j k a b = told_apart (λ (x : Kind). (row_of x).pdu_type) of_type type_back j k (sym a.of_type ∙ b.of_type)

-- so the header behind a control byte is that of the kind that it tells
pub after_told : (control : ℕ) (xs : List ℕ) (place : ℕ) (k : Kind) → TellsKind k control → header_after control xs place ≡ kind_from k ((row_of k).held control) xs place
after_told control xs place k w =
    after_cases control xs place (λ a. a ≡ kind_from k ((row_of k).held control) xs place)
    (λ j v. ap (λ (x : Kind). kind_from x ((row_of x).held control) xs place) (one_kind control j k v w))
    (λ n. absurd (n k w))

pub after_none : (control : ℕ) (xs : List ℕ) (place : ℕ) → ((k : Kind) → TellsKind k control → ⊥) → header_after control xs place ≡ refused 17 (amount control)
after_none control xs place n = after_cases control xs place (λ a. a ≡ refused 17 (amount control)) (λ k w. absurd (n k w)) (λ m. refl)

-- what follows a control byte, by the first kind that it tells
abbrev by_first : Option Kind → ℕ → List ℕ → ℕ → Answer Header
by_first None control xs place = refused 17 (amount control)
by_first (Some k) control xs place = kind_from k ((row_of k).held control) xs place

by_test : (b : Bool) (k : Kind) (t : Option Kind) (control : ℕ) (xs : List ℕ) (place : ℕ) → if b (kind_from k ((row_of k).held control) xs place) (by_first t control xs place) ≡ by_first (if b (Some k) t) control xs place
by_test true k t control xs place = refl
by_test false k t control xs place = refl

of_first : (ks : List Kind) (control : ℕ) (xs : List ℕ) (place : ℕ) → first_of ks control xs place ≡ by_first (first_told ks control) control xs place
of_first [] control xs place = refl
of_first (k ∷ ks) control xs place =
    ap (if (tells (row_of k) control) (kind_from k ((row_of k).held control) xs place)) (of_first ks control xs place)
    ∙ by_test (tells (row_of k) control) k (first_told ks control) control xs place

-- so the header behind it is read by the first of the seven that it tells
pub after_first : (k : Kind) (control : ℕ) (xs : List ℕ) (place : ℕ) → Some k ≡ first_told kinds control → header_after control xs place ≡ kind_from k ((row_of k).held control) xs place
unfolding header_after
after_first k control xs place e = of_first kinds control xs place ∙ ap (λ (t : Option Kind). by_first t control xs place) (sym e)

-- and 17 is given where it tells none
pub after_no_kind : (control : ℕ) (xs : List ℕ) (place : ℕ) → None ≡ first_told kinds control → header_after control xs place ≡ refused 17 (amount control)
unfolding header_after
after_no_kind control xs place e = of_first kinds control xs place ∙ ap (λ (t : Option Kind). by_first t control xs place) (sym e)
