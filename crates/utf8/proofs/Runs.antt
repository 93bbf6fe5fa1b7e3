-- Runs of bytes below 128: counted by words of eight, and passed by the check.
-- Assumes nothing.
use Rattle.std.proofs.Common.{◌≡◌, ℕ, zero, suc, ◌+◌, ◌-◌, ◌*◌, ◌/◌, ◌%◌, ◌<◌, ◌≤◌, Bool, true, false, cond, ◌&&◌, List, [], ◌∷◌, length, take, drop, get_or, ltb, refl, sym, ap, ◌∙◌, arith, length-drop}
use Rattle.std.specs.List.{prefix_len, list_all}
use Rattle.std.specs.Char.{is_ascii}
use Rattle.std.specs.Simd.{first_chunks}
use Rattle.std.specs.Int.{w64, from_le_bytes}
use Rattle.std.proofs.Math.Nat.{div-mul-le_self, mul_comm}
use Rattle.std.proofs.Math.Bool.{and_assoc, and-true}
use Rattle.std.proofs.lemmas.List.Sums.{prefix_len-le-length, prefix_len_passes, prefix_len_stops, prefix_len-drop_yes}
use Rattle.std.proofs.lemmas.Slice.{between_to_end}
use Rattle.std.proofs.lemmas.Bool.{true≢false}
use borrow.Author.Tests.{ltb-true}
use Rattle.utf8.specs.declared.lead.Follow.{Follow}
use Rattle.utf8.specs.Table.{UTF8-1, UTF8-2, UTF8-3, UTF8-4, UTF8-char}
use Rattle.utf8.specs.Lead.{as_tails, ranges}
use Rattle.utf8.specs.Check.{sequence_length}
use Rattle.utf8.proofs.Places.{check_at, sequence_leads}
use Rattle.utf8.proofs.FirstByte.{from_00}
use Rattle.utf8.proofs.Following.{right_begins, nothing_left}
use lib.Seq.{drop-drop, get_or-drop}
use native.Mathlib.Nat.{mul-zero}

-- elements that pass are followed by as many as pass behind them
all_then : {A : Type 0} (p : A → Bool) (n : ℕ) (xs : List A) → n ≤ length xs → list_all p (take n xs) ≡ true → prefix_len p xs ≡ n + prefix_len p (drop n xs)
all_then p zero xs h e = omega arith
all_then p (suc n) [] h e = absurd (omega arith)
all_then p (suc n) (x ∷ xs) h e = by (p x) e (all_then p n xs (omega arith))
  where
    by : (t : Bool) → t && list_all p (take n xs) ≡ true → (list_all p (take n xs) ≡ true → prefix_len p xs ≡ n + prefix_len p (drop n xs)) → cond t (1 + prefix_len p xs) 0 ≡ suc n + prefix_len p (drop n xs)
    by true e on = omega (arith, on e)
    by false e on = absurd (let z : ◌≡◌ {A = ℕ} 0 1 = cc in omega arith)

-- chunks that pass whole, and then as many elements as pass behind them
chunks_then : {A : Type 0} (p : A → Bool) (n k : ℕ) (xs : List A) → k * n ≤ length xs
    → n * prefix_len (list_all p) (first_chunks n k xs) + prefix_len p (drop (n * prefix_len (list_all p) (first_chunks n k xs)) xs) ≡ prefix_len p xs
chunks_then p n zero xs h = simp mul-zero (omega arith)
chunks_then {A} p n (suc k) xs h = by (list_all p (take n xs)) refl (chunks_then p n k (drop n xs) (omega (arith, length-drop n xs)))
  where
    m : ℕ
    m = prefix_len (list_all p) (first_chunks n k (drop n xs))

    by : (t : Bool) → list_all p (take n xs) ≡ t → n * m + prefix_len p (drop (n * m) (drop n xs)) ≡ prefix_len p (drop n xs)
        → n * cond t (1 + m) 0 + prefix_len p (drop (n * cond t (1 + m) 0) xs) ≡ prefix_len p xs
    by true e on =
        let a : prefix_len p xs ≡ n + prefix_len p (drop n xs) = all_then p n xs (omega arith) e in
        let b : n * (1 + m) ≡ n + n * m = omega arith in
        let d : drop (n * m) (drop n xs) ≡ drop (n + n * m) xs = drop-drop (n * m) n xs in
        rw b (omega (arith, rw d at on))
    by false e on = simp mul-zero (omega arith)

-- a chunk of those by its number
chunk_at : {A : Type 0} (n k i : ℕ) (xs : List A) → i < k → get_or (first_chunks n k xs) i [] ≡ take n (drop (n * i) xs)
chunk_at n zero i xs h = absurd (omega arith)
chunk_at n (suc k) zero xs h = simp mul-zero refl
chunk_at n (suc k) (suc i) xs h =
    let e : n * suc i ≡ n + n * i = omega arith in
    rw e (chunk_at n k i (drop n xs) (omega arith) ∙ ap (take n) (drop-drop (n * i) n xs))

-- in a part that does not pass whole as many pass as in the list
stops_inside : {A : Type 0} (p : A → Bool) (n : ℕ) (xs : List A) → list_all p (take n xs) ≡ false → prefix_len p (take n xs) ≡ prefix_len p xs
stops_inside p zero xs e = absurd (true≢false e)
stops_inside p (suc n) [] e = refl
stops_inside p (suc n) (x ∷ xs) e = by (p x) e (stops_inside p n xs)
  where
    by : (t : Bool) → t && list_all p (take n xs) ≡ false → (list_all p (take n xs) ≡ false → prefix_len p (take n xs) ≡ prefix_len p xs) → cond t (1 + prefix_len p (take n xs)) 0 ≡ cond t (1 + prefix_len p xs) 0
    by true e on = ap (λ (k : ℕ). 1 + k) (on e)
    by false e on = refl

module _ {A : Type 0} (p : A → Bool) (n : ℕ) (xs : List A) (chunks : List (List A)) (count more : ℕ) (are : chunks ≡ first_chunks n (length xs / n) xs) (is : count ≡ prefix_len (list_all p) chunks) where
  -- the chunks that pass, and then as many elements as pass behind them
  pub by_chunks : more ≡ prefix_len p (drop (n * count) xs) → n * count + more ≡ prefix_len p xs
  by_chunks m =
      let e : count ≡ prefix_len (list_all p) (first_chunks n (length xs / n) xs) = rw (← are) is in
      rw (m, e) (chunks_then p n (length xs / n) xs (div-mul-le_self (length xs) n))

  -- behind them stands the first that does not pass
  pub up_to_chunk : (chunk : List A) → count < length xs / n → length chunks ≡ length xs / n → chunk ≡ get_or chunks count [] → more ≡ prefix_len p chunk → n * count + more ≡ prefix_len p xs
  up_to_chunk chunk h l c m =
      let fails : list_all p (get_or chunks count []) ≡ false = rw is (prefix_len_stops (list_all p) chunks [] (omega arith)) in
      let e : get_or chunks count [] ≡ take n (drop (n * count) xs) = rw are (chunk_at n (length xs / n) count xs h) in
      by_chunks (m ∙ ap (prefix_len p) (c ∙ e) ∙ stops_inside p n (drop (n * count) xs) (rw e at fails))

  -- or the elements that fill no chunk
  pub up_to_rest : (rest : List A) → count ≡ length xs / n → rest ≡ drop (length xs / n * n) xs → more ≡ prefix_len p rest → n * count + more ≡ prefix_len p xs
  up_to_rest rest h r m =
      let e : length xs / n * n ≡ n * count = rw h (mul_comm (length xs / n) n) in
      by_chunks (m ∙ ap (prefix_len p) (r ∙ ap (λ (k : ℕ). drop k xs) e))

-- eight bytes are all below 128 exactly if the digits to base 256 of the number that they stand for are
pub digits_plain : (bs : List ℕ) → length bs ≡ 8 → ((i : ℕ) → get_or bs i 0 < 256) → (n : ℕ) → n ≡ from_le_bytes w64 bs
    → ((((((ltb (n % 256) 128 && ltb (n / 256 % 256) 128) && ltb (n / 65536 % 256) 128) && ltb (n / 16777216 % 256) 128) && ltb (n / 4294967296 % 256) 128) && ltb (n / 1099511627776 % 256) 128) && ltb (n / 281474976710656 % 256) 128) && ltb (n / 72057594037927936) 128 ≡ list_all is_ascii bs
digits_plain (a ∷ b ∷ c ∷ d ∷ e ∷ f ∷ g ∷ h ∷ []) l u n is =
    let ua : a < 256 = u 0 in
    let ub : b < 256 = u 1 in
    let uc : c < 256 = u 2 in
    let ud : d < 256 = u 3 in
    let ue : e < 256 = u 4 in
    let uf : f < 256 = u 5 in
    let ug : g < 256 = u 6 in
    let uh : h < 256 = u 7 in
    let da : n % 256 ≡ a = omega (arith, is) in
    let db : n / 256 % 256 ≡ b = omega (arith, is) in
    let dc : n / 65536 % 256 ≡ c = omega (arith, is) in
    let dd : n / 16777216 % 256 ≡ d = omega (arith, is) in
    let de : n / 4294967296 % 256 ≡ e = omega (arith, is) in
    let df : n / 1099511627776 % 256 ≡ f = omega (arith, is) in
    let dg : n / 281474976710656 % 256 ≡ g = omega (arith, is) in
    let dh : n / 72057594037927936 ≡ h = omega (arith, is) in
    rw (da, db, dc, dd, de, df, dg, dh) (simp (and_assoc, and-true) refl)
digits_plain [] l u n is = absurd (omega arith)
digits_plain (a ∷ []) l u n is = absurd (omega arith)
digits_plain (a ∷ b ∷ []) l u n is = absurd (omega arith)
digits_plain (a ∷ b ∷ c ∷ []) l u n is = absurd (omega arith)
digits_plain (a ∷ b ∷ c ∷ d ∷ []) l u n is = absurd (omega arith)
digits_plain (a ∷ b ∷ c ∷ d ∷ e ∷ []) l u n is = absurd (omega arith)
digits_plain (a ∷ b ∷ c ∷ d ∷ e ∷ f ∷ []) l u n is = absurd (omega arith)
digits_plain (a ∷ b ∷ c ∷ d ∷ e ∷ f ∷ g ∷ []) l u n is = absurd (omega arith)
digits_plain (a ∷ b ∷ c ∷ d ∷ e ∷ f ∷ g ∷ h ∷ i ∷ bs) l u n is = absurd (omega arith)

-- a byte below 128 is a sequence by itself
alone : (s : List ℕ) (place : ℕ) → place < length s → get_or s place 0 < 128 → sequence_length UTF8-char (drop place s) ≡ 1
unfolding as_tails ranges UTF8-char UTF8-1 UTF8-2 UTF8-3 UTF8-4
alone s place h k =
    let f : Follow = record { count = 0; low = 0x80; high = 0xBF } in
    right_begins s place h f (sym (from_00 (get_or s place 0) (omega arith))) (nothing_left s 0 0x80 0xBF (place + 1) refl)

passed_by : (s : List ℕ) (k place : ℕ) → place + k ≤ length s → ((i : ℕ) → i < k → get_or s (place + i) 0 < 128) → check_at s place ≡ check_at s (place + k)
passed_by s zero place room plain = ap (check_at s) (let z : place ≡ place + 0 = omega arith in z)
passed_by s (suc k) place room plain =
    let here : get_or s place 0 < 128 = (let z : place + 0 ≡ place = omega arith in rw z at (plain 0 (omega arith))) in
    let z : place + 1 + k ≡ place + suc k = omega arith in
    sequence_leads s place 0 (alone s place (omega arith) here)
    ∙ passed_by s k (place + 1) (omega arith) (λ i l. let e : place + suc i ≡ place + 1 + i = omega arith in rw e at (plain (suc i) (omega arith)))
    ∙ ap (check_at s) z

module _ (s : List ℕ) (place n : ℕ) (inside : place < length s) (is : n ≡ prefix_len is_ascii (take (length s - place) (drop place s))) where
  counted : n ≡ prefix_len is_ascii (drop place s)
  counted = is ∙ ap (prefix_len is_ascii) (between_to_end s place (length s) (omega arith))

  -- the bytes below 128 that come first end inside the text
  pub run_ends : place + n ≤ length s
  run_ends = omega (arith, counted, prefix_len-le-length is_ascii (drop place s), length-drop place s)

  -- the check goes on behind them
  pub run_passed : check_at s place ≡ check_at s (place + n)
  run_passed =
      passed_by s n place run_ends
      (λ i l. let below : i < prefix_len is_ascii (drop place s) = omega (arith, counted) in ltb-true (get_or s (place + i) 0) 128 (rw get_or-drop at (prefix_len_passes is_ascii (drop place s) i 0 below)))

  -- and it goes ahead where such a byte stands
  pub goes_ahead : is_ascii (get_or s place 0) ≡ true → 0 < n
  goes_ahead e = omega (arith, counted, prefix_len-drop_yes is_ascii s place 0 inside e)
