-- The steps of the loops over a field: the number in its columns is summed from the left, and a number's columns are compared and set from the right.
use Prim.Native.Nat.{ℕ, zero, suc, ◌+◌, ◌-◌, ◌*◌, ◌/◌, ◌%◌, ◌^◌, ◌≤◌, ◌<◌}
use native.Mathlib.Nat.{add-mul, add-zero, zero-add, zero-mul, mul-one, mul_assoc, div-eq_of_lt, div-lt_iff_lt-mul, div-div-eq-div-mul, one-le-pow, pow-zero, pow-suc, pow-succ', pow-le-pow_right, div-one, one-mul, sub-zero}
use native.Mathlib.Numerals.{add-one}
use native.Mathlib.Omega.{arith}
use mathlib.Core.Path.{◌≡◌, refl, sym, ap, ◌∙◌}
use mathlib.Core.Bool.{true, false, cond}
use mathlib.Core.List.{List, [], ◌∷◌}
use mathlib.Core.Option.{none, some}
use lib.Dec.{ltb, eqb, lit<}
use lib.ListN.{length, drop, get_or, set, length-drop, length-set, drop_of_length-le}
use lib.Seq.{drop-cons, get_or-set_same, drop-set-lt}
use borrow.Author.Tests.{lt-ltb, ltb-true, eq-eqb, eqb-true}
use Rattle.ternary.specs.Lists.{same}
use Rattle.ternary.proofs.Tests.{both, fails, same_test}
use Rattle.ternary.proofs.ListLaws.{same_true}
use Rattle.sheet.specs.Limits.{most_columns, blank, digit_zero}
use Rattle.sheet.specs.Field.{column, write_field, field_value, read_field}
use Rattle.sheet.proofs.FieldLaws.{length-field, write_read_field}

-- ---- the number in columns: n is the number in the first i columns

sum-next : (b : List ℕ) (i n : ℕ) → i < length b
    → n * 10 ^ (length b - i) + field_value (drop i b) ≡ (n * 10 + (get_or b i 0 - digit_zero)) * 10 ^ (length b - suc i) + field_value (drop (suc i) b)
unfolding field_value
sum-next b i n h =
    let left : length b - i ≡ suc (length b - suc i) = omega arith in
    rw (drop-cons b i 0 h, left, length-drop (suc i) b, pow-succ', add-mul, mul_assoc) (omega arith)

-- a column counts at most 9 * 23, so i columns count less than 23 * 10 ^ i
pub record Summed (b : List ℕ) (i n : ℕ) : Type 0 where
  pub within : i ≤ length b
  pub small : n + 23 ≤ 23 * 10 ^ i
  pub total : n * 10 ^ (length b - i) + field_value (drop i b) ≡ field_value b

pub sum-start : (b : List ℕ) → Summed b 0 0
sum-start b = record { within = omega arith; small = omega arith; total = rw (zero-mul, zero-add) }

module _ (b : List ℕ) (i n : ℕ) (s : Summed b i n) (h : i < length b) (byte : get_or b i 0 < 256) where
  pub sum_fits : length b ≤ most_columns → n * 10 + (get_or b i 0 - digit_zero) < 2 ^ 64
  sum_fits few = omega (arith, s.small, pow-le-pow_right {n = 10} (lit< tt) {i = suc i} {j = most_columns} (omega arith), pow-suc 10 i)

  pub sum_more : Summed b (i + 1) (n * 10 + (get_or b i 0 - digit_zero))
  sum_more =
      rw (add-one i)
      (record { within = omega arith; small = rw (pow-suc 10 i) (omega (arith, s.small)); total = sym (sum-next b i n (omega arith)) ∙ s.total })

pub sum_end : (b : List ℕ) (i n : ℕ) → Summed b i n → length b ≤ i → n ≡ field_value b
unfolding field_value
sum_end b i n s h =
    let none : length b - i ≡ 0 = omega arith in
    let past : drop i b ≡ [] = drop_of_length-le b {i = i} (omega arith) in
    omega (arith, (rw (none, past, pow-zero, mul-one, add-zero) at s.total))

-- ---- the columns of a number

-- a column left of the last, from the number without the digits to its right
pub left-digit : (n k : ℕ) → column n (suc k) ≡ cond (eqb (n / 10 ^ suc k) 0) blank (digit_zero + n / 10 ^ suc k % 10)
unfolding column
left-digit n k =
    let pos : 0 < 10 ^ suc k = one-le-pow (suc k) 10 (lit< tt) in
    rw (same_test (ltb n (10 ^ suc k)) (eqb (n / 10 ^ suc k) 0)
    (λ t. eq-eqb _ 0 (div-eq_of_lt (ltb-true n _ t)))
    (λ t. lt-ltb n _ (rw (one-mul (10 ^ suc k)) at ((div-lt_iff_lt-mul {k = 10 ^ suc k} {x = n} {y = 1} pos).0 (omega (arith, eqb-true (n / 10 ^ suc k) 0 t))))))

column-at : (w n i : ℕ) → i < w → get_or (write_field w n) i 0 ≡ column n (w - suc i)
unfolding write_field
column-at zero n i h = absurd (omega arith)
column-at (suc w) n zero h = let e : suc w - 1 ≡ w = omega arith in rw e
column-at (suc w) n (suc i) h = let e : suc w - suc (suc i) ≡ w - suc i = omega arith in rw e (column-at w n i (omega arith))

-- a column that differs
pub differs : (b : List ℕ) (w n i : ℕ) → i < w → (get_or b i 0 ≡ column n (w - suc i) → ⊥) → same b (write_field w n) ≡ false
differs b w n i h f = fails _ (λ t. f (ap (λ (l : List ℕ). get_or l i 0) (same_true b _ t) ∙ column-at w n i h))

-- one column more, to the left of k columns that agree
agrees : (b : List ℕ) (k n i : ℕ) → i < length b → get_or b i 0 ≡ column n k → same (drop (suc i) b) (write_field k n) ≡ true
    → same (drop i b) (write_field (suc k) n) ≡ true
unfolding same write_field
agrees b k n i h e s = rw (drop-cons b i 0 h) (both (eq-eqb (get_or b i 0) (column n k) e) s)

-- of w columns those from i on agree, and rest is n without their digits but the first
pub record Agreeing (b : List ℕ) (w n i rest : ℕ) : Type 0 where
  pub size : length b ≡ w
  pub within : i < w
  pub digits : rest ≡ n / 10 ^ (w - suc i)
  pub columns : same (drop i b) (write_field (w - i) n) ≡ true

-- the last column
module _ (b : List ℕ) (w n : ℕ) (size : length b ≡ w) (some_column : 1 ≤ w) where
  none_right : w - suc (w - 1) ≡ 0
  none_right = omega arith

  pub last_agrees : get_or b (w - 1) 0 ≡ digit_zero + n % 10 → Agreeing b w n (w - 1) n
  unfolding column same write_field
  last_agrees e =
      let one : w - (w - 1) ≡ suc zero = omega arith in
      let past : drop (suc (w - 1)) b ≡ [] = drop_of_length-le b {i = suc (w - 1)} (omega arith) in
      record {
        size = size;
        within = omega arith;
        digits = rw (none_right, pow-zero, div-one);
        columns = rw one (agrees b zero n (w - 1) (omega arith) e (rw past));
      }

  pub last_differs : (get_or b (w - 1) 0 ≡ digit_zero + n % 10 → ⊥) → same b (write_field w n) ≡ false
  unfolding column
  last_differs f = differs b w n (w - 1) (omega arith) (rw none_right f)

-- the column to the left
module _ (b : List ℕ) (w n i rest : ℕ) (a : Agreeing b w n i rest) (pos : 0 < i) where
  pub room_left : i - 1 < length b
  room_left = omega (arith, a.size, a.within)

  next-column : column n (w - suc (i - 1)) ≡ cond (eqb (rest / 10) 0) blank (digit_zero + rest / 10 % 10)
  next-column =
      let here : w - suc (i - 1) ≡ suc (w - suc i) = omega arith in
      let less : rest / 10 ≡ n / 10 ^ suc (w - suc i) = rw (a.digits, pow-suc) (div-div-eq-div-mul n (10 ^ (w - suc i)) 10) in
      rw (here, less) (left-digit n (w - suc i))

  pub left_agrees : get_or b (i - 1) 0 ≡ cond (eqb (rest / 10) 0) blank (digit_zero + rest / 10 % 10) → Agreeing b w n (i - 1) (rest / 10)
  left_agrees e =
      let here : w - suc (i - 1) ≡ suc (w - suc i) = omega arith in
      let more : w - (i - 1) ≡ suc (w - suc (i - 1)) = omega arith in
      let up : suc (i - 1) ≡ i = omega arith in
      record {
        size = a.size;
        within = omega arith;
        digits = rw (a.digits, here, pow-suc) (div-div-eq-div-mul n (10 ^ (w - suc i)) 10);
        columns = rw more (agrees b (w - suc (i - 1)) n (i - 1) room_left (e ∙ sym next-column) (rw up a.columns));
      }

  pub left-differs : (get_or b (i - 1) 0 ≡ cond (eqb (rest / 10) 0) blank (digit_zero + rest / 10 % 10) → ⊥) → same b (write_field w n) ≡ false
  left-differs f = differs b w n (i - 1) (omega arith) (λ e. f (e ∙ next-column))

-- no column is left
pub all_agree : (b : List ℕ) (w n i rest : ℕ) → Agreeing b w n i rest → i ≤ 0 → same b (write_field w n) ≡ true
all_agree b w n i rest a h =
    let first : i ≡ 0 = omega arith in
    rw (first, sub-zero) at a.columns

-- ---- a field written from the right: each column is set once, and those to its right stay

pub no_column : (b : List ℕ) (n : ℕ) → length b ≡ 0 → b ≡ write_field (length b) n
unfolding write_field
no_column [] n e = refl
no_column (c ∷ b) n e = absurd (omega (arith, e))

module _ (b : List ℕ) (w n c : ℕ) where
  pub last_set : length b ≡ w → 1 ≤ w → c ≡ digit_zero + n % 10 → Agreeing (set b (w - 1) c) w n (w - 1) n
  last_set size some_column e =
      last_agrees (set b (w - 1) c) w n (length-set b (w - 1) c ∙ size) some_column (get_or-set_same b (w - 1) c 0 (omega arith) ∙ e)

  module _ (i rest : ℕ) (a : Agreeing b w n i rest) (pos : 0 < i) where
    right_stays : Agreeing (set b (i - 1) c) w n i rest
    right_stays =
        record {
          size = length-set b (i - 1) c ∙ a.size;
          within = a.within;
          digits = a.digits;
          columns = rw (drop-set-lt i b (i - 1) c (omega arith)) a.columns;
        }

    pub left-set : c ≡ cond (eqb (rest / 10) 0) blank (digit_zero + rest / 10 % 10) → Agreeing (set b (i - 1) c) w n (i - 1) (rest / 10)
    left-set e = left_agrees (set b (i - 1) c) w n i rest right_stays pos (get_or-set_same b (i - 1) c 0 (room_left b w n i rest a pos) ∙ e)

pub all_set : (b : List ℕ) (w n i rest : ℕ) → Agreeing b w n i rest → i ≤ 0 → b ≡ write_field w n
all_set b w n i rest a h = same_true b _ (all_agree b w n i rest a h)

-- ---- the answer: n is the number in the columns

module _ (w : ℕ) (b : List ℕ) (n : ℕ) (sum : n ≡ field_value b) where
  pub field_read : same b (write_field w n) ≡ true → read_field w b ≡ some n
  unfolding read_field
  field_read t = let u = (rw sum at t) in rw (u, sum)

  pub field-refused : same b (write_field w n) ≡ false → read_field w b ≡ none
  unfolding read_field
  field-refused t = let u = (rw sum at t) in rw u

  pub field_fits : same b (write_field w n) ≡ true → w ≤ most_columns → n < 10 ^ most_columns
  field_fits t few = omega (arith, (write_read_field w b n (field_read t)).small, pow-le-pow_right {n = 10} (lit< tt) {i = w} {j = most_columns} few)

-- bytes of another width are no field
pub wrong_width : (w : ℕ) (b : List ℕ) → (length b ≡ w → ⊥) → read_field w b ≡ none
unfolding read_field
wrong_width w b f = rw (fails (same b (write_field w (field_value b))) (λ t. f (ap length (same_true b _ t) ∙ length-field w _)))
