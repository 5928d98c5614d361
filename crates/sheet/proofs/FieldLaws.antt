-- A field of any width: reading one and writing one undo each other.
use Prim.Native.Nat.{ℕ, zero, suc, ◌-◌, ◌/◌, ◌%◌, ◌^◌, ◌<◌}
use native.Mathlib.Nat.{div-eq_of_lt, mod-one, mod-eq_of_lt, mod-lt, one-le-pow, pow-succ'}
use native.Mathlib.Omega.{arith}
use mathlib.Core.Path.{◌≡◌, refl, sym, ap, ◌∙◌}
use mathlib.Core.Bool.{true≢false}
use mathlib.Core.List.{List}
use mathlib.Core.Option.{some}
use lib.Arith.{mod-mul}
use lib.Dec.{ltb, lit<}
use lib.ListN.{length, get_or}
use borrow.Author.Tests.{ltb-true, lt-ltb}
use Rattle.ternary.specs.Lists.{same}
use Rattle.ternary.proofs.Tests.{cond_by}
use Rattle.ternary.proofs.ListLaws.{same_true, same_refl}
use Rattle.sheet.specs.Limits.{blank, digit_zero}
use Rattle.sheet.specs.Field.{column, write_field, field_value, read_field}

pub length-field : (w n : ℕ) → length (write_field w n) ≡ w
unfolding write_field
length-field zero n = refl
length-field (suc w) n = ap suc (length-field w n)

ten_pos : (w : ℕ) → 0 < 10 ^ w
ten_pos w = one-le-pow w 10 (lit< tt)

-- the column that weighs 10 ^ k has n's digit there, also where it is blank: there the digit is 0
column-digit : (n k : ℕ) → column n k - digit_zero ≡ n / 10 ^ k % 10
unfolding column
column-digit n zero = omega arith
column-digit n (suc k) =
    cond_by (λ (c : ℕ). c - digit_zero ≡ n / 10 ^ suc k % 10) (ltb n (10 ^ suc k))
    (λ e. rw (div-eq_of_lt (ltb-true n (10 ^ suc k) e)))
    (λ _. omega arith)

-- so the columns hold n's last w digits
value_written : (w n : ℕ) → field_value (write_field w n) ≡ n % 10 ^ w
unfolding field_value write_field
value_written zero n = sym (mod-one n)
value_written (suc w) n =
    rw (length-field w n, column-digit n w, value_written w n, pow-succ' 10 w) (sym (mod-mul n (lit< tt) (ten_pos w)))

pub read_write_field : (w n : ℕ) → n < 10 ^ w → read_field w (write_field w n) ≡ some n
unfolding read_field
read_write_field w n h =
    let v : field_value (write_field w n) ≡ n = value_written w n ∙ mod-eq_of_lt h in
    rw (v, same_refl)

pub record Field (w : ℕ) (b : List ℕ) (n : ℕ) : Type 0 where
  pub written : write_field w n ≡ b
  pub small : n < 10 ^ w

pub write_read_field : (w : ℕ) (b : List ℕ) (n : ℕ) → read_field w b ≡ some n → Field w b n
unfolding read_field
write_read_field w b n =
    cond_by (λ o. o ≡ some n → Field w b n) (same b (write_field w (field_value b)))
    (λ t e.
    let field : b ≡ write_field w (field_value b) = same_true b _ t in
    let is : field_value b ≡ n = cc in
    let last : field_value b ≡ field_value b % 10 ^ w = ap field_value field ∙ value_written w (field_value b) in
    record { written = rw (← is) (sym field); small = rw (← is, last) (mod-lt (field_value b) (ten_pos w)) })
    (λ _ e. absurd (true≢false (cc)))

-- ---- two numbers with the same field

-- a number that starts with a blank has fewer digits than columns
blank_small : (n k : ℕ) → column n (suc k) ≡ blank → n < 10 ^ suc k
unfolding column
blank_small n k =
    cond_by (λ (c : ℕ). c ≡ blank → n < 10 ^ suc k) (ltb n (10 ^ suc k)) (λ t _. ltb-true n (10 ^ suc k) t) (λ _ e. absurd (omega arith))

-- the field of a number with fewer digits than columns is that of no other number, however large
pub field-same : (w m n : ℕ) → n < 10 ^ suc w → write_field (suc (suc w)) m ≡ write_field (suc (suc w)) n → m ≡ n
unfolding write_field column
field-same w m n h e =
    let starts : column n (suc w) ≡ blank = rw (lt-ltb n (10 ^ suc w) h) in
    let small : m < 10 ^ suc w = blank_small m w (ap (λ (l : List ℕ). get_or l 0 0) e ∙ starts) in
    sym (value_small small) ∙ ap field_value e ∙ value_small h
  where
    value_small : {x : ℕ} → x < 10 ^ suc w → field_value (write_field (suc (suc w)) x) ≡ x
    value_small {x} l = value_written (suc (suc w)) x ∙ mod-eq_of_lt (omega (arith, l, pow-succ' 10 (suc w)))
