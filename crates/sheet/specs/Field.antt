-- A field of w columns: blanks, then a decimal number right-justified without leading zeros. Stated for any width.
use Rattle.std.specs.Prelude.{ℕ, zero, suc, ◌+◌, ◌-◌, ◌*◌, ◌/◌, ◌%◌, ◌^◌, cond, [], ◌∷◌, ltb, length}
use Rattle.std.proofs.Math.Option.{Option, none, some}
use Rattle.ternary.specs.Lists.{Bytes, same}
use Rattle.std.specs.Prelude.{Some, None}
use Rattle.std.specs.Prelude.{Option as Answered}
use Rattle.sheet.specs.Limits.{Columns, blank, digit_zero}

-- the column of n that weighs 10 ^ k: blank before n's first digit; the last column is always a digit
unfoldable pub column : ℕ → ℕ → ℕ
column n zero = digit_zero + n % 10
column n (suc k) = cond (ltb n (10 ^ suc k)) blank (digit_zero + n / 10 ^ suc k % 10)

-- the field of w columns of a number below 10 ^ w; of a larger one, which has no such field, its last w digits
unfoldable pub write_field : Columns → ℕ → Bytes
write_field zero n = []
write_field (suc w) n = column n w ∷ write_field w n

-- the number in columns, a blank counting 0: on ℕ, blank - digitZero is 0
unfoldable pub field_value : Bytes → ℕ
field_value [] = 0
field_value (c ∷ b) = (c - digit_zero) * 10 ^ length b + field_value b

-- the number whose field of w columns these bytes are
unfoldable pub read_field : Columns → Bytes → Option ℕ
read_field w b = cond (same b (write_field w (field_value b))) (some (field_value b)) none

-- the code's answer for a field
abbrev pub field_answer : Option ℕ → Answered ℕ
field_answer none = None
field_answer (some n) = Some n
