-- A line: five fields of w columns, then the byte that ends it; and one line of a sheet by its number.
use Rattle.std.specs.Prelude.{ℕ, ◌-◌, ◌*◌, ◌≤◌, Bool, cond, ◌&&◌, [], ◌∷◌, ◌++◌, leb, length, take, drop}
use Rattle.std.proofs.Math.Option.{Option, none, some}
use Rattle.ternary.specs.Lists.{Bytes, same}
use Rattle.sheet.specs.declared.Line.{Line}
use Rattle.std.specs.Prelude.{Some, None}
use Rattle.std.specs.Prelude.{Option as Answered}
use Rattle.sheet.specs.Limits.{Columns, field_width, field_count, line_bytes, line_end}
use Rattle.sheet.specs.Field.{write_field, read_field}

abbrev pub line : ℕ → ℕ → ℕ → ℕ → ℕ → Line
line a b c d e = record { kind = a; second = b; third = c; fourth = d; fifth = e }

unfoldable pub write_line : Columns → Line → Bytes
write_line w v =
    write_field w v.kind ++ write_field w v.second ++ write_field w v.third ++ write_field w v.fourth ++ write_field w v.fifth
    ++ line_end ∷ []

-- the number in field i, counted from 0
unfoldable pub field_at : Columns → Bytes → ℕ → Option ℕ
field_at w b i = read_field w (take w (drop (w * i) b))

unfoldable pub five_fields : Option ℕ → Option ℕ → Option ℕ → Option ℕ → Option ℕ → Option Line
five_fields (some a) (some b) (some c) (some d) (some e) = some (line a b c d e)
five_fields (some a) (some b) (some c) (some d) none = none
five_fields (some a) (some b) (some c) none e = none
five_fields (some a) (some b) none d e = none
five_fields (some a) none c d e = none
five_fields none b c d e = none

-- five fields, then the end of the line and nothing more
unfoldable pub read_line : Columns → Bytes → Option Line
read_line w b =
    cond
    (same (drop (w * field_count) b) (line_end ∷ []))
    (five_fields (field_at w b 0) (field_at w b 1) (field_at w b 2) (field_at w b 3) (field_at w b 4))
    none

-- the code's answer for a line
abbrev pub line_answer : Option Line → Answered Line
line_answer none = None
line_answer (some v) = Some v

-- ---- the call for one line of a sheet

-- the sheet has a full line of number n, the first being 1
pub record FullLineIn (w : Columns) (b : Bytes) (n : ℕ) : Type 0 where
  pub first : 1 ≤ n
  pub room : line_bytes w * n ≤ length b

-- a test of it
unfoldable pub has_line : Columns → Bytes → ℕ → Bool
has_line w b n = leb 1 n && leb (line_bytes w * n) (length b)

-- that line's bytes, the caller's own part of the sheet; empty where there is none
unfoldable pub line_in : Columns → Bytes → ℕ → Bytes
line_in w b n = cond (has_line w b n) (take (line_bytes w) (drop (line_bytes w * (n - 1)) b)) []

-- 0, or 47 where there is none
unfoldable pub line_number_in : Columns → Bytes → ℕ → ℕ
line_number_in w b n = cond (has_line w b n) 0 47

-- ---- in the width in force

abbrev pub write_number : ℕ → Bytes
write_number n = write_field field_width n

abbrev pub FullLine : Bytes → ℕ → Type 0
FullLine b n = FullLineIn field_width b n

abbrev pub sheet_line : Bytes → ℕ → Bytes
sheet_line b n = line_in field_width b n

abbrev pub line_number : Bytes → ℕ → ℕ
line_number b n = line_number_in field_width b n
