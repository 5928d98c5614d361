-- The calls that write a record's sheet to a lent buffer.
use Rattle.std.specs.Prelude.{ℕ, not, List, [], ◌∷◌, ◌++◌, ltb, length, drop}
use Rattle.ternary.specs.Lists.{Bytes}
use Rattle.net.specs.declared.Net.{Net}
use Rattle.sheet.specs.declared.Answer.{Answer}
use Rattle.sheet.specs.Rows.{Row, row, when, answer, by_rows}
use Rattle.sheet.specs.Valid.{valid}
use Rattle.sheet.specs.Writing.{write_sheet}
use Rattle.writer.specs.Agreed.{canonical_sheet}

-- an answer, the sheet's length, and what the lent buffer then holds
pub record Writing : Type 0 where
  pub answer : Answer
  pub length : ℕ
  pub buffer : Bytes

abbrev pub writing : Answer → ℕ → Bytes → Writing
writing a n b = record { answer = a; length = n; buffer = b }

-- N is no record; the buffer is shorter than the sheet
unfoldable pub writing_rows : Net → Bytes → Bytes → List Row
writing_rows N sheet buffer = row 41 (when (not (valid N))) ∷ row 51 (when (ltb (length buffer) (length sheet))) ∷ []

-- the sheet at the buffer's front, and the bytes beyond it stay; a refusal writes nothing
unfoldable pub writing_by : Net → Bytes → Bytes → Writing
writing_by N sheet buffer =
    by_rows (writing_rows N sheet buffer)
    (writing (answer 0 0) (length sheet) (sheet ++ drop (length sheet) buffer))
    (λ a. writing a 0 buffer)

-- in the agreed order
abbrev pub writing_of : Net → Bytes → Writing
writing_of N buffer = writing_by N (canonical_sheet N) buffer

-- in the record's own order
abbrev pub own_writing_of : Net → Bytes → Writing
own_writing_of N buffer = writing_by N (write_sheet N) buffer
