-- The texts of programs that print a record's sheet, and what the calls for them answer.
use Rattle.std.specs.Prelude.{true, cond, ◌≡◌, eqb}
use Rattle.ternary.specs.Lists.{Bytes}
use Rattle.net.specs.declared.Net.{Net}
use Rattle.sheet.specs.declared.Reading.{Reading}
use Rattle.sheet.specs.Limits.{most_bytes}
use Rattle.sheet.specs.Reading.{read_sheet}
use Rattle.sheet.specs.Valid.{valid}
use Rattle.sheet.specs.Writing.{write_sheet}
use Rattle.output.specs.declared.Written.TheVariants.{Last}
use Rattle.output.specs.Output.{first_line}
use Rattle.output.specs.Calls.{Report, put}
use Rattle.writer.specs.Agreed.{canonical_sheet}

-- of a reading, the record's sheet, as `write` writes it; where it is refused, one line of four fields: 0, the number, its place and 0
unfoldable pub printed : (write : Net → Bytes) → Reading → Bytes
printed write reading = cond (eqb reading.answer.number 0) (write reading.net) (first_line reading.answer 0)

-- a text at the front of a buffer with room for any sheet, and nothing is to follow it
abbrev pub whole_report : (text : Bytes) → Bytes → Report
whole_report text out = put Last most_bytes text out

-- ---- the program `write_net`, for the bytes of the file `net`: the net's sheet in the agreed order

unfoldable pub text_of : Bytes → Bytes
text_of sheet = printed canonical_sheet (read_sheet sheet)

abbrev pub report_of : Bytes → Bytes → Report
report_of sheet out = whole_report (text_of sheet) out

-- ---- what other calls read, in the record's own order

-- the record of a reading with answer 0 is valid
abbrev pub GivesRecord : Reading → Type 0
GivesRecord reading = reading.answer.number ≡ 0 → valid reading.net ≡ true

abbrev pub own_report_of : Reading → Bytes → Report
own_report_of reading out = whole_report (printed write_sheet reading) out
