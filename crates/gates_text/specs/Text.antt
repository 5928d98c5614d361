-- The text that the program `read_gates` prints for the bytes of the file `gates`, and what the call for it answers.
use Rattle.ternary.specs.Lists.{Bytes}
use Rattle.sheet.specs.Writing.{write_sheet}
use Rattle.output.specs.Calls.{Report}
use Rattle.writer_text.specs.Text.{printed, whole_report}
use Rattle.gates.specs.GateRows.{read_gates}

-- the net's sheet in the record's own order; where the gate sheet is refused, its number and place
unfoldable pub gate_text_of : Bytes → Bytes
gate_text_of sheet = printed write_sheet (read_gates sheet)

abbrev pub gate_report_of : Bytes → Bytes → Report
gate_report_of sheet out = whole_report (gate_text_of sheet) out
