-- Document 01's worked sheet as a text and as a record, and one name that opens every definition of the sheet.
use Prim.Native.Nat.{ℕ}
use Prim.Native.String.{String}
use mathlib.Core.List.{List, [], ◌∷◌, ◌++◌}
use Rattle.net.specs.declared.Net.{Net}
use Rattle.net.specs.SignalTable.{signal_count}
use Rattle.net.proofs.Concrete.{vertex, edge, net, model}
use Rattle.ternary.specs.Lists.{same}
use Rattle.sheet.specs.Field.{column, write_field, field_value, read_field}
use Rattle.sheet.specs.Line.{write_line, field_at, five_fields, read_line, has_line, line_in, line_number_in}
use Rattle.sheet.specs.Rows.{first_row}
use Rattle.sheet.specs.Record.{start_net, empty_net}
use Rattle.sheet.specs.Rules.{counts_ok, header_ok, vertex_ok, symbol_ok, edge_ok}
use Rattle.sheet.specs.Pairs.{is_between, edges_between, exceeds, lacks_partner}
use Rattle.sheet.specs.Graph.{partner_place, key_place, over_signals, signal_place, graph_rows}
use Rattle.sheet.specs.Reading.{vertex_line_ok, edge_line_ok, add_line, step_line, conclude, read_lines, whole_lines, read_header, read_in}
use Rattle.sheet.specs.Writing.{vertex_lines, edge_lines, write_in}
use Rattle.sheet.specs.Valid.{all_of, is_no_vertex, is_no_edge, passes, valid}
use Rattle.sheet.specs.Job.{job_in}
use Rattle.sheet.specs.Text.{bytes}

-- `unfolding open_all` opens every definition of the sheet and of the net
unfoldable pub open_all : Unit {0}
unfolding
    model net signal_count same column write_field field_value read_field write_line field_at five_fields read_line has_line line_in line_number_in
    first_row start_net empty_net counts_ok header_ok vertex_ok symbol_ok edge_ok is_between edges_between exceeds lacks_partner partner_place key_place over_signals
    signal_place graph_rows vertex_line_ok edge_line_ok add_line step_line conclude read_lines whole_lines read_header read_in vertex_lines edge_lines
    write_in all_of is_no_vertex is_no_edge passes valid job_in
open_all = tt

-- document 01's sheet with other lines 1, 5 and 8
abbrev pub sheet_with : String → String → String → List ℕ
sheet_with line1 line5 line8 =
    bytes line1
    ++ bytes "   2   1   0   0   0\n"
    ++ bytes "   2   2   0   1   0\n"
    ++ bytes "   2   3   2   0   0\n"
    ++ bytes line5
    ++ bytes "   3   2   3   1  11\n"
    ++ bytes "   3   2   3   1 103\n"
    ++ bytes line8
    ++ bytes "   3   4   1   0 103\n"

abbrev pub worked_sheet : List ℕ
worked_sheet = sheet_with "   1   4   4   1   1\n" "   2   4   1   0   0\n" "   3   3   4   0  11\n"

-- its record
unfoldable pub worked_net : Net
worked_net =
    net (vertex 0 0 ∷ vertex 0 1 ∷ vertex 2 0 ∷ vertex 1 0 ∷ [])
    (edge 2 3 1 11 ∷ edge 2 3 1 103 ∷ edge 3 4 0 11 ∷ edge 4 1 0 103 ∷ [])
    1
