-- The sheet of a record with w columns a field, edges in the record's order.
use Rattle.std.specs.Prelude.{ℕ, suc, List, [], ◌∷◌, ◌++◌, take}
use Rattle.ternary.specs.Lists.{Bytes}
use Rattle.net.specs.declared.Vertex.{Vertex}
use Rattle.net.specs.declared.Edge.{Edge}
use Rattle.net.specs.declared.Net.{Net}
use Rattle.sheet.specs.declared.Line.{Line}
use Rattle.sheet.specs.Limits.{Columns, field_width, edition}
use Rattle.sheet.specs.Line.{line, write_line}

abbrev pub header_line : Net → Line
header_line N = line 1 N.vertex_count N.edge_count N.letter_count edition

-- vertex j, counted from 0
abbrev pub vertex_line : ℕ → Vertex → Line
vertex_line j x = line 2 (suc j) x.role x.label 0

abbrev pub edge_line : Edge → Line
edge_line e = line 3 e.end1 e.end2 e.form e.symbol

unfoldable pub vertex_lines : Columns → ℕ → List Vertex → Bytes
vertex_lines w j [] = []
vertex_lines w j (x ∷ xs) = write_line w (vertex_line j x) ++ vertex_lines w (suc j) xs

unfoldable pub edge_lines : Columns → List Edge → Bytes
edge_lines w [] = []
edge_lines w (e ∷ es) = write_line w (edge_line e) ++ edge_lines w es

unfoldable pub write_in : Columns → Net → Bytes
write_in w N =
    write_line w (header_line N)
    ++ (vertex_lines w 0 (take N.vertex_count N.vertices)
    ++ edge_lines w (take N.edge_count N.edges))

-- in the width in force
abbrev pub write_sheet : Net → Bytes
write_sheet N = write_in field_width N
