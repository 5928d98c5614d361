-- Reading a sheet of w columns a field: the header, then a line for each vertex, then a line for each edge, then the rows over the graph.
use Rattle.std.specs.Prelude.{ℕ, zero, suc, ◌+◌, ◌-◌, ◌*◌, ◌/◌, ◌%◌, Bool, cond, ◌&&◌, List, leb, ltb, eqb, length, take, drop, set}
use Rattle.std.proofs.Math.Option.{Option, none, some}
use Rattle.ternary.specs.Lists.{Bytes}
use Rattle.net.specs.declared.Vertex.{Vertex}
use Rattle.net.specs.declared.Edge.{Edge}
use Rattle.net.specs.declared.Net.{Net}
use Rattle.sheet.specs.declared.Answer.{Answer}
use Rattle.sheet.specs.declared.Reading.{Reading}
use Rattle.sheet.specs.Limits.{Columns, field_width, line_bytes, most_lines}
use Rattle.sheet.specs.declared.Line.{Line}
use Rattle.sheet.specs.Line.{read_line}
use Rattle.sheet.specs.Rows.{answer, first_row}
use Rattle.sheet.specs.Record.{start_net, refused, accepted}
use Rattle.sheet.specs.Rules.{header_ok, vertex_ok, edge_ok}
use Rattle.sheet.specs.Graph.{graph_rows}

-- Lines below the header are counted j = 0, 1, ..; line j has line number j + 2.

-- what one line does: the record with it, or a refusal's number
pub data Step : Type 0 where
  next : Net → Step
  stop : ℕ → Step

abbrev pub vertex_of : Line → Vertex
vertex_of v = record { role = v.third; label = v.fourth }

abbrev pub edge_of : Line → Edge
edge_of v = record { end1 = v.second; end2 = v.third; form = v.fourth; symbol = v.fifth }

abbrev pub with_vertices : Net → List Vertex → Net
with_vertices N xs =
    record {
      vertices = xs;
      edges = N.edges;
      vertex_count = N.vertex_count;
      edge_count = N.edge_count;
      letter_count = N.letter_count;
    }

abbrev pub with_edges : Net → List Edge → Net
with_edges N es =
    record {
      vertices = N.vertices;
      edges = es;
      vertex_count = N.vertex_count;
      edge_count = N.edge_count;
      letter_count = N.letter_count;
    }

-- vertex line: 2, its number, role, label, 0
unfoldable pub vertex_line_ok : Net → ℕ → Line → Bool
vertex_line_ok N j v = eqb v.kind 2 && eqb v.second (suc j) && eqb v.fifth 0 && vertex_ok N (vertex_of v)

-- edge line: 3, end, end, form, symbol
unfoldable pub edge_line_ok : Net → Line → Bool
edge_line_ok N v = eqb v.kind 3 && edge_ok N (edge_of v)

-- line j of five numbers: a vertex line where j is below the vertex count, else an edge line
unfoldable pub add_line : Net → ℕ → Line → Step
add_line N j v =
    cond
    (ltb j N.vertex_count)
    (cond (vertex_line_ok N j v) (next (with_vertices N (set N.vertices j (vertex_of v)))) (stop 15))
    (cond (edge_line_ok N v) (next (with_edges N (set N.edges (j - N.vertex_count) (edge_of v)))) (stop 16))

unfoldable pub step_line : Option Line → ℕ → Net → Step
step_line none j N = stop 12
step_line (some v) j N = add_line N j v

unfoldable pub conclude : Net → Option Answer → Reading
conclude N none = accepted N
conclude N (some a) = refused a

-- the lines that are left, from line j, with the record so far; reading stops at the first line refused
unfoldable pub read_lines : Columns → ℕ → Bytes → ℕ → Net → Reading
read_lines w zero rest j N = conclude N (first_row (graph_rows N))
read_lines w (suc left) rest j N =
    elim (step_line (read_line w (take (line_bytes w) rest)) j N) [
      | next N' ↦ read_lines w left (drop (line_bytes w) rest) (suc j) N'
      | stop n ↦ refused (answer n (j + 2))
    ]

-- n bytes are whole lines: not length 0, a multiple of a line, and no more than so many lines
unfoldable pub whole_lines : Columns → ℕ → ℕ → Bool
whole_lines w most n = leb 1 n && eqb (n % line_bytes w) 0 && leb n (line_bytes w * most)

abbrev pub size_ok : Columns → ℕ → Bool
size_ok w n = whole_lines w most_lines n

-- from line 1
unfoldable pub read_header : Columns → Bytes → Option Line → Reading
read_header w b none = refused (answer 12 1)
read_header w b (some h) =
    cond
    (header_ok h)
    (cond
    (eqb (length b / line_bytes w) (1 + h.second + h.third))
    (read_lines w (h.second + h.third) (drop (line_bytes w) b) 0 (start_net h.second h.third h.fourth))
    (refused (answer 14 0)))
    (refused (answer 13 1))

unfoldable pub read_in : Columns → Bytes → Reading
read_in w b = cond (size_ok w (length b)) (read_header w b (read_line w (take (line_bytes w) b))) (refused (answer 11 0))

-- in the width in force
abbrev pub read_sheet : Bytes → Reading
read_sheet b = read_in field_width b
