-- For the code alone: what it counts on where it writes, the lines that it writes, and what is left of the call once the record was tested.
use Rattle.std.specs.Prelude.{ℕ, ◌-◌, ◌≤◌, ◌≡◌, cond, ◌++◌, ltb, length, get_or, drop}
use Rattle.ternary.specs.Lists.{Bytes}
use Rattle.net.specs.declared.Net.{Net}
use Rattle.net.specs.Limits.{most_vertices, most_edges}
use Rattle.net.specs.Graph.{no_vertex, no_edge}
use Rattle.sheet.specs.declared.Line.{Line}
use Rattle.sheet.specs.Rows.{answer}
use Rattle.sheet.specs.Writing.{vertex_line, edge_line}
use Rattle.writer.specs.Write.{Writing, writing}

-- the counts are within their limits, and the record has its places
pub record Sized (N : Net) : Type 0 where
  pub vertices : N.vertex_count ≤ most_vertices
  pub edges : N.edge_count ≤ most_edges
  pub vertex_places : length N.vertices ≡ most_vertices
  pub edge_places : length N.edges ≡ most_edges

-- line j below the header, counted from 0
unfoldable pub body_line : Net → ℕ → Line
body_line N j = cond (ltb j N.vertex_count) (vertex_line j (get_or N.vertices j no_vertex)) (edge_line (get_or N.edges (j - N.vertex_count) no_edge))

-- the sheet at the buffer's front, or 51 where it has no room
unfoldable pub at_front : Bytes → Bytes → Writing
at_front sheet buffer =
    cond (ltb (length buffer) (length sheet))
    (writing (answer 51 0) 0 buffer)
    (writing (answer 0 0) (length sheet) (sheet ++ drop (length sheet) buffer))
