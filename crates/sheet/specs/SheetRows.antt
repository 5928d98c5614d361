-- Which number a sheet of w columns a field gets, and where: document 01's rows for a sheet, each a condition on its bytes. `read_in` answers by them
-- (`read_by-rows`).
use Rattle.std.specs.Prelude.{ℕ, zero, suc, ◌+◌, ◌*◌, ◌/◌, Bool, true, false, not, cond, List, [], ◌∷◌, ◌++◌, eqb, ltb, length, take, drop}
use Rattle.std.proofs.Math.Option.{Option, none, some}
use Rattle.ternary.specs.Lists.{Bytes, table}
use Rattle.net.specs.declared.Vertex.{Vertex}
use Rattle.net.specs.declared.Edge.{Edge}
use Rattle.net.specs.declared.Net.{Net}
use Rattle.net.specs.Limits.{most_vertices, most_edges}
use Rattle.net.specs.Graph.{no_vertex, no_edge}
use Rattle.sheet.specs.declared.Line.{Line}
use Rattle.sheet.specs.Limits.{Columns, field_width, line_bytes}
use Rattle.sheet.specs.Line.{line, read_line}
use Rattle.sheet.specs.Rows.{Row, row, when, when_at}
use Rattle.sheet.specs.Rules.{header_ok}
use Rattle.sheet.specs.Graph.{graph_rows}
use Rattle.sheet.specs.Reading.{vertex_of, edge_of, vertex_line_ok, edge_line_ok, size_ok}

-- line n of a sheet, the header being line 0: its five numbers, or none where it is not five fields
unfoldable pub line_at : Columns → Bytes → ℕ → Option Line
line_at w b n = read_line w (take (line_bytes w) (drop (line_bytes w * n) b))

-- is it not five fields?
abbrev pub is_missing : Option Line → Bool
is_missing none = true
is_missing (some v) = false

-- the numbers of a line; zeros where it is not five fields, which its row 12 tells
abbrev pub numbers_of : Option Line → Line
numbers_of none = line 0 0 0 0 0
numbers_of (some v) = v

-- n places, of which the first k are in use and have f 0 to f (k - 1)
unfoldable pub placed : {A : Type 0} → ℕ → ℕ → (ℕ → A) → A → List A
placed n k f unused = table n (λ i. cond (ltb i k) (f i) unused)

-- the rows of thing i and of those after it, so many in turn
unfoldable pub in_turn : ℕ → ℕ → (ℕ → List Row) → List Row
in_turn zero i f = []
in_turn (suc m) i f = f i ++ in_turn m (suc i) f

module _ (w : Columns) (b : Bytes) where
  abbrev pub header : Line
  header = numbers_of (line_at w b 0)

  -- V and E
  abbrev pub vertex_count_of : ℕ
  vertex_count_of = header.second

  abbrev pub edge_count_of : ℕ
  edge_count_of = header.third

  -- the lines of vertex j and of edge i, both from 0
  abbrev pub vertex_line_at : ℕ → Option Line
  vertex_line_at j = line_at w b (1 + j)

  abbrev pub edge_line_at : ℕ → Option Line
  edge_line_at i = line_at w b (1 + vertex_count_of + i)

  -- the record that the lines of a sheet give, be they allowed or not
  abbrev pub vertex_from : ℕ → Vertex
  vertex_from j = vertex_of (numbers_of (vertex_line_at j))

  abbrev pub edge_from : ℕ → Edge
  edge_from i = edge_of (numbers_of (edge_line_at i))

  unfoldable pub net_in : Net
  net_in =
      record {
        vertices = placed most_vertices vertex_count_of vertex_from no_vertex;
        edges = placed most_edges edge_count_of edge_from no_edge;
        vertex_count = vertex_count_of;
        edge_count = edge_count_of;
        letter_count = header.fourth;
      }

  -- line n is not five fields; its place is the line's number, counted from 1
  abbrev pub fields_row : ℕ → Row
  fields_row n = row 12 (when_at (suc n) (is_missing (line_at w b n)))

  -- the line of a vertex, and that of an edge: its fields, then its values
  unfoldable pub vertex_rows : ℕ → List Row
  vertex_rows j = fields_row (1 + j) ∷ row 15 (when_at (suc (1 + j)) (not (vertex_line_ok net_in j (numbers_of (vertex_line_at j))))) ∷ []

  unfoldable pub edge_rows : ℕ → List Row
  edge_rows i =
      fields_row (1 + vertex_count_of + i)
      ∷ row 16 (when_at (suc (1 + vertex_count_of + i)) (not (edge_line_ok net_in (numbers_of (edge_line_at i)))))
      ∷ []

  -- its length; line 1; the number of lines; each later line in turn; the graph
  unfoldable pub rows_in : List Row
  rows_in =
      row 11 (when (not (size_ok w (length b))))
      ∷ fields_row 0
      ∷ row 13 (when_at 1 (not (header_ok header)))
      ∷ row 14 (when (not (eqb (length b / line_bytes w) (1 + vertex_count_of + edge_count_of))))
      ∷ (in_turn vertex_count_of 0 vertex_rows ++ (in_turn edge_count_of 0 edge_rows ++ graph_rows net_in))

-- in the width in force
abbrev pub net_of : Bytes → Net
net_of b = net_in field_width b

abbrev pub sheet_rows : Bytes → List Row
sheet_rows b = rows_in field_width b
