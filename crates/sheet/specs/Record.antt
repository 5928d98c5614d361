-- Records, and what a reading hands back.
use Rattle.std.specs.Prelude.{ℕ, List, replicate}
use Rattle.net.specs.Limits.{most_vertices, most_edges}
use Rattle.net.specs.Graph.{no_vertex, no_edge}
use Rattle.net.specs.declared.Net.{Net}
use Rattle.sheet.specs.declared.Answer.{Answer}
use Rattle.sheet.specs.declared.Reading.{Reading}
use Rattle.sheet.specs.Rows.{Row, answer, by_rows}

-- the record of a header before any vertex or edge is read
unfoldable pub start_net : ℕ → ℕ → ℕ → Net
start_net v e l =
    record {
      vertices = replicate most_vertices no_vertex;
      edges = replicate most_edges no_edge;
      vertex_count = v;
      edge_count = e;
      letter_count = l;
    }

unfoldable pub empty_net : Net
empty_net = start_net 0 0 0

abbrev pub refused : Answer → Reading
refused a = record { answer = a; net = empty_net }

abbrev pub accepted : Net → Reading
accepted N = record { answer = answer 0 0; net = N }

-- what a call that reads a net gives by its rows: the record N where none holds, else the refusal of the first
abbrev pub read_by : List Row → Net → Reading
read_by rows N = by_rows rows (accepted N) refused
