-- What the rows over the graph may count on: the counts are within their limits, and every vertex and edge in use has values that are allowed.
use Rattle.std.specs.Prelude.{ℕ, ◌+◌, ◌≤◌, ◌<◌, true, ◌≡◌, length, get_or}
use Rattle.net.specs.declared.Net.{Net}
use Rattle.net.specs.Limits.{most_vertices, most_edges}
use Rattle.net.specs.Graph.{no_vertex, no_edge, vertex_at, edge_at}
use Rattle.sheet.specs.Rules.{counts_ok, vertex_ok, edge_ok}

pub record Checked (N : Net) : Type 0 where
  pub counts : counts_ok N.vertex_count N.edge_count N.letter_count ≡ true
  pub vertices : (v : ℕ) → 1 ≤ v → v ≤ N.vertex_count → vertex_ok N (vertex_at N v) ≡ true
  pub edges : (i : ℕ) → i < N.edge_count → edge_ok N (edge_at N i) ≡ true

-- What the reader may count on while lines are added: the record has its places, and the first j lines below the header had values that are allowed.
pub record SoFar (N : Net) (j : ℕ) : Type 0 where
  pub counts : counts_ok N.vertex_count N.edge_count N.letter_count ≡ true
  pub vertex_places : length N.vertices ≡ most_vertices
  pub edge_places : length N.edges ≡ most_edges
  pub vertices : (i : ℕ) → i < j → i < N.vertex_count → vertex_ok N (get_or N.vertices i no_vertex) ≡ true
  pub edges : (k : ℕ) → N.vertex_count + k < j → edge_ok N (get_or N.edges k no_edge) ≡ true
