-- A record is valid if some accepted sheet gives it (`valid_iff_accepted`); a call that is handed another refuses with 41.
use Rattle.std.specs.Prelude.{Bool, true, false, ◌&&◌, List, [], ◌∷◌, eqb, length, take, drop}
use Rattle.std.proofs.Math.Option.{Option, none, some}
use Rattle.net.specs.Limits.{most_vertices, most_edges}
use Rattle.net.specs.declared.Vertex.{Vertex}
use Rattle.net.specs.declared.Edge.{Edge}
use Rattle.net.specs.declared.Net.{Net}
use Rattle.sheet.specs.declared.Answer.{Answer}
use Rattle.sheet.specs.Rows.{first_row}
use Rattle.sheet.specs.Rules.{counts_ok, vertex_ok, edge_ok}
use Rattle.sheet.specs.Graph.{graph_rows}

module _ {A : Type 0} (p : A → Bool) where
  -- does every element pass the test?
  unfoldable pub all_of : List A → Bool
  all_of [] = true
  all_of (x ∷ xs) = p x && all_of xs

-- the places beyond those in use are zero
unfoldable pub is_no_vertex : Vertex → Bool
is_no_vertex x = eqb x.role 0 && eqb x.label 0

unfoldable pub is_no_edge : Edge → Bool
is_no_edge e = eqb e.end1 0 && eqb e.end2 0 && eqb e.form 0 && eqb e.symbol 0

unfoldable pub passes : Option Answer → Bool
passes none = true
passes (some a) = false

unfoldable pub valid : Net → Bool
valid N =
    eqb (length N.vertices) most_vertices
    && eqb (length N.edges) most_edges
    && counts_ok N.vertex_count N.edge_count N.letter_count
    && all_of (vertex_ok N) (take N.vertex_count N.vertices)
    && all_of is_no_vertex (drop N.vertex_count N.vertices)
    && all_of (edge_ok N) (take N.edge_count N.edges)
    && all_of is_no_edge (drop N.edge_count N.edges)
    && passes (first_row (graph_rows N))
