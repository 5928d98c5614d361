-- Tables with an entry for each vertex number, whatever the entries are.
use Rattle.std.specs.Prelude.{ℕ, suc, ◌+◌, ◌<◌, ◌≡◌, List, length, get_or}
use Rattle.net.specs.declared.Vertex.{Vertex}
use Rattle.net.specs.declared.Net.{Net}
use Rattle.net.specs.Limits.{most_vertices}
use Rattle.net.specs.Graph.{no_vertex}

-- r has an entry for each number: R relates each vertex in use to its entry, and the other entries are z
pub record OfVertices {X : Type 0} (N : Net) (R : Vertex → X → Type 0) (z : X) (r : List X) : Type 0 where
  pub size : length r ≡ suc most_vertices
  pub first : get_or r 0 z ≡ z
  pub stored : (i : ℕ) → i < N.vertex_count → R (get_or N.vertices i no_vertex) (get_or r (i + 1) z)
  pub above : (v : ℕ) → N.vertex_count < v → get_or r v z ≡ z
