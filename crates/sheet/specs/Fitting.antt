-- How the code tests the places of a record: one in use has values that are allowed, an unused one is zero. `valid` asks this of each list in two parts.
use Rattle.std.specs.Prelude.{ℕ, Bool, cond, List, ltb, get_or}
use Rattle.net.specs.declared.Net.{Net}
use Rattle.net.specs.Graph.{no_vertex, no_edge}
use Rattle.sheet.specs.Rules.{vertex_ok, edge_ok}
use Rattle.sheet.specs.Valid.{is_no_vertex, is_no_edge}

-- place i, from 0, of a list whose first `count` places are in use
abbrev pub fits : {A : Type 0} → (A → Bool) → (A → Bool) → ℕ → List A → A → ℕ → Bool
fits allowed unused count l z i = cond (ltb i count) (allowed (get_or l i z)) (unused (get_or l i z))

unfoldable pub vertex_fits : Net → ℕ → Bool
vertex_fits N i = fits (vertex_ok N) is_no_vertex N.vertex_count N.vertices no_vertex i

unfoldable pub edge_fits : Net → ℕ → Bool
edge_fits N i = fits (edge_ok N) is_no_edge N.edge_count N.edges no_edge i
