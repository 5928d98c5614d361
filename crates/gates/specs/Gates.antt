-- The net of gates (document 02, C-14). Gates are counted from 0 here: gate g is the paper's gate g + 1.
use Rattle.std.specs.Prelude.{ℕ, zero, suc, ◌+◌, ◌-◌, ◌*◌, Bool, true, false, cond, List, [], ◌∷◌, ◌++◌, ltb, length, get_or}
use Rattle.ternary.specs.Bits.{InputState, KeyState}
use Rattle.ternary.specs.Lists.{count_below}
use Rattle.net.specs.declared.Vertex.{Vertex}
use Rattle.net.specs.declared.Edge.{Edge}
use Rattle.net.specs.declared.Net.{Net}
use Rattle.net.specs.Limits.{most_vertices, most_edges}
use Rattle.net.specs.Graph.{no_vertex, no_edge}
use Rattle.net.specs.State.{value}
use Rattle.sheet.specs.SheetRows.{placed}
use Rattle.gates.specs.declared.Gate.{Gate}
use Rattle.gates.specs.declared.Gate.TheVariants.{Inverter, Nand, Nor}

-- ---- vertices

-- the vertices that carry 0 and 1, the supply rails; outputs follow them
abbrev pub low : ℕ
low = 1

abbrev pub high : ℕ
high = 2

abbrev pub first_output : ℕ
first_output = 3

-- the output of gate g
abbrev pub output_at : ℕ → ℕ
output_at g = first_output + g

-- an input vertex with its label; an output, of role 2; an inner vertex, of role 1
abbrev pub rail : ℕ → Vertex
rail l = record { role = 0; label = l }

abbrev pub output : Vertex
output = record { role = 2; label = 0 }

abbrev pub inner : Vertex
inner = record { role = 1; label = 0 }

-- the vertex at an index, vertex v standing at index v - 1: the rails, G outputs, then inner vertices
abbrev pub vertex_from : (G : ℕ) → ℕ → Vertex
vertex_from G zero = rail 0
vertex_from G (suc zero) = rail 1
vertex_from G (suc (suc g)) = cond (ltb g G) output inner

-- NANDs and NORs have an inner vertex
abbrev pub has_inner : Gate → Bool
has_inner (Inverter s) = false
has_inner (Nand s t) = true
has_inner (Nor s t) = true

-- ---- edges

abbrev pub edge : (u v form s : ℕ) → Edge
edge u v f s = record { end1 = u; end2 = v; form = f; symbol = s }

-- between two vertices under a symbol: a p edge has form 1, an n edge form 0
abbrev pub p_edge : (u v s : ℕ) → Edge
p_edge u v s = edge u v 1 s

abbrev pub n_edge : (u v s : ℕ) → Edge
n_edge u v s = edge u v 0 s

-- the edges of a gate with output o and inner vertex m: p before n, then by symbol as listed, the end nearer to the rail that carries 1 first. Edges that are
-- not in series join the output to a rail; those in series run by the inner vertex, the n edges of a NAND and the p edges of a NOR
unfoldable pub gate_edges : (o m : ℕ) → Gate → List Edge
gate_edges o m (Inverter s) = p_edge high o s ∷ n_edge o low s ∷ []
gate_edges o m (Nand s t) = p_edge high o s ∷ p_edge high o t ∷ n_edge o m s ∷ n_edge m low t ∷ []
gate_edges o m (Nor s t) = p_edge high m s ∷ p_edge m o t ∷ n_edge o low s ∷ n_edge o low t ∷ []

-- ---- the record

-- with these places, of which so many vertices and edges are in use, and so many letters
abbrev pub net_with : List Vertex → ℕ → List Edge → ℕ → ℕ → Net
net_with xs v es e l = record { vertices = xs; edges = es; vertex_count = v; edge_count = e; letter_count = l }

module _ (G : ℕ) (gate : ℕ → Gate) where
  -- the inner vertices of the first n gates
  unfoldable pub inners_before : ℕ → ℕ
  inners_before n = count_below n (λ g. has_inner (gate g))

  -- the inner vertex of gate g, if it has one: they stand behind the outputs, in the order of gates
  abbrev pub inner_at : ℕ → ℕ
  inner_at g = output_at G + inners_before g

  -- so many vertices there are with those of the first n gates
  abbrev pub vertices_before : ℕ → ℕ
  vertices_before n = high + G + inners_before n

  -- the edges of the first n gates, gate by gate
  unfoldable pub edges_before : ℕ → List Edge
  edges_before zero = []
  edges_before (suc n) = edges_before n ++ gate_edges (output_at n) (inner_at n) (gate n)

  -- the record of the first n gates, where there are G outputs and L letters
  unfoldable pub net_of_first : (L n : ℕ) → Net
  net_of_first L n =
      let edges = edges_before n in
      net_with
      (placed most_vertices (vertices_before n) (vertex_from G) no_vertex) (vertices_before n)
      (placed most_edges (length edges) (λ i. get_or edges i no_edge) no_edge) (length edges)
      L

  abbrev pub gate_net : (L : ℕ) → Net
  gate_net L = net_of_first L G

-- ---- the formula

-- on the values of its symbols: an inverter is 1 where x is 0, a NAND where one of both is 0, a NOR where both are 0 (a number minus a larger one is 0)
unfoldable pub gate_value : Net → InputState → KeyState → Gate → ℕ
gate_value N a q (Inverter s) = 1 - value N a q s
gate_value N a q (Nand s t) = 1 - value N a q s * value N a q t
gate_value N a q (Nor s t) = 1 - (value N a q s + value N a q t)
