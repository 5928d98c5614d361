-- The record of a net as a graph. Vertices are numbered from 1, as on the sheet: vertex v stands at index v - 1. Edges are counted from 0.
use Rattle.std.specs.Prelude.{ℕ, suc, ◌+◌, ◌-◌, Bool, ◌&&◌, ◌||◌, List, leb, ltb, eqb, length, get_or}
use Rattle.ternary.specs.Lists.{any_below, count_below, list_below}
use Rattle.net.specs.declared.Vertex.{Vertex}
use Rattle.net.specs.declared.Edge.{Edge}
use Rattle.net.specs.declared.Net.{Net}
use Rattle.net.specs.Limits.{vertex_base}

-- an unused place of the record
abbrev pub no_vertex : Vertex
no_vertex = record { role = 0; label = 0 }

abbrev pub no_edge : Edge
no_edge = record { end1 = 0; end2 = 0; form = 0; symbol = 0 }

unfoldable pub vertex_at : Net → ℕ → Vertex
vertex_at N v = get_or N.vertices (v - 1) no_vertex

unfoldable pub edge_at : Net → ℕ → Edge
edge_at N i = get_or N.edges i no_edge

-- vertex v exists and has role r: 0 input, 1 storage, 2 storage and output
unfoldable pub has_role : Net → ℕ → ℕ → Bool
has_role N v r = ltb 0 v && leb v N.vertex_count && eqb (vertex_at N v).role r

abbrev pub is_input : Net → ℕ → Bool
is_input N v = has_role N v 0

unfoldable pub is_storage : Net → ℕ → Bool
is_storage N v = has_role N v 1 || has_role N v 2

abbrev pub is_output : Net → ℕ → Bool
is_output N v = has_role N v 2

-- a key node is a storage vertex that is some edge's symbol
unfoldable pub is_key : Net → ℕ → Bool
is_key N v = is_storage N v && any_below N.edge_count (λ i. eqb (edge_at N i).symbol (vertex_base + v))

-- Key nodes are numbered in vertex order, here from 0: key index k is document 01's key node k + 1. keyIndex v counts the key nodes before v.
unfoldable pub key_index : Net → ℕ → ℕ
key_index N v = count_below v (is_key N)

unfoldable pub keys : Net → List ℕ
keys N = list_below (suc N.vertex_count) (is_key N)

-- h
unfoldable pub key_count : Net → ℕ
key_count N = length (keys N)

-- the vertex of key index k, for k below h
unfoldable pub key_vertex : Net → ℕ → ℕ
key_vertex N k = get_or (keys N) k 0
