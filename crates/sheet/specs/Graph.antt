-- The rows that look at the whole graph: pairs (21), key nodes (22), signals of a component (23).
use Rattle.std.specs.Prelude.{ℕ, suc, ◌+◌, Bool, ◌&&◌, List, [], ◌∷◌, ltb}
use Rattle.std.proofs.Math.Option.{Option, map}
use Rattle.std.proofs.Math.ListN.{get_elem?}
use Rattle.ternary.specs.Lists.{least_below}
use Rattle.net.specs.Limits.{most_key_nodes, most_signals}
use Rattle.net.specs.Graph.{is_storage, keys}
use Rattle.net.specs.SignalTable.{signal_count}
use Rattle.net.specs.declared.Net.{Net}
use Rattle.sheet.specs.Rows.{Row, row}
use Rattle.sheet.specs.Pairs.{lacks_partner}

-- the line of edge i, counted from 0: the header and the vertices stand before the edges
abbrev pub edge_place : Net → ℕ → ℕ
edge_place N i = N.vertex_count + i + 2

-- 21: the line of the first edge that exceeds its partners
unfoldable pub partner_place : Net → Option ℕ
partner_place N = map (edge_place N) (least_below N.edge_count (lacks_partner N))

-- 22: the vertex of the first key node above the limit
unfoldable pub key_place : Net → Option ℕ
key_place N = get_elem? (keys N) most_key_nodes

-- the component of storage vertex y has too many signals
unfoldable pub over_signals : Net → ℕ → Bool
over_signals N y = is_storage N y && ltb most_signals (signal_count N y)

-- 23: the lowest vertex of any such component
unfoldable pub signal_place : Net → Option ℕ
signal_place N = least_below (suc N.vertex_count) (over_signals N)

unfoldable pub graph_rows : Net → List Row
graph_rows N = row 21 (partner_place N) ∷ row 22 (key_place N) ∷ row 23 (signal_place N) ∷ []
