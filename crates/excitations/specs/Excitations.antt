-- Excitations in lanes: row y holds those of storage vertex y at each assignment of its component's signals. A key node's row is its truth table.
use Rattle.std.specs.Prelude.{ℕ, suc, cond, List}
use Rattle.net.specs.declared.Net.{Net}
use Rattle.net.specs.Limits.{most_vertices}
use Rattle.net.specs.Graph.{is_storage}
use Rattle.net.specs.SignalTable.{excitation_at}
use Rattle.lanes.specs.Lanes.{lanes}

-- a number that is no storage vertex has no connection: 3
unfoldable pub excitation_lanes : Net → List ℕ
excitation_lanes N = lanes (suc most_vertices) (λ y w. cond (is_storage N y) (excitation_at N y w) 3)
