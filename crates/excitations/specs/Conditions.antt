-- Conditions of edges in lanes: edge i at assignment w of the signals of the component that it touches.
use Rattle.std.specs.Prelude.{ℕ, suc, Bool, cond, ◌&&◌, List, ltb}
use Rattle.ternary.specs.Bits.{digit}
use Rattle.net.specs.declared.Edge.{Edge}
use Rattle.net.specs.declared.Net.{Net}
use Rattle.net.specs.declared.Kind.{Kind}
use Rattle.net.specs.declared.Symbol.{Symbol}
use Rattle.net.specs.declared.Symbol.TheVariants.{Constant, Letter, Vertex, Unknown}
use Rattle.net.specs.Limits.{most_vertices, most_edges}
use Rattle.net.specs.Symbols.{symbol_bound}
use Rattle.net.specs.Graph.{edge_at, is_storage}
use Rattle.net.specs.State.{usable}
use Rattle.net.specs.SignalTable.{signal_index, spread_input, spread_keys}
use Rattle.lanes.specs.Grid.{grid}
use Rattle.lanes.specs.Lanes.{lanes}

-- the place of each symbol among the signals of each storage vertex's component: a row for each vertex
unfoldable pub signal_places : Net → List ℕ
signal_places N = grid symbol_bound (suc most_vertices) (λ y s. cond (is_storage N y) (signal_index N y s) 0)

-- a symbol's value where its signal has the value b
abbrev pub symbol_at : Symbol → ℕ → ℕ
symbol_at s b = elim s [ Constant c ↦ c | Letter j ↦ b | Vertex v ↦ b | Unknown ↦ 0 ]

-- an end of e that is a storage vertex, if there is one, and the end opposite
unfoldable pub owner : Net → Edge → ℕ
owner N e = cond (is_storage N e.end1) e.end1 e.end2

unfoldable pub other : Net → Edge → ℕ
other N e = cond (is_storage N e.end1) e.end2 e.end1

-- edge i touches a component, and a connection of kind k may use it at assignment w of that component's signals
unfoldable pub usable_at : Net → Kind → ℕ → ℕ → Bool
usable_at N k i w =
    let y = owner N (edge_at N i) in
    is_storage N y && usable N (spread_input N y w) (spread_keys N y w) k i

unfoldable pub usable_lanes : Net → Kind → List ℕ
usable_lanes N k = lanes most_edges (λ i w. digit (ltb i N.edge_count && usable_at N k i w))
