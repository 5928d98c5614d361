-- Connections to input vertices in lanes: what is meant. How the code finds them stands in Sweeps.
use Rattle.std.specs.Prelude.{ℕ, suc, Bool, ◌&&◌, List}
use Rattle.ternary.specs.Bits.{digit}
use Rattle.net.specs.declared.Net.{Net}
use Rattle.net.specs.declared.Kind.{Kind}
use Rattle.net.specs.Limits.{most_vertices}
use Rattle.net.specs.Graph.{is_storage}
use Rattle.net.specs.Excitation.{connected}
use Rattle.net.specs.SignalTable.{spread_input, spread_keys}
use Rattle.lanes.specs.Lanes.{lanes}

-- at assignment w of its component's signals, storage vertex y has a connection of kind k to an input vertex of value b
unfoldable pub connected_at : Net → Kind → ℕ → ℕ → ℕ → Bool
connected_at N k b y w = is_storage N y && connected N (spread_input N y w) (spread_keys N y w) k y b

unfoldable pub connected_lanes : Net → Kind → ℕ → List ℕ
connected_lanes N k b = lanes (suc most_vertices) (λ y w. digit (connected_at N k b y w))
