-- What a signal adds to the index of a key node's ternary table.
use Rattle.std.specs.Prelude.{ℕ, ◌*◌, ◌/◌, ◌%◌, List}
use Rattle.ternary.specs.TruthTable.{signal_kinds}
use Rattle.net.specs.declared.Net.{Net}
use Rattle.net.specs.Limits.{most_key_nodes}
use Rattle.net.specs.Graph.{key_vertex}
use Rattle.lanes.specs.Grid.{grid}
use Rattle.states.specs.Weights.{variables, weight_in}

-- a row for each variable and each digit, a column for each key node
unfoldable pub additions : Net → List ℕ
additions N = grid most_key_nodes (variables * signal_kinds) (λ r k. r % signal_kinds * weight_in signal_kinds N (key_vertex N k) (r / signal_kinds))
