-- Ternary tables: an entry for each ternary assignment of a component's signals, the signal at place i weighing 3 ^ i.
use Rattle.std.specs.Prelude.{ℕ, cond, List, ltb, get_or}
use Rattle.ternary.specs.Lists.{table}
use Rattle.ternary.specs.TruthTable.{grow}
use Rattle.net.specs.declared.Net.{Net}
use Rattle.net.specs.Limits.{most_key_nodes, most_signals}
use Rattle.net.specs.Graph.{key_count, key_vertex}
use Rattle.net.specs.SignalTable.{excitation_at}
use Rattle.lanes.specs.Grid.{grid}
use Rattle.lanes.specs.Lanes.{assignments}

-- how many ternary assignments the most signals have (`ternary_assignments_power`: signalKinds ^ mostSignals)
abbrev pub ternary_assignments : ℕ
ternary_assignments = 6561

-- the ternary excitations of y, grown from its excitations over as many places as a component has signals at most
unfoldable pub ternary_table : Net → ℕ → List ℕ
ternary_table N y = grow most_signals (table assignments (excitation_at N y))

-- a row for each key node; zero beyond the last one
unfoldable pub ternary_tables : Net → List ℕ
ternary_tables N = grid ternary_assignments most_key_nodes (λ k i. cond (ltb k (key_count N)) (get_or (ternary_table N (key_vertex N k)) i 0) 0)
