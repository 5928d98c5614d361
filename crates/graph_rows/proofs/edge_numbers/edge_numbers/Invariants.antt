use Prim.Native.Nat.{◌≤◌, ◌-◌}
use mathlib.Core.Bool.{cond}
use lib.Dec.{ltb}
use Rattle.net.specs.Limits.{most_edges}
use Rattle.net.specs.Graph.{edge_at}
use Rattle.net.proofs.Filling.{Filled}
use Rattle.sheet.specs.EdgeNumbers.{edge_number}
use Rattle.graph_rows.proofs.edge_numbers.edge_numbers.Given as goal

abbrev pub invariant-loop-j : goal.invariant-loop-j
invariant-loop-j l = (l.j ≤ l.count) × Filled most_edges (λ k. cond (ltb k l.net.edge_count) (edge_number (edge_at l.net k)) 0) (λ k. 0) l.numbers l.j

abbrev pub decreases-loop-j : goal.decreases-loop-j
decreases-loop-j l = l.count - l.j
