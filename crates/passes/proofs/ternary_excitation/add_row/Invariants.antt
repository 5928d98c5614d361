use Prim.Native.Nat.{◌+◌, ◌≤◌, ◌-◌}
use Rattle.ternary.specs.Signal.{at}
use Rattle.net.specs.Limits.{most_key_nodes}
use Rattle.net.proofs.Filling.{Filled}
use Rattle.lanes.specs.Grid.{cell}
use Rattle.passes.proofs.ternary_excitation.add_row.Given as goal

abbrev pub invariant-loop-k : goal.invariant-loop-k
invariant-loop-k l = (l.k ≤ most_key_nodes) × Filled most_key_nodes (λ j. at l.initial.sums j + cell most_key_nodes l.additions l.row j) (at l.initial.sums) l.sums l.k

abbrev pub decreases-loop-k : goal.decreases-loop-k
decreases-loop-k l = most_key_nodes - l.k
