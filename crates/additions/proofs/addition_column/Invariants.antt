use Prim.Native.Nat.{◌*◌, ◌-◌, ◌/◌, ◌%◌, ◌≤◌}
use lib.ListN.{get_or}
use Rattle.ternary.specs.TruthTable.{signal_kinds}
use Rattle.net.specs.Limits.{most_key_nodes}
use Rattle.lanes.proofs.ColumnLaws.{ColumnFilled}
use Rattle.states.specs.Weights.{variables}
use Rattle.additions.proofs.addition_column.Given as goal

abbrev pub invariant-loop-r : goal.invariant-loop-r
invariant-loop-r l = (l.r ≤ variables * signal_kinds) × ColumnFilled most_key_nodes l.k (λ u. u % signal_kinds * get_or l.weights (u / signal_kinds) 0) l.initial.sums l.sums l.r

abbrev pub decreases-loop-r : goal.decreases-loop-r
decreases-loop-r l = variables * signal_kinds - l.r
