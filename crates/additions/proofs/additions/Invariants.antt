use mathlib.Core.Path.{◌≡◌}
use Prim.Native.Nat.{◌≤◌, ◌-◌}
use Rattle.net.specs.Graph.{key_count}
use Rattle.lookups.proofs.AdditionLaws.{first_columns}
use Rattle.additions.proofs.additions.Given as goal

abbrev pub invariant-loop-k : goal.invariant-loop-k
invariant-loop-k l = (l.k ≤ key_count l.tables.graph.net) × (l.sums ≡ first_columns l.tables.graph.net l.k)

abbrev pub decreases-loop-k : goal.decreases-loop-k
decreases-loop-k l = key_count l.tables.graph.net - l.k
