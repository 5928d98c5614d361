use Prim.Native.Nat.{◌≤◌, ◌-◌, suc}
use Rattle.net.specs.Limits.{most_vertices}
use Rattle.net.proofs.Flags.{Flagged}
use Rattle.net.proofs.KeyFlags.{key_among}
use Rattle.graph.proofs.key_flags.Given as goal

abbrev pub invariant-loop-edge : goal.invariant-loop-edge
invariant-loop-edge l = (l.edge-index ≤ l.count) × Flagged (suc most_vertices) (key_among l.fn.net l.edge-index) l.keys

abbrev pub decreases-loop-edge : goal.decreases-loop-edge
decreases-loop-edge l = l.count - l.edge-index
