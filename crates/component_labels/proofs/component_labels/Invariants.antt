use mathlib.Core.Path.{◌≡◌}
use Prim.Native.Nat.{suc, ◌≤◌, ◌-◌}
use Rattle.net.specs.Limits.{most_vertices}
use Rattle.net.specs.Graph.{edge_at}
use Rattle.net.specs.Classes.{inner, classes}
use Rattle.component_labels.proofs.component_labels.Given as goal

abbrev pub invariant-loop-edge : goal.invariant-loop-edge
invariant-loop-edge l = (l.edge-index ≤ l.count) × (l.labels ≡ classes (suc most_vertices) (λ k. (edge_at l.fn.net k).end1) (λ k. (edge_at l.fn.net k).end2) (λ k. inner l.fn.net (edge_at l.fn.net k)) l.edge-index)

abbrev pub decreases-loop-edge : goal.decreases-loop-edge
decreases-loop-edge l = l.count - l.edge-index
