use Prim.Native.Nat.{◌+◌}
use mathlib.Core.Path.{◌≡◌}
use lib.ListN.{drop}
use Rattle.gates.specs.Building.{append_edges}
use Rattle.gates_reader.proofs.building.append_edges.Given as goal

abbrev pub invariant-loop-edge : goal.invariant-loop-edge
invariant-loop-edge l = (l.next.edge_count ≡ l.fn.net.edge_count + l.edge-index) × (append_edges l.next (drop l.edge-index l.edges) ≡ append_edges l.fn.net l.edges)
