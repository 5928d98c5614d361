use Prim.Native.Nat.{◌≤◌, ◌-◌}
use lib.ListN.{get_or}
use Rattle.net.specs.Graph.{no_vertex}
use Rattle.net.proofs.VertexTables.{Entered}
use Rattle.net.proofs.vertex_tables.by_vertex.Given as goal

abbrev pub invariant-loop-i : goal.invariant-loop-i
invariant-loop-i g l = (l.i ≤ l.count) × Entered (λ i x. goal.F-post g l.fn.f (get_or l.fn.net.vertices i no_vertex) x) l.fn.other l.table l.i

abbrev pub decreases-loop-i : goal.decreases-loop-i
decreases-loop-i g l = l.count - l.i
