use Prim.Native.Nat.{suc, ◌*◌, ◌≤◌, ◌-◌}
use lib.Dec.{eqb}
use lib.ListN.{get_or}
use Rattle.net.specs.Limits.{most_vertices}
use Rattle.net.specs.Excitation.{excitation_of}
use Rattle.net.proofs.Filling.{Filled}
use Rattle.lanes.specs.Lanes.{assignments}
use Rattle.vertex_rows.proofs.combine.Given as goal

abbrev pub invariant-loop-i : goal.invariant-loop-i
invariant-loop-i l = (l.i ≤ suc most_vertices * assignments)
    × Filled (suc most_vertices * assignments) (λ j. excitation_of (eqb (get_or l.n0 j 0) 1) (eqb (get_or l.c0 j 0) 1) (eqb (get_or l.p1 j 0) 1) (eqb (get_or l.c1 j 0) 1)) (λ j. get_or l.initial.excitations j 0) l.excitations l.i

abbrev pub decreases-loop-i : goal.decreases-loop-i
decreases-loop-i l = suc most_vertices * assignments - l.i
