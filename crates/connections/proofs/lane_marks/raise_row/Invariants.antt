use Prim.Native.Nat.{◌≤◌, ◌-◌}
use Rattle.lanes.specs.Lanes.{assignments, lane, raised}
use Rattle.lanes.proofs.GridLaws.{RowFilled}
use Rattle.connections.proofs.lane_marks.raise_row.Given as goal

abbrev pub invariant-loop-w : goal.invariant-loop-w
invariant-loop-w l = (l.w ≤ assignments) × RowFilled assignments l.v (λ b. raised (lane l.on l.i b) (lane l.initial.marks l.u b) (lane l.initial.marks l.v b)) l.initial.marks l.marks l.w

abbrev pub decreases-loop-w : goal.decreases-loop-w
decreases-loop-w l = assignments - l.w
