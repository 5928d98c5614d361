use Prim.Native.Nat.{◌≤◌, ◌-◌}
use Rattle.lanes.specs.Lanes.{assignments, lane, chosen}
use Rattle.lanes.proofs.GridLaws.{RowFilled}
use Rattle.connections.proofs.conditions.choose_row.Given as goal

abbrev pub invariant-loop-w : goal.invariant-loop-w
invariant-loop-w l = (l.w ≤ assignments) × RowFilled assignments l.v (λ b. chosen l.low l.high (lane l.columns l.p b)) l.initial.rows l.rows l.w

abbrev pub decreases-loop-w : goal.decreases-loop-w
decreases-loop-w l = assignments - l.w
