use mathlib.Core.Path.{◌≡◌}
use Prim.Native.Nat.{◌≤◌, ◌-◌}
use Rattle.ternary.specs.Bits.{digit}
use Rattle.ternary.specs.Lists.{any_below}
use Rattle.lanes.specs.Lanes.{assignments}
use Rattle.lanes.proofs.LaneLaws.{differs}
use Rattle.connections.proofs.lane_marks.is_level.Given as goal

abbrev pub invariant-loop-w : goal.invariant-loop-w
invariant-loop-w l = (l.w ≤ assignments) × (l.found ≡ digit (any_below l.w (differs l.on l.i l.marks l.u l.v)))

abbrev pub decreases-loop-w : goal.decreases-loop-w
decreases-loop-w l = assignments - l.w
