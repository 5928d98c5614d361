use Prim.Native.Nat.{◌≤◌, ◌-◌}
use Rattle.lanes.proofs.GridLaws.{RowFilled}
use Rattle.growth.proofs.JoinLaws.{shared}
use Rattle.growth.proofs.join.Given as goal

abbrev pub invariant-loop-i : goal.invariant-loop-i
invariant-loop-i l = (l.i ≤ l.third) × RowFilled l.third 2 (shared l.third l.initial.out) l.initial.out l.out l.i

abbrev pub decreases-loop-i : goal.decreases-loop-i
decreases-loop-i l = l.third - l.i
