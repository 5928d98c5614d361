use mathlib.Core.Path.{◌≡◌}
use mathlib.Core.Option.{none}
use Prim.Native.Nat.{◌≤◌, ◌-◌}
use Rattle.ternary.specs.Lists.{least_below}
use Rattle.net.specs.Tables.{is_member}
use Rattle.component_labels.proofs.lowest_member.Given as goal

abbrev pub invariant-loop-x : goal.invariant-loop-x
invariant-loop-x l = (l.x ≤ l.y) × (least_below l.x (is_member l.storage l.labels l.y) ≡ none)

abbrev pub decreases-loop-x : goal.decreases-loop-x
decreases-loop-x l = l.y - l.x
