use Prim.Native.Nat.{◌≤◌, ◌-◌}
use mathlib.Core.Path.{◌≡◌}
use mathlib.Core.Option.{none}
use Rattle.ternary.specs.Lists.{least_below}
use Rattle.sheet.specs.Graph.{over_signals}
use Rattle.graph_rows.proofs.components.signal_place.Given as goal

abbrev pub invariant-loop-y : goal.invariant-loop-y
invariant-loop-y l = (l.y ≤ l.end) × (least_below l.y (over_signals l.graph.net) ≡ none)

abbrev pub decreases-loop-y : goal.decreases-loop-y
decreases-loop-y l = l.end - l.y
