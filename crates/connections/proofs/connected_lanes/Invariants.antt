use mathlib.Core.Path.{◌≡◌}
use Rattle.net.specs.declared.Kind.{Kind}
use Rattle.excitations.specs.Conditions.{usable_lanes}
use Rattle.excitations.proofs.Sweeps.{unset}
use Rattle.excitations.proofs.Marks.{Marks}
use Rattle.connections.proofs.connected_lanes.Given as goal

-- the loop holds the edges that the kind may use, but not the kind
abbrev pub invariant-loop-on : goal.invariant-loop-on
invariant-loop-on l = (k : Kind) → l.on ≡ usable_lanes l.wiring.net.now k → Marks l.wiring.net.now k l.value l.marks

abbrev pub decreases-loop-on : goal.decreases-loop-on
decreases-loop-on l = unset l.marks
