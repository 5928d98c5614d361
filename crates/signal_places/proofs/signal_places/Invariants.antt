use mathlib.Core.Path.{◌≡◌}
use Prim.Native.Nat.{suc, ◌≤◌, ◌-◌}
use Rattle.net.specs.Limits.{most_vertices}
use Rattle.excitations.proofs.PlaceLaws.{first_places}
use Rattle.signal_places.proofs.signal_places.Given as goal

abbrev pub invariant-loop-y : goal.invariant-loop-y
invariant-loop-y l = (l.y ≤ suc most_vertices) × (l.places ≡ first_places l.graph.net l.y)

abbrev pub decreases-loop-y : goal.decreases-loop-y
decreases-loop-y l = suc most_vertices - l.y
