use Prim.Native.Nat.{◌-◌, ◌≤◌}
use mathlib.Core.Path.{◌≡◌}
use Rattle.gates.specs.Building.{outputs_of}
use Rattle.gates_reader.proofs.building.outputs.Given as goal

abbrev pub invariant-loop-g : goal.invariant-loop-g
invariant-loop-g l = (l.g ≤ l.gates) × (l.net ≡ outputs_of l.gates l.letters l.g)

abbrev pub decreases-loop-g : goal.decreases-loop-g
decreases-loop-g l = l.gates - l.g
