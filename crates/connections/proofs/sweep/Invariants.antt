use mathlib.Core.Path.{◌≡◌}
use Prim.Native.Nat.{◌≤◌, ◌-◌}
use Rattle.excitations.specs.Sweeps.{sweep}
use Rattle.excitations.proofs.Levels.{level_first}
use Rattle.connections.proofs.sweep.Given as goal

abbrev pub invariant-loop-n : goal.invariant-loop-n
invariant-loop-n l = (l.n ≤ l.count) × (l.marks ≡ sweep l.wiring.net.now l.on l.back l.n l.initial.marks) × (l.closed ≡ level_first l.wiring.net.now l.on l.back l.initial.marks l.n)

abbrev pub decreases-loop-n : goal.decreases-loop-n
decreases-loop-n l = l.count - l.n
