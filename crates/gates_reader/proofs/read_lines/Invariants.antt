use Prim.Native.Nat.{◌+◌, ◌*◌}
use Rattle.gates.specs.Limits.{gate_line_bytes}
use Rattle.gates.proofs.LoopSteps.{SoFarGates}
use Rattle.gates_reader.proofs.read_lines.Given as goal

abbrev pub invariant-loop-g : goal.invariant-loop-g
invariant-loop-g l = SoFarGates l.sheet l.gates l.letters l.net (gate_line_bytes * (1 + l.g)) l.g
