-- A line that is not allowed is refused; of one that is, the symbols fit the gate.
use mathlib.Core.Path.{sym, ◌∙◌}
use Rattle.gates.proofs.LineSteps.{line_range}
use Rattle.gates_reader.proofs.lines.decode_gate.Goals as goal

pub gate_of-requires : goal.gate_of-requires
gate_of-requires c = line_range _ _ _ _ (sym c.gate_line_ok.ensures ∙ c.if-not-gate_line_ok.false)
