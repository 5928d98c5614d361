-- The tests of a gate's line, in turn; the last field by the type.
use native.Mathlib.Omega.{arith}
use mathlib.Core.Path.{sym, ◌∙◌}
use Rattle.gates.proofs.LineSteps.{no_gate_line, bad_symbol, of_inverter, of_two}
use Rattle.gates_reader.proofs.lines.gate_line_ok.Goals as goal

pub returns-then-v-ne-GATE : goal.returns-then-v-ne-GATE
returns-then-v-ne-GATE c = no_gate_line _ _ _ _ (λ r. omega arith)

pub returns-then-v-lt-INVERTER : goal.returns-then-v-lt-INVERTER
returns-then-v-lt-INVERTER c = no_gate_line _ _ _ _ (λ r. omega arith)

pub returns-then-v-gt-NOR : goal.returns-then-v-gt-NOR
returns-then-v-gt-NOR c = no_gate_line _ _ _ _ (λ r. omega arith)

pub returns-then-v-first : goal.returns-then-v-first
returns-then-v-first c = no_gate_line _ _ _ _ (λ r. omega arith)

pub returns-then-place-g : goal.returns-then-place-g
returns-then-place-g c = no_gate_line _ _ _ _ (λ r. omega arith)

pub returns-then-not-symbol_ok : goal.returns-then-not-symbol_ok
returns-then-not-symbol_ok c = bad_symbol _ _ _ _ (sym c.symbol_ok.ensures ∙ c.if-not-symbol_ok.true)

pub returns-then-v-eq-INVERTER : goal.returns-then-v-eq-INVERTER
returns-then-v-eq-INVERTER c =
    of_inverter _ _ _ _ (omega arith) (sym c.symbol_ok.ensures ∙ c.if-not-symbol_ok.false) c.if-v-eq-INVERTER.true

pub returns : goal.returns
returns c =
    c.symbol_ok-2.ensures ∙ of_two _ _ _ _ (omega arith) (sym c.symbol_ok.ensures ∙ c.if-not-symbol_ok.false) c.if-v-eq-INVERTER.false
