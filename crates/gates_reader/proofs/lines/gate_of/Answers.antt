-- The gate by its type; the symbols fit 16 bits.
use native.Mathlib.Omega.{arith}
use Rattle.gates.proofs.LineSteps.{is_inverter, is_nand, is_nor}
use Rattle.gates_reader.proofs.lines.gate_of.Goals as goal

pub returns-in-2 : goal.returns-in-2
returns-in-2 c = is_nand _ _ _ c.in-2.is

pub returns-in-0-to-1 : goal.returns-in-0-to-1
returns-in-0-to-1 c = is_inverter _ _ _ (omega arith)

pub returns-in_default : goal.returns-in_default
returns-in_default c = is_nor _ _ _ (omega arith)
