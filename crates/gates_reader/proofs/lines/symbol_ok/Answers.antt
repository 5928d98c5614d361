-- A number above the symbols is none; the others stand for a symbol.
use Rattle.gates.proofs.LineSteps.{beyond_symbols}
use Rattle.gates_reader.proofs.lines.symbol_ok.Goals as goal

pub returns-then-s : goal.returns-then-s
returns-then-s c = beyond_symbols _ _ _ c.if-s.true
