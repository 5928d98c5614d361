-- `has_line` meets its contract: n lines fit exactly if n is at most the quotient.
use mathlib.Core.Path.{sym}
use Rattle.sheet.proofs.LineSteps.{no_line_0, line_by_division}
use Rattle.lines.proofs.has_line.Goals as goal

pub returns-then-n-eq0 : goal.returns-then-n-eq0
returns-then-n-eq0 c = sym (no_line_0 _ _ _ c.if-n-eq0.true)

pub returns : goal.returns
returns c = line_by_division _ _ _ _ c.line_bytes.ensures c.if-n-eq0.false
