-- `line_answer` meets its contract.
use mathlib.Core.Path.{sym, ◌∙◌}
use Rattle.sheet.specs.Line.{line_number_in}
use Rattle.lines.proofs.line_answer.Goals as goal

pub returns-then-has_line : goal.returns-then-has_line
unfolding line_number_in
returns-then-has_line c = rw (sym c.has_line.ensures ∙ c.if-has_line.true)

pub returns : goal.returns
unfolding line_number_in
returns c = rw (sym c.has_line.ensures ∙ c.if-has_line.false)
