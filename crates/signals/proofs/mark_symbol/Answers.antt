-- `signals::mark_symbol` meets its contract. Assumes nothing.
use mathlib.Core.Path.{◌≡◌, sym, ap, ◌∙◌}
use Rattle.net.specs.Symbols.{decode, is_variable}
use Rattle.net.proofs.Values.{variable_range}
use Rattle.net.proofs.SignalFlags.{mark_variable, mark_constant}
use Rattle.signals.proofs.mark_symbol.Goals as goal
use Rattle.signals.proofs.mark_symbol.Goals.{After-is_variable}

-- what the test tells
is-variable : (c : After-is_variable) → is_variable (decode c.args.symbol) ≡ c.is_variable.result
is-variable c = sym (c.is_variable.ensures ∙ ap is_variable c.from.ensures)

pub bounds-flags-symbol : goal.bounds-flags-symbol
bounds-flags-symbol c = variable_range _ (is-variable (goal.at.bounds-flags-symbol c).After-is_variable ∙ c.if-is_variable.true)

pub returns-then-is_variable : goal.returns-then-is_variable
returns-then-is_variable c = mark_variable _ _ (is-variable (goal.at.returns-then-is_variable c).After-is_variable ∙ c.if-is_variable.true)

pub returns-else-is_variable : goal.returns-else-is_variable
returns-else-is_variable c = mark_constant _ _ (is-variable (goal.at.returns-else-is_variable c).After-is_variable ∙ c.if-is_variable.false)
