-- `symbol_ok` meets its contract: f is the place after the form was told, t the one where it was a primed form.
use mathlib.Core.Path.{sym, ◌∙◌}
use Rattle.sheet.proofs.RuleSteps.{plain_symbol, primed-symbol, primed_constant, unknown_form}
use Rattle.rules.proofs.symbol_ok.Goals as goal

pub returns-then-is_variable : goal.returns-then-is_variable
returns-then-is_variable c =
    c.known_symbol-then-is_variable.ensures ∙ primed-symbol _ _ _ c.from-s.ensures (sym c.in-Primed.is ∙ c.from.ensures)
    (sym c.is_variable.ensures ∙ c.if-is_variable.true)

pub returns-in-Plain : goal.returns-in-Plain
returns-in-Plain c =
    c.known_symbol.ensures ∙ plain_symbol _ _ _ c.from-s.ensures (sym c.in-Plain.is ∙ c.from.ensures)

pub returns-else-is_variable : goal.returns-else-is_variable
returns-else-is_variable c =
    primed_constant _ _ _ c.from-s.ensures (sym c.in-Primed.is ∙ c.from.ensures)
    (sym c.is_variable.ensures ∙ c.if-is_variable.false)

pub returns-in-Unknown : goal.returns-in-Unknown
returns-in-Unknown c = unknown_form _ _ _ c.from-s.ensures (sym c.in-Unknown.is ∙ c.from.ensures)
