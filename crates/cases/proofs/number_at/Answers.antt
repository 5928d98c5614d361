-- The field that stands there is read, or refused.
use mathlib.Core.Path.{sym, ◌∙◌}
use Rattle.cases.proofs.InputLaws.{number_there, number_missing}
use Rattle.cases.proofs.number_at.Goals as goal

pub returns-in-Some : goal.returns-in-Some
returns-in-Some c =
    number_there _ _ _ (rw (← c.part.ensures) (sym c.read_field.ensures ∙ c.in-Some.is))

pub returns-in-None : goal.returns-in-None
returns-in-None c =
    number_missing _ _ (rw (← c.part.ensures) (sym c.read_field.ensures ∙ c.in-None.is))
