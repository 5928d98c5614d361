-- Forms 2 and 3 are primed, each with its partners' form; no other form needs a partner.
use mathlib.Core.Path.{◌∙◌}
use Rattle.sheet.proofs.EdgeNumberLaws.{form_two, form_three, form_other}
use Rattle.graph_rows.proofs.partners.lacks_partner.Goals as goal

pub returns-in-2 : goal.returns-in-2
returns-in-2 c = c.exceeds_partners.ensures ∙ form_two _ _ _ c.in-2.is

pub returns-in-3 : goal.returns-in-3
returns-in-3 c = c.exceeds_partners-in-3.ensures ∙ form_three _ _ _ c.in-3.is

pub returns-in_default : goal.returns-in_default
returns-in_default c = form_other _ _ _ c.in_default.in_default-own.rest.0.1 c.in_default.in_default-own.rest.1
