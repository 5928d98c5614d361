-- `vertex_ok` meets its contract.
use native.Mathlib.Omega.{arith}
use mathlib.Core.Path.{◌∙◌}
use Rattle.sheet.proofs.RuleSteps.{input_vertex, storage_vertex, unknown_role}
use Rattle.rules.proofs.vertex_ok.Goals as goal

pub returns-in-0 : goal.returns-in-0
returns-in-0 c = c.known_label.ensures ∙ input_vertex _ _ _ c.from.ensures c.in-0.is

pub returns-in-1-to-2 : goal.returns-in-1-to-2
returns-in-1-to-2 c = storage_vertex _ _ c.in-1-to-2.in_default-own.rest.1 (omega arith)

pub returns-in_default : goal.returns-in_default
returns-in_default c = unknown_role _ _ (omega arith)
