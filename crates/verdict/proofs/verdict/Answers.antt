-- `verdict::verdict` meets its contract: the record first. Assumes nothing.
use mathlib.Core.Path.{sym, ◌∙◌}
use Rattle.soundness.proofs.VerdictSteps.{bad_record}
use Rattle.verdict.proofs.verdict.Goals as goal

pub returns-then-not-is_record : goal.returns-then-not-is_record
returns-then-not-is_record c = bad_record _ (sym c.is_record.ensures ∙ c.if-not-is_record.true)
