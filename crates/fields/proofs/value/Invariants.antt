use Rattle.sheet.proofs.FieldSteps.{Summed}
use Rattle.fields.proofs.value.Given as goal

abbrev pub invariant-loop-column : goal.invariant-loop-column
invariant-loop-column l = Summed l.b l.column-index l.n
