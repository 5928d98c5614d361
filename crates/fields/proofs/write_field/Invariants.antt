use Rattle.sheet.proofs.FieldSteps.{Agreeing}
use Rattle.fields.proofs.write_field.Given as goal

abbrev pub invariant-loop-i : goal.invariant-loop-i
invariant-loop-i l = Agreeing l.out l.columns l.n l.i l.rest
