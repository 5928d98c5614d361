use lib.ListN.{length}
use Rattle.sheet.proofs.FieldSteps.{Agreeing}
use Rattle.fields.proofs.is_field.Given as goal

abbrev pub invariant-loop-i : goal.invariant-loop-i
invariant-loop-i l = Agreeing l.b (length l.b) l.n l.i l.rest
