-- `write_field` meets its contract. The columns from i on are those of n, and rest is n without the digits to the right (`Agreeing`).
use native.Mathlib.Omega.{arith}
use mathlib.Core.Path.{refl}
use Rattle.sheet.proofs.FieldSteps.{no_column, last_set, left-set, all_set}
use Rattle.fields.proofs.write_field.Goals as goal

pub returns-then-columns-eq0 : goal.returns-then-columns-eq0
returns-then-columns-eq0 c = no_column _ _ c.if-columns-eq0.true

pub loop-i-init : goal.loop-i-init
loop-i-init c = last_set c.args.out.now _ _ _ refl (omega (arith, c.if-columns-eq0.false)) c.last_column.ensures

pub loop-i-preserved : goal.loop-i-preserved
loop-i-preserved c = left-set _ _ _ _ _ _ c.loop-i.invariant c.loop-i-test.true c.left_column.ensures

pub returns : goal.returns
returns c = all_set _ _ _ _ _ c.loop-i.invariant c.loop-i-test.false
