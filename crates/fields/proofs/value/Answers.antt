-- `value` meets its contract. Before a column, n is the number in the columns passed (`Summed`).
use Rattle.sheet.proofs.FieldSteps.{sum_more, sum_end}
use Rattle.fields.proofs.value.Goals as goal

pub loop-column-preserved : goal.loop-column-preserved
loop-column-preserved c =
    let l = c.loop-column in
    rw c.digit.ensures (sum_more _ _ _ l.invariant c.loop-column-test.true (c.type_inv.b l.column-index).fits)

pub returns : goal.returns
returns c = sum_end _ _ _ c.loop-column.invariant c.loop-column-test.false
