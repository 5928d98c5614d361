-- A number more is written.
use Rattle.std.proofs.lemmas.List.{drop_all}
use Rattle.cases.proofs.ColumnLaws.{more_written, all_written}
use Rattle.cases.proofs.answers.write_columns.Goals as goal

pub loop-n-preserved : goal.loop-n-preserved
loop-n-preserved g c =
    rw c.and-told.ensures (more_written _ _ _ _ _ _ _ _ 0 c.loop-n-test.true c.number_text.ensures c.loop-n.invariant c.write_text-written.ensures)

pub returns : goal.returns
returns g c = all_written _ _ _ _ _ (drop_all _ _ c.loop-n-test.false) c.loop-n.invariant
