-- Where nothing failed, what was written are the numbers so far: with those that are left, all.
use Rattle.std.proofs.Common.{drop}
use Rattle.std.specs.Prelude.{OnOk}
use Rattle.cases.proofs.ColumnLaws.{Written}
use Rattle.cases.proofs.answers.write_columns.Given as goal

abbrev pub invariant-loop-n : goal.invariant-loop-n
invariant-loop-n g l =
    OnOk l.told (Written (g.W.Write.contents l.initial.out) (g.W.Write.contents l.out) (drop l.n-index l.numbers) l.numbers)
