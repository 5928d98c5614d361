-- `additions::addition_column` meets its contract: the entries of column k before row r are stored. Assumes nothing.
use native.Mathlib.Omega.{arith}
use Rattle.lanes.proofs.ColumnLaws.{column_end}
use Rattle.additions.proofs.addition_column.Goals as goal

pub returns : goal.returns
returns c = column_end c.loop-r.invariant.1 (omega arith) (omega arith)
