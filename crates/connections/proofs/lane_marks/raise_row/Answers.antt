-- `lane_marks::raise_row` meets its contract: the entries before w of row v are stored. Assumes nothing.
use native.Mathlib.Omega.{arith}
use Rattle.lanes.specs.Lanes.{raise_row}
use Rattle.lanes.proofs.GridLaws.{row_end}
use Rattle.connections.proofs.lane_marks.raise_row.Goals as goal

pub returns : goal.returns
unfolding raise_row
returns c = row_end c.loop-w.invariant.1 (omega arith) (omega arith)
