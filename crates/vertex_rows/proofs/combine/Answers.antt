-- `vertex_rows::combine` meets its contract: the entries before i are stored. Assumes nothing.
use native.Mathlib.Omega.{arith}
use Rattle.net.proofs.Filling.{fill_all}
use Rattle.vertex_rows.proofs.combine.Goals as goal

pub returns : goal.returns
returns c = fill_all c.loop-i.invariant.1 (omega arith)
