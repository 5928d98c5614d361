-- `add_row` meets its contract: the sums before k are done. Assumes nothing.
use native.Mathlib.Omega.{arith}
use Rattle.net.proofs.Filling.{fill_all}
use Rattle.passes.proofs.ternary_excitation.add_row.Goals as goal

pub returns : goal.returns
returns c = fill_all c.loop-k.invariant.1 (omega arith)
