-- `conditions::choose_row` meets its contract: the entries before w of row v are stored. Assumes nothing.
use native.Mathlib.Omega.{arith}
use mathlib.Core.Path.{ap, ◌∙◌}
use mathlib.Core.List.{List}
use Prim.Native.Nat.{ℕ}
use Rattle.lanes.specs.Grid.{set_row}
use Rattle.lanes.specs.Lanes.{assignments, lane, chosen, choose_row}
use Rattle.lanes.proofs.GridLaws.{row_end}
use Rattle.connections.proofs.conditions.choose_row.Goals as goal

pub returns : goal.returns
unfolding choose_row
returns c =
    row_end c.loop-w.invariant.1 (omega arith) (omega arith)
    ∙ ap (λ (t : List ℕ). set_row assignments c.args.v (λ b. chosen c.args.low c.args.high (lane t c.args.p b)) c.args.rows.now) c.requires.2
