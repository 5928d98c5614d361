-- `lane_marks::mark_row` meets its contract: the entries before w of row v are stored. Assumes nothing.
use native.Mathlib.Omega.{arith}
use mathlib.Core.Path.{ap, ◌∙◌}
use mathlib.Core.List.{List}
use Prim.Native.Nat.{ℕ}
use Rattle.lanes.specs.Grid.{set_row}
use Rattle.lanes.specs.Lanes.{assignments, lane, chosen, raised, mark_row}
use Rattle.lanes.proofs.GridLaws.{row_end}
use Rattle.connections.proofs.lane_marks.mark_row.Goals as goal

pub returns : goal.returns
unfolding mark_row
returns c =
    let a = c.args in
    let row : List ℕ → ℕ → ℕ = λ t b. raised (lane a.on.now a.i b) (chosen a.low a.high (lane t a.p b)) (lane a.marks.now a.v b) in
    row_end c.loop-w.invariant.1 (omega arith) (omega arith) ∙ ap (λ (t : List ℕ). set_row assignments a.v (row t) a.marks.now) c.requires.3
