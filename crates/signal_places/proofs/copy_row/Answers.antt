-- `signal_places::copy_row` meets its contract. Assumes nothing.
use native.Mathlib.Omega.{arith}
use lib.ListN.{get_or}
use mathlib.Core.Path.{refl, ap, ◌∙◌}
use Prim.Native.Nat.{ℕ, ◌+◌, ◌*◌}
use Rattle.net.specs.Symbols.{symbol_bound}
use Rattle.lanes.specs.Grid.{cell}
use Rattle.lanes.proofs.GridLaws.{row_end}
use Rattle.signal_places.proofs.copy_row.Goals as goal

pub returns : goal.returns
returns c =
    let e = c.copy_within.ensures.by_index in
    row_end {v = c.args.y} {f = cell symbol_bound c.args.places.now c.args.x} {a = symbol_bound}
    (record {
      size = c.copy_within.ensures.len;
      stored = λ b h. e.0 (c.args.y * symbol_bound + b) 0 (omega arith) (omega arith) ∙ ap (λ (i : ℕ). get_or c.args.places.now i 0) (omega arith);
      below = λ i h. e.1 i 0 (omega arith);
      above = λ i h. e.2 i 0 (omega arith);
    })
    (omega arith) refl
