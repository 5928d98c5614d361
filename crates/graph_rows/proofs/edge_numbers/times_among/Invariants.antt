use Prim.Native.Nat.{◌≤◌}
use mathlib.Core.Path.{◌≡◌}
use Rattle.sheet.specs.EdgeNumbers.{times_among}
use Rattle.graph_rows.proofs.edge_numbers.times_among.Given as goal

abbrev pub invariant-loop-other : goal.invariant-loop-other
invariant-loop-other l = (l.times ≤ l.other-index) × (l.times ≡ times_among l.fn.numbers l.other-index l.number)
