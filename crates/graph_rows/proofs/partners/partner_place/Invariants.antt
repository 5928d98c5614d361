use Prim.Native.Nat.{◌≤◌}
use mathlib.Core.Path.{◌≡◌}
use mathlib.Core.Option.{none}
use Rattle.ternary.specs.Lists.{least_below}
use Rattle.sheet.specs.EdgeNumbers.{lacks_by}
use Rattle.graph_rows.proofs.partners.partner_place.Given as goal

abbrev pub invariant-loop-i : goal.invariant-loop-i
invariant-loop-i l = (l.i ≤ l.count) × (least_below l.i (lacks_by l.numbers l.count) ≡ none)
