use mathlib.Core.Path.{◌≡◌}
use Prim.Native.Nat.{◌≤◌, ◌-◌}
use lib.Dec.{eqb}
use lib.ListN.{get_or}
use Rattle.ternary.specs.Lists.{count_below}
use Rattle.net.specs.Symbols.{symbol_bound}
use Rattle.lanes.proofs.GridLaws.{RowFilled}
use Rattle.signal_places.proofs.place_row.Given as goal

abbrev pub invariant-loop-s : goal.invariant-loop-s
invariant-loop-s l = (l.s ≤ symbol_bound) × (l.count ≤ l.s) × (l.count ≡ count_below l.s (λ t. eqb (get_or l.flags t 0) 1))
    × RowFilled symbol_bound l.y (λ u. count_below u (λ t. eqb (get_or l.flags t 0) 1)) l.initial.places l.places l.s

abbrev pub decreases-loop-s : goal.decreases-loop-s
decreases-loop-s l = symbol_bound - l.s
