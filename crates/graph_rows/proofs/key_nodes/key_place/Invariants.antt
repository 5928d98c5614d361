use Prim.Native.Nat.{◌≤◌}
use mathlib.Core.Path.{◌≡◌}
use Rattle.ternary.specs.Lists.{count_below}
use Rattle.net.specs.Limits.{most_key_nodes}
use Rattle.sheet.proofs.KeyFlagLaws.{flagged}
use Rattle.graph_rows.proofs.key_nodes.key_place.Given as goal

abbrev pub invariant-loop-v : goal.invariant-loop-v
invariant-loop-v l = (l.found ≤ most_key_nodes) × (l.found ≡ count_below l.v (flagged l.keys))
