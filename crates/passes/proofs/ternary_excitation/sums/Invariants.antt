use mathlib.Core.Path.{◌≡◌}
use Prim.Native.Nat.{◌≤◌}
use lib.ListN.{length}
use Rattle.ternary.specs.Lists.{table}
use Rattle.net.specs.Limits.{most_key_nodes}
use Rattle.lookups.specs.LookUps.{added}
use Rattle.passes.proofs.ternary_excitation.sums.Given as goal

abbrev pub invariant-loop-i : goal.invariant-loop-i
invariant-loop-i l = (l.i ≤ length l.signals) × (l.sums ≡ table most_key_nodes (added l.additions l.from l.signals l.i))
