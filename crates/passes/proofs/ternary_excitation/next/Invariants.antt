use Prim.Native.Nat.{◌≤◌, ◌-◌}
use Rattle.net.specs.Limits.{most_key_nodes}
use Rattle.net.proofs.Filling.{Filled}
use Rattle.lookups.proofs.SumLaws.{next_at}
use Rattle.passes.proofs.ternary_excitation.next.Given as goal

abbrev pub invariant-loop-k : goal.invariant-loop-k
invariant-loop-k l = (l.k ≤ l.look_ups.count) × Filled most_key_nodes (next_at l.look_ups.additions.now l.look_ups.tables.now l.look_ups.count l.base l.vector) (λ j. 0) l.next l.k

abbrev pub decreases-loop-k : goal.decreases-loop-k
decreases-loop-k l = l.look_ups.count - l.k
