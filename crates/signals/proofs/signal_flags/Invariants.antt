use Prim.Native.Nat.{◌≤◌, ◌-◌}
use Rattle.net.specs.Symbols.{symbol_bound}
use Rattle.net.proofs.Flags.{Flagged}
use Rattle.net.proofs.SignalFlags.{signal_among}
use Rattle.signals.proofs.signal_flags.Given as goal

abbrev pub invariant-loop-edge : goal.invariant-loop-edge
invariant-loop-edge l = (l.edge-index ≤ l.count) × Flagged symbol_bound (signal_among l.graph.net l.y l.edge-index) l.flags

abbrev pub decreases-loop-edge : goal.decreases-loop-edge
decreases-loop-edge l = l.count - l.edge-index
