-- `signals::signal_flags` meets its contract: the flags are those of the signals that the edges so far show. Assumes nothing.
use native.Mathlib.Omega.{arith}
use borrow.Author.Rules.{rules}
use mathlib.Core.Path.{◌≡◌, ◌∙◌}
use Prim.Native.Nat.{◌≤◌}
use lib.ListN.{get_or, take, length-take}
use Rattle.net.specs.Limits.{most_vertices}
use Rattle.net.specs.Graph.{no_edge, edge_at}
use Rattle.net.proofs.InUse.{edge_read, ends_read}
use Rattle.net.proofs.SignalFlags.{signals_none, signal_turn, signals_all, member_test, member_range}
use Rattle.signals.proofs.signal_flags.Goals as goal
use Rattle.signals.proofs.signal_flags.Goals.{In-loop-edge}

-- the edge of this turn, and its ends
edge : (c : In-loop-edge) → (let N = c.args.graph.now.net in get_or (take N.edge_count N.edges) c.loop-edge.edge-index no_edge ≡ edge_at N c.loop-edge.edge-index)
edge c = edge_read c.args.graph.now.net c.loop-edge-test.true

ends : (c : In-loop-edge) → (let N = c.args.graph.now.net in let e = get_or (take N.edge_count N.edges) c.loop-edge.edge-index no_edge in (e.end1 ≤ most_vertices) × (e.end2 ≤ most_vertices))
ends c = ends_read c.args.graph.now.net c.args.graph.now.prepared.readable c.loop-edge-test.true

pub bounds-graph-y : goal.bounds-graph-y
bounds-graph-y c = omega (arith, member_range _ _ _ _ c.args.graph.now.prepared c.requires)

pub loop-edge-init : goal.loop-edge-init
loop-edge-init c = (search rules, signals_none _ _)

pub bounds-graph-u : goal.bounds-graph-u
bounds-graph-u c = omega (arith, ends (goal.at.bounds-graph-u c).In-loop-edge)

pub bounds-graph-u-in-loop-edge : goal.bounds-graph-u-in-loop-edge
bounds-graph-u-in-loop-edge c = omega (arith, ends (goal.at.bounds-graph-u-in-loop-edge c).In-loop-edge)

pub bounds-inputs-v : goal.bounds-inputs-v
bounds-inputs-v c = omega (arith, ends (goal.at.bounds-inputs-v c).In-loop-edge)

pub bounds-graph-v : goal.bounds-graph-v
bounds-graph-v c = omega (arith, ends (goal.at.bounds-graph-v c).In-loop-edge)

pub bounds-graph-v-in-loop-edge : goal.bounds-graph-v-in-loop-edge
bounds-graph-v-in-loop-edge c = omega (arith, ends (goal.at.bounds-graph-v-in-loop-edge c).In-loop-edge)

pub bounds-inputs-u : goal.bounds-inputs-u
bounds-inputs-u c = omega (arith, ends (goal.at.bounds-inputs-u c).In-loop-edge)

pub loop-edge-preserved : goal.loop-edge-preserved
loop-edge-preserved c =
    let graph = c.args.graph.now in
    let turn = (goal.at.loop-edge-preserved c).In-loop-edge in
    let q = edge turn in
    let e = rw q at (ends turn) in
    let member = member_test graph.net c.args.y graph.storage graph.labels graph.prepared c.requires in (
      search rules,
      signal_turn graph.net c.args.y c.loop-edge.edge-index c.loop-edge.invariant.1 e.0 e.1
          c.input_labels-inputs.ensures
          (rw q at c.belongs.ensures ∙ member _ e.0)
          (rw q at c.mark_end.ensures)
          (rw q at c.belongs-in-loop-edge.ensures ∙ member _ e.1)
          (rw q at c.mark_end-in-loop-edge.ensures),
    )

pub returns : goal.returns
returns c =
    let N = c.args.graph.now.net in
    let q : c.loop-edge.edge-index ≡ N.edge_count = omega (arith, length-take N.edge_count N.edges) in
    signals_all N c.args.y c.requires (rw q at c.loop-edge.invariant.1)
