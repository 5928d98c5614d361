-- Only a storage vertex has a component, and a component that a lower vertex shares has been counted there.
use mathlib.Core.Path.{◌∙◌, ap}
use lib.Dec.{ltb}
use Rattle.net.specs.Limits.{most_signals}
use Rattle.sheet.proofs.OverSignalLaws.{flag_set, not_over, over_count, joined_not_over}
use Rattle.graph_rows.proofs.components.over_signals.Goals as goal

pub returns-then-graph-y-ne1 : goal.returns-then-graph-y-ne1
returns-then-graph-y-ne1 c = not_over c.args.graph.now.net c.args.graph.now.prepared c.args.y c.requires.0 c.if-graph-y-ne1.true

pub returns-then-lowest_member-y : goal.returns-then-lowest_member-y
returns-then-lowest_member-y c =
    joined_not_over c.args.graph.now.net c.args.graph.now.prepared c.args.y c.requires.0 c.requires.1 c.if-graph-y-ne1.false (λ e. c.if-lowest_member-y.true (c.lowest_member.ensures ∙ e))

pub signal_count-requires : goal.signal_count-requires
signal_count-requires c =
    flag_set c.args.graph.now.net c.args.graph.now.prepared c.args.y c.requires.0 c.if-graph-y-ne1.false

pub returns : goal.returns
returns c =
    ap (ltb most_signals) c.signal_count.ensures ∙ over_count c.args.graph.now.net c.args.graph.now.prepared c.args.y c.requires.0 c.if-graph-y-ne1.false
