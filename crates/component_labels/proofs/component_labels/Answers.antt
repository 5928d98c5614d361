-- `component_labels::component_labels` meets its contract: the labels are the classes of the edges so far. Assumes nothing.
use native.Mathlib.Omega.{arith}
use borrow.Author.Rules.{rules}
use borrow.Author.Tests.{eq-eqb, ne_eqb}
use mathlib.Core.Path.{◌≡◌, ap, sym, ◌∙◌}
use Prim.Native.Nat.{suc, ◌≤◌}
use lib.Dec.{eqb}
use lib.ListN.{length, get_or, take, length-take}
use Rattle.net.specs.Limits.{most_vertices}
use Rattle.net.specs.Graph.{no_edge, edge_at}
use Rattle.net.specs.Classes.{inner, merge, classes}
use Rattle.net.specs.Tables.{component_labels}
use Rattle.net.proofs.ClassTables.{classes-on, classes_off, length-classes}
use Rattle.net.proofs.InUse.{edge_read, ends_read}
use Rattle.net.proofs.TableLaws.{inner_read}
use Rattle.component_labels.proofs.component_labels.Goals as goal
use Rattle.component_labels.proofs.component_labels.Goals.{After-both, In-loop-edge, else-both-eq1, then-both-eq1}

-- the edge of this turn, and its ends
edge : (c : In-loop-edge) → get_or (take c.args.net.edge_count c.args.net.edges) c.loop-edge.edge-index no_edge ≡ edge_at c.args.net c.loop-edge.edge-index
edge c = edge_read c.args.net c.loop-edge-test.true

ends : (c : In-loop-edge) → (let e = get_or (take c.args.net.edge_count c.args.net.edges) c.loop-edge.edge-index no_edge in (e.end1 ≤ most_vertices) × (e.end2 ≤ most_vertices))
ends c = ends_read c.args.net c.requires.0 c.loop-edge-test.true

-- the flags tell whether it joins storage vertices
counts : (c : After-both) → (eqb c.both.result 1 ≡ inner c.args.net (edge_at c.args.net c.loop-edge.edge-index))
counts c =
    let i = (goal.at.After-both c).In-loop-edge in
    let e = rw (edge i) at (ends i) in
    inner_read c.args.net c.args.storage.now c.requires.1 c.loop-edge.edge-index e.0 e.1 _ (rw (edge i) at c.both.ensures)

pub loop-edge-init : goal.loop-edge-init
unfolding classes
loop-edge-init c = (search rules, c.own_labels-labels.ensures)

pub bounds-storage-edge : goal.bounds-storage-edge
bounds-storage-edge c = omega (arith, ends (goal.at.bounds-storage-edge c).In-loop-edge)

pub bounds-storage-edge-in-loop-edge : goal.bounds-storage-edge-in-loop-edge
bounds-storage-edge-in-loop-edge c = omega (arith, ends (goal.at.bounds-storage-edge-in-loop-edge c).In-loop-edge)

pub merge_classes-requires : goal.merge_classes-requires
merge_classes-requires c =
    let l = c.loop-edge in
    let e = ends (goal.at.merge_classes-requires c).In-loop-edge in
    (ap length l.invariant.1 ∙ length-classes (suc most_vertices) _ _ _ l.edge-index, e.0, e.1)

pub loop-edge-preserved : goal.loop-edge-preserved
loop-edge-preserved c =
    let e = c.loop-edge.invariant.1 in (
      search rules,
      elim c.if-both-eq1.branch [
        | then-both-eq1 w ↦ w.labels-is ∙ rw (edge (goal.at.loop-edge-preserved c).In-loop-edge) at w.merge_classes.ensures ∙ ap (merge _ _) e ∙ classes-on (suc most_vertices) _ _ _ _ (sym (counts (goal.at.loop-edge-preserved c).After-both) ∙ eq-eqb _ _ w.if-both-eq1.true)
        | else-both-eq1 w ↦ w.labels-is ∙ e ∙ classes_off (suc most_vertices) _ _ _ _ (sym (counts (goal.at.loop-edge-preserved c).After-both) ∙ ne_eqb _ _ w.if-both-eq1.false)
      ],
    )

pub returns : goal.returns
unfolding component_labels
returns c =
    let q : c.loop-edge.edge-index ≡ c.args.net.edge_count = omega (arith, length-take c.args.net.edge_count c.args.net.edges) in
    rw q at c.loop-edge.invariant.1
