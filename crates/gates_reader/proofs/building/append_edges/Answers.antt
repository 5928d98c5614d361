-- To append the edges that are left gives the whole record.
use native.Mathlib.Numerals.{add-one}
use native.Mathlib.Omega.{arith}
use mathlib.Core.Path.{refl, sym, ap, ◌∙◌}
use lib.Seq.{drop-cons}
use Rattle.std.proofs.lemmas.List.{drop_all}
use Rattle.net.specs.Graph.{no_edge}
use Rattle.gates.specs.Building.{append_edges}
use Rattle.gates_reader.proofs.building.append_edges.Goals as goal

pub loop-edge-init : goal.loop-edge-init
loop-edge-init c = (omega arith, refl)

pub append_edge-next-requires : goal.append_edge-next-requires
append_edge-next-requires c = omega (arith, c.requires, c.loop-edge.invariant.0, c.loop-edge-test.true)

pub loop-edge-preserved : goal.loop-edge-preserved
unfolding append_edges
loop-edge-preserved c =
    let l = c.loop-edge in
    let met = drop-cons c.args.edges.now l.edge-index no_edge c.loop-edge-test.true in
    rw c.append_edge-next.ensures (
      omega (arith, l.invariant.0),
      rw (add-one l.edge-index) (ap (append_edges l.next) (sym met) ∙ l.invariant.1),
    )

pub returns : goal.returns
unfolding append_edges
returns c =
    let l = c.loop-edge in
    let past = drop_all l.edge-index c.args.edges.now c.loop-edge-test.false in
    rw past at l.invariant.1
