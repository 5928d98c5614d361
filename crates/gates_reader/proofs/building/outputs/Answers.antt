-- After g turns the record has the rails and g outputs.
use native.Mathlib.Omega.{arith}
use Rattle.sheet.specs.Record.{start_net}
use Rattle.gates.specs.Building.{outputs_of}
use Rattle.gates.proofs.BuildLaws.{rails_added, output-added}
use Rattle.gates_reader.proofs.building.outputs.Goals as goal

pub append_vertex-low-requires : goal.append_vertex-low-requires
unfolding start_net
append_vertex-low-requires c = rw c.start_net-empty.ensures (omega arith)

pub append_vertex-net-requires : goal.append_vertex-net-requires
unfolding start_net
append_vertex-net-requires c = rw (c.append_vertex-low.ensures, c.start_net-empty.ensures) (omega arith)

pub loop-g-init : goal.loop-g-init
loop-g-init c = (
  omega arith,
  rw (c.append_vertex-net.ensures, c.append_vertex-low.ensures, c.start_net-empty.ensures) (rails_added _ _ c.requires),
)

pub append_vertex-net-requires-in-loop-g : goal.append_vertex-net-requires-in-loop-g
unfolding outputs_of
append_vertex-net-requires-in-loop-g c = rw c.loop-g.invariant.1 (omega arith)

pub loop-g-preserved : goal.loop-g-preserved
loop-g-preserved c =
    let loop = c.loop-g in
    let few = c.requires in
    (omega arith, rw (c.append_vertex-net-in-loop-g.ensures, loop.invariant.1) (output-added _ _ few _ c.loop-g-test.true))
