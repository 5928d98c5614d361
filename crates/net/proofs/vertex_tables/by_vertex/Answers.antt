-- `vertex_tables::by_vertex` meets its contract: the entries of the first i vertices are stored. Assumes nothing.
use native.Mathlib.Omega.{arith}
use borrow.Author.Rules.{rules}
use mathlib.Core.Path.{◌≡◌}
use lib.ListN.{length-take}
use Rattle.net.proofs.InUse.{in_use}
use Rattle.net.proofs.VertexTables.{enter_none, enter_next, entered_all, vertex_read}
use Rattle.net.proofs.vertex_tables.by_vertex.Goals as goal

pub loop-i-init : goal.loop-i-init
loop-i-init g c = (search rules, enter_none _ _)

pub loop-i-preserved : goal.loop-i-preserved
loop-i-preserved g c =
    let h = in_use c.args.net.now.vertex_count c.args.net.now.vertices c.loop-i-test.true in
    (omega arith, enter_next _ _ c.loop-i.invariant.1 (omega arith) (rw (vertex_read c.args.net.now c.loop-i-test.true) at c.f.ensures))

pub returns : goal.returns
returns g c =
    let q : c.loop-i.i ≡ c.args.net.now.vertex_count = omega (arith, length-take c.args.net.now.vertex_count c.args.net.now.vertices) in
    entered_all c.args.net.now (λ v x. goal.F-post g c.args.f v x) (rw q at c.loop-i.invariant.1)
