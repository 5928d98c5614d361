-- `connections::connected_lanes` meets its contract: the marks stand for connections, and a sweep sets a new one unless nothing was left to carry. Assumes nothing.
use mathlib.Core.Path.{sym, ◌∙◌}
use Rattle.excitations.proofs.Levels.{closed_still}
use Rattle.excitations.proofs.Marks.{marks_start, marks_sweep, sweep_falls, marks_closed}
use Rattle.connections.proofs.connected_lanes.Goals as goal

pub loop-on-init : goal.loop-on-init
loop-on-init c = λ k e. rw (c.driven.ensures, e) (marks_start _ c.args.wiring.now.fit.readable k _)

pub loop-on-smaller : goal.loop-on-smaller
loop-on-smaller c =
    let e = c.usable_lanes.ensures in
    rw (c.sweep.ensures.0, e)
    (sweep_falls c.args.wiring.now.net.now c.args.wiring.now.fit.readable c.args.kind c.args.value c.loop-on.back (c.loop-on.invariant c.args.kind e)
    (rw e at (sym c.sweep.ensures.1 ∙ c.loop-on-test.true)))

pub loop-on-preserved : goal.loop-on-preserved
loop-on-preserved c =
    λ k e. rw (c.sweep.ensures.0, e) (marks_sweep c.args.wiring.now.net.now c.args.wiring.now.fit.readable k c.args.value c.loop-on.back (c.loop-on.invariant k e))

pub returns : goal.returns
returns c =
    let e = c.usable_lanes.ensures in
    let closed = sym c.sweep.ensures.1 ∙ c.loop-on-test.false in
    c.sweep.ensures.0 ∙ closed_still c.args.wiring.now.net.now _ c.loop-on.back _ closed
    ∙ marks_closed c.args.wiring.now.net.now c.args.wiring.now.fit.readable c.args.kind c.args.value (c.loop-on.invariant c.args.kind e) (rw e at closed)
