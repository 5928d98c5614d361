-- In use its values are allowed, else it is zero.
use borrow.Author.Tests.{lt-ltb, le-ltb}
use Rattle.sheet.specs.Fitting.{vertex_fits}
use Rattle.record.proofs.vertex_fits.Goals as goal

pub returns-then-i-net : goal.returns-then-i-net
unfolding vertex_fits
returns-then-i-net c = rw (lt-ltb _ _ c.if-i-net.true) c.vertex_ok.ensures

pub returns : goal.returns
unfolding vertex_fits
returns c = rw (le-ltb _ _ c.if-i-net.false) c.is_no_vertex.ensures
