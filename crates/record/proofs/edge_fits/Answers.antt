-- In use its values are allowed, else it is zero.
use borrow.Author.Tests.{lt-ltb, le-ltb}
use Rattle.sheet.specs.Fitting.{edge_fits}
use Rattle.record.proofs.edge_fits.Goals as goal

pub returns-then-i-net : goal.returns-then-i-net
unfolding edge_fits
returns-then-i-net c = rw (lt-ltb _ _ c.if-i-net.true) c.edge_ok.ensures

pub returns : goal.returns
unfolding edge_fits
returns c = rw (le-ltb _ _ c.if-i-net.false) c.is_no_edge.ensures
