-- The read before was interrupted.
use Rattle.files.proofs.StreamLaws.{again}
use Rattle.files.proofs.read_some.Goals as goal

pub loop-preserved : goal.loop-preserved
loop-preserved g c =
    (c.read_once-got-in-loop.ensures.within, again _ _ _ _ _ _ _ _ c.is_interrupted.ensures c.if-not-is_interrupted.false c.loop.invariant.1 c.read_once-got-in-loop.ensures.bytes)
