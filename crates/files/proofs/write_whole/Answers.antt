-- A write takes the front of the rest.
use Rattle.files.proofs.StreamLaws.{write_on}
use Rattle.files.proofs.write_whole.Goals as goal

pub loop-rest-preserved : goal.loop-rest-preserved
loop-rest-preserved g c end left =
    c.loop-rest.invariant end (write_on _ _ _ _ _ c.in_ok-count.ensures.bytes left)
