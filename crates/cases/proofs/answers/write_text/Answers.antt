-- A write takes the front of the rest.
use Rattle.files.proofs.StreamLaws.{write_on}
use Rattle.cases.proofs.answers.write_text.Goals as goal

pub loop-preserved : goal.loop-preserved
loop-preserved g c end left =
    c.loop.invariant end (write_on _ _ _ _ _ c.in_ok-count.ensures.taken left)
