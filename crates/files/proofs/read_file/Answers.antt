-- The bytes that were read stand behind those before.
use Rattle.std.proofs.Common.{rules}
use Rattle.files.proofs.StreamLaws.{read_on}
use Rattle.files.proofs.read_file.Goals as goal

pub loop-done-preserved : goal.loop-done-preserved
loop-done-preserved g c =
    (search rules, read_on _ _ _ _ _ _ _ c.loop-done.invariant.0 c.read_more-more.ensures.within c.loop-done.invariant.1 c.read_more-more.ensures.bytes)
