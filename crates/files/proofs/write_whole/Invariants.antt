-- Once the rest is written too, all of the text is. Each turn leaves less.
use Rattle.std.proofs.Common.{length}
use Rattle.std.specs.Io.KnownBytes.{Appends}
use Rattle.files.proofs.write_whole.Given as goal

abbrev pub invariant-loop-rest : goal.invariant-loop-rest
invariant-loop-rest g l =
    (end : _) → Appends (g.W.Write.contents l.out) end l.rest → Appends (g.W.Write.contents l.initial.out) end l.text

abbrev pub decreases-loop-rest : goal.decreases-loop-rest
decreases-loop-rest g l = length l.rest
