-- Once the rest is written too, all of the text is.
use Rattle.std.specs.Io.KnownBytes.{Appends}
use Rattle.cases.proofs.answers.write_text.Given as goal

abbrev pub invariant-loop : goal.invariant-loop
invariant-loop g l =
    (end : _) → Appends (g.W.Write.contents l.out) end l.rest → Appends (g.W.Write.contents l.initial.out) end l.text
