-- What was answered last is within the buffer, and is what the reads took; those before it took nothing.
use Rattle.std.proofs.Common.{length}
use Rattle.std.specs.Io.KnownBytes.{ReadConsumes}
use Rattle.files.specs.Reads.{Within}
use Rattle.files.proofs.read_some.Given as goal

abbrev pub invariant-loop : goal.invariant-loop
invariant-loop g l = Within (length l.buffer) l.got × ReadConsumes (g.F.Read.remaining l.fn.file) (g.F.Read.remaining l.file) l.got l.buffer
