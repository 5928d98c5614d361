-- `body_line` meets its contract: a vertex before the vertices end, else an edge.
use borrow.Author.Tests.{lt-ltb, le-ltb}
use Rattle.writer.specs.Fronts.{body_line}
use Rattle.writer_sheet.proofs.lines.body_line.Goals as goal

pub returns-then-j-vertices : goal.returns-then-j-vertices
unfolding body_line
returns-then-j-vertices c = rw (lt-ltb _ _ c.if-j-vertices.true) c.vertex_line.ensures

pub returns : goal.returns
unfolding body_line
returns c = rw (le-ltb _ _ c.if-j-vertices.false) c.from.ensures
