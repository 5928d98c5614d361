use Prim.Native.Nat.{◌+◌, ◌*◌}
use Rattle.sheet.specs.Limits.{line_bytes}
use Rattle.writer.specs.Fronts.{body_line}
use Rattle.writer.proofs.LineSteps.{LinesWritten}
use Rattle.writer_sheet.proofs.lines.write_body.Given as goal

abbrev pub invariant-loop-j : goal.invariant-loop-j
invariant-loop-j l = LinesWritten l.columns (body_line l.net) (l.net.vertex_count + l.net.edge_count) l.j (line_bytes l.columns * l.j) l.out
