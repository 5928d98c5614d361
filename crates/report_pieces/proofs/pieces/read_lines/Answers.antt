-- `pieces::read_lines` meets its contract: the first of the lines, or all. Assumes nothing.
use Rattle.std.proofs.lemmas.List.{take_min}
use Rattle.output.specs.Calls.{read_lines}
use Rattle.report_pieces.proofs.pieces.read_lines.Goals as goal

pub returns : goal.returns
unfolding read_lines
returns c = rw (c.min-end.ensures, c.most_bytes.ensures) (take_min _ _)
