-- `report_pieces::piece` meets its contract: the room, the reader's answer, then the lines that are read. Of the places, e is where the reader has not refused,
-- l the one after the lines are taken, w after the text is written. Assumes nothing.
use native.Mathlib.Omega.{arith}
use Rattle.sheet.proofs.Outcome.{valid-at_zero}
use Rattle.output.proofs.ReadLines.{read_few}
use Rattle.output.proofs.PieceSteps.{piece_short, piece-refused, piece_read}
use Rattle.report_pieces.proofs.piece.Goals as goal

pub returns-then-out-lt-PIECE_BYTES : goal.returns-then-out-lt-PIECE_BYTES
returns-then-out-lt-PIECE_BYTES c = piece_short _ _ _ _ (omega arith)

pub returns-then-read-ne0 : goal.returns-then-read-ne0
returns-then-read-ne0 c = piece-refused _ _ _ _ _ c.read-reading.ensures (omega arith) c.if-read-ne0.true

pub write-requires : goal.write-requires
write-requires c =
    (valid-at_zero _ _ _ c.read-reading.ensures c.if-read-ne0.false, rw c.read_lines-readable.ensures (read_few _ _), omega arith)

pub returns : goal.returns
returns c =
    piece_read _ _ _ _ _ c.read-reading.ensures c.if-read-ne0.false c.read_lines-readable.ensures c.write.ensures
