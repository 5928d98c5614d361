-- `text` meets its contract: the room, then the line of a refusal, else the sheet.
use native.Mathlib.Omega.{arith}
use Rattle.writer_text.proofs.TextLaws.{text_short, net-refused, net-written}
use Rattle.writer_text.proofs.text.Goals as goal

pub returns-then-out-lt-MOST_BYTES : goal.returns-then-out-lt-MOST_BYTES
returns-then-out-lt-MOST_BYTES c = text_short _ _ (omega arith)

pub returns-then-answer-ne0 : goal.returns-then-answer-ne0
returns-then-answer-ne0 c =
    net-refused _ c.args.out.now c.read-reading.ensures c.if-answer-ne0.true c.refusal_text.ensures

pub returns : goal.returns
returns c =
    net-written _ c.args.out.now c.read-reading.ensures (omega arith) c.if-answer-ne0.false c.write-written.ensures
