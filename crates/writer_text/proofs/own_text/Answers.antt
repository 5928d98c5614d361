-- `own_text` meets its contract: the sheet, or the line of a refusal.
use Rattle.sheet.specs.Limits.{field_width}
use Rattle.sheet.specs.Writing.{write_sheet}
use Rattle.writer.proofs.WriteLaws.{own-fits}
use Rattle.writer_text.proofs.TextLaws.{text-refused, text-written}
use Rattle.writer_text.proofs.own_text.Goals as goal

pub returns-then-number-eq0 : goal.returns-then-number-eq0
returns-then-number-eq0 c =
    let v = c.requires.0 c.if-number-eq0.true in
    text-written write_sheet c.args.reading c.args.out.now c.requires.1 c.if-number-eq0.true v (own-fits field_width _ v) c.write_in_own_order-written.ensures

pub returns : goal.returns
returns c =
    text-refused write_sheet c.args.reading c.args.out.now c.if-number-eq0.false c.refusal_text.ensures
