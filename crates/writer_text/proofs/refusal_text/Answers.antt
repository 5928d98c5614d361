-- The first line stands at the buffer's front.
use Rattle.writer_text.proofs.TextLaws.{line-report}
use Rattle.writer_text.proofs.refusal_text.Goals as goal

pub returns : goal.returns
returns c =
    line-report c.args.answer c.args.out.now c.requires c.write_first_line.ensures
