-- The rows' answer refuses the record, or accepts it.
use mathlib.Core.Path.{◌∙◌}
use Rattle.sheet.specs.Reading.{conclude}
use Rattle.sheet.proofs.ReaderSteps.{ends-refused, ends-accepted}
use Rattle.sheet_readings.proofs.concluded.Goals as goal

pub returns-then-answer-ne0 : goal.returns-then-answer-ne0
returns-then-answer-ne0 c =
    c.refusal.ensures ∙ ends-refused c.args.net _ c.graph_answer-answer.ensures c.if-answer-ne0.true

pub returns : goal.returns
unfolding conclude
returns c =
    let e = ends-accepted c.args.net _ c.graph_answer-answer.ensures c.if-answer-ne0.false in
    rw (e.0, e.1)
