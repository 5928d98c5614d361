-- `report_opening::judge` meets its contract: the reader's answer, then the verdict. Of the places, e is where the reader has not refused, v after the verdict. Assumes nothing.
use native.Mathlib.Omega.{arith}
use Rattle.sheet.proofs.Outcome.{valid-at_zero}
use Rattle.troubles.proofs.FitLaws.{valid_fit}
use Rattle.report_opening.proofs.OpeningSteps.{judge_refused, judge_read}
use Rattle.report_opening.proofs.judge.Goals as goal

pub returns-then-read-ne0 : goal.returns-then-read-ne0
returns-then-read-ne0 c = judge_refused _ _ c.read-reading.ensures c.if-read-ne0.true

pub key_count-h-requires : goal.key_count-h-requires
key_count-h-requires c =
    (valid_fit _ (valid-at_zero _ _ _ c.read-reading.ensures c.if-read-ne0.false)).readable

pub overflow_cast-result : goal.overflow_cast-result
overflow_cast-result c =
    record { fits = omega (arith, c.key_count-h.ensures, (valid_fit _ (valid-at_zero _ _ _ c.read-reading.ensures c.if-read-ne0.false)).keys) }

pub returns : goal.returns
returns c =
    judge_read _ _ c.read-reading.ensures c.if-read-ne0.false c.verdict-judged.ensures c.key_count-h.ensures
