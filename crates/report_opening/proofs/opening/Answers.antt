-- `report_opening::opening` meets its contract: the room, then what the sheet is judged to be, as a line. Of the places, w is the one after the line is written.
-- Assumes nothing.
use native.Mathlib.Omega.{arith}
use Rattle.report_opening.proofs.OpeningSteps.{opening_short, opening_judged}
use Rattle.report_opening.proofs.opening.Goals as goal

pub returns-then-out-lt-OPENING_BYTES : goal.returns-then-out-lt-OPENING_BYTES
returns-then-out-lt-OPENING_BYTES c = opening_short _ _ (omega arith)

pub returns : goal.returns
returns c =
    opening_judged _ _ (omega arith) c.judge-judged.ensures c.write_first_line.ensures c.said.ensures
