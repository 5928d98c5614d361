-- Once the cases that are left are answered too, all are. Each case moves on towards the end of the input.
use Rattle.std.proofs.Common.{length, ◌-◌}
use Rattle.std.specs.List.{All}
use Rattle.cases.specs.Turns.{turns_from, turns}
use Rattle.cases.proofs.runs.run_cases.Given as goal

abbrev pub invariant-loop-at : goal.invariant-loop-at
invariant-loop-at g l =
    All (λ x. goal.F-post g l.answer x.0 x.1 tt) (turns_from l.cases l.brings (length l.cases - l.at) l.at l.from)
    → All (λ x. goal.F-post g l.answer x.0 x.1 tt) (turns l.cases l.brings)

abbrev pub decreases-loop-at : goal.decreases-loop-at
decreases-loop-at g l = length l.cases - l.at
