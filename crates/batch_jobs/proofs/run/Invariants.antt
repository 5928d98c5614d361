use Prim.Native.Nat.{◌*◌}
use mathlib.Core.Path.{◌≡◌}
use Rattle.sheet.specs.Limits.{line_width}
use Rattle.settlements.specs.Batch.{job_width, answer_width}
use Rattle.settlements.proofs.JobsInTurn.{Progress}
use Rattle.batch_jobs.proofs.run.Given as goal

abbrev pub invariant-loop-i : goal.invariant-loop-i
invariant-loop-i l =
    let s = l.i-iterator in
    (goal.iterator-loop-i).can_next s × (goal.iterator-loop-i).is_finite s
    × (s.iter.size ≡ line_width)
    × (l.width ≡ job_width l.net)
    × Progress l.net l.lines l.initial.results l.initial.answers l.results l.answers s.iter.rest.now (s.count * l.width) (s.count * answer_width)
