use Prim.Native.Nat.{◌-◌, ◌*◌}
use Rattle.settlements.specs.Batch.{answer_width}
use Rattle.output.specs.Limits.{job_bytes}
use Rattle.output.proofs.LinesInTurn.{Progress}
use Rattle.report_pieces.proofs.job_lines.write_jobs.Given as goal

abbrev pub invariant-loop-i : goal.invariant-loop-i
invariant-loop-i l = Progress l.h l.count l.first l.results l.answers l.initial.out l.i (l.i * job_bytes l.h) (l.i * (2 * l.h)) (l.i * answer_width) l.out

abbrev pub decreases-loop-i : goal.decreases-loop-i
decreases-loop-i l = l.count - l.i
