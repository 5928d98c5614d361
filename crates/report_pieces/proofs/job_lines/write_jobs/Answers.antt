-- `write_jobs` meets its contract: the lines of the first i jobs are written. Assumes nothing.
use Prim.Native.Nat.{◌*◌}
use mathlib.Core.Path.{refl}
use Rattle.settlements.specs.Batch.{answer_width}
use Rattle.output.specs.Limits.{job_bytes}
use Rattle.output.proofs.LinesInTurn.{step, finish}
use Rattle.settlements.proofs.JobsInTurn.{one_more}
use Rattle.report_pieces.proofs.job_lines.write_jobs.Goals as goal

pub loop-i-preserved : goal.loop-i-preserved
loop-i-preserved c =
    let i = c.loop-i.i in
    let h = c.args.h in
    rw (c.job_bytes-line.ensures, one_more i (job_bytes h), one_more i (2 * h), one_more i answer_width)
    (step c.loop-i.invariant c.loop-i-test.true c.requires.2 refl c.write_job.ensures)

pub returns : goal.returns
returns c = finish c.loop-i.invariant c.loop-i-test.false
