-- `pieces::run` meets its contract: nothing where the batch is refused, else the lines of the jobs. Of the places, s is the start, b the one after the
-- batch, e where it is not refused, w after the lines are written. Assumes nothing.
use native.Mathlib.Omega.{arith}
use Rattle.report_pieces.proofs.JobSteps.{keys_few, text_few, result_size, answer_size, jobs-refused, jobs-written}
use Rattle.report_pieces.proofs.pieces.run.Goals as goal

pub returns-then-answer-ne0 : goal.returns-then-answer-ne0
returns-then-answer-ne0 c =
    jobs-refused c.requires _ _ _ c.batch-answer.ensures c.if-answer-ne0.true

pub write_jobs-requires : goal.write_jobs-requires
write_jobs-requires c =
    let s = c.before.before in (
      keys_few s.requires,
      s.requires.numbered,
      omega (arith, text_few s.requires, s.requires.text_room),
      omega (arith, result_size s.requires),
      omega (arith, answer_size s.requires),
    )

pub job_bytes-requires : goal.job_bytes-requires
job_bytes-requires c = keys_few c.before.before.requires

pub overflow_cast-result : goal.overflow_cast-result
overflow_cast-result c = rw c.job_bytes.ensures (omega (arith, text_few c.before.before.requires))

pub returns : goal.returns
returns c =
    let s = c.before.before in
    rw (c.job_bytes.ensures, c.write_jobs.ensures) (jobs-written s.requires _ _ _ c.batch-answer.ensures c.if-answer-ne0.false (omega arith))
