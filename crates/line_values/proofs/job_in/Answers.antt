-- `job_in` meets its contract: t is the place where the line was read, u the one after the test of its kind.
use mathlib.Core.Path.{sym, ◌∙◌}
use Rattle.sheet.proofs.JobLaws.{job_unread, not_job, wrong_fifth, is_job}
use Rattle.line_values.proofs.job_in.Goals as goal

pub returns-in_err-v : goal.returns-in_err-v
returns-in_err-v c = rw c.from_residual.ensures (job_unread _ _ (sym c.read_line.ensures ∙ c.in_err-v.was))

pub returns-then-v-ne-JOB : goal.returns-then-v-ne-JOB
returns-then-v-ne-JOB c = not_job _ _ _ (sym c.read_line.ensures ∙ c.in_ok-v.was) c.if-v-ne-JOB.true

pub returns-then-v-ne0 : goal.returns-then-v-ne0
returns-then-v-ne0 c =
    wrong_fifth _ _ _ (sym c.read_line.ensures ∙ c.in_ok-v.was) c.if-v-ne0.true c.if-v-ne-JOB.false

pub returns : goal.returns
returns c =
    is_job _ _ _ (sym c.read_line.ensures ∙ c.in_ok-v.was) c.if-v-ne-JOB.false c.if-v-ne0.false
