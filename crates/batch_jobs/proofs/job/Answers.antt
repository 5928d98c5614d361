-- `job` meets its contract: the tests in the order of the rows, then both vectors. Assumes nothing.
use mathlib.Core.Path.{◌≡◌, sym, ◌∙◌}
use lib.Seq.{take_at, drop_at}
use Rattle.sheet.specs.Job.{asks, job_of}
use Rattle.settlements.proofs.PassedLaws.{passed}
use Rattle.settlements.proofs.JobSteps.{no_job, bad_state, not_stable, at_rest}
use Rattle.batch_jobs.proofs.job.Goals as goal
use Rattle.batch_jobs.proofs.job.Goals.{In-Some}

-- what the line asks for
asked : (c : In-Some) → job_of c.args.line.now ≡ asks c.in-Some.asked.old c.in-Some.asked.new c.in-Some.asked.start
asked c = sym c.job.ensures ∙ c.in-Some.is

pub returns-in_default : goal.returns-in_default
returns-in_default c = rw c.refused.ensures (no_job _ _ (sym c.job.ensures ∙ c.in_default.is))

pub returns-in-Some-state_number : goal.returns-in-Some-state_number
returns-in-Some-state_number c =
    rw c.refused-in-Some-state_number.ensures
    (bad_state _ _ (asked (goal.at.returns-in-Some-state_number c).In-Some) (rw c.requires.0.keys at (sym c.state_number.ensures ∙ c.in-Some-state_number.is)))

pub returns : goal.returns
returns c =
    let line = asked (goal.at.returns c).In-Some in
    let p = c.split_at_mut-r.ensures in
    let keys = c.requires.0.keys in
    let states = rw keys at (sym c.state_number.ensures ∙ c.in_default-state_number.is) in
    let size = c.settle.auto.r ∙ p.front_len ∙ keys in
    rw (take_at c.settle.new.r c.settle.new.t _ size, drop_at c.settle.new.r c.settle.new.t _ size)
    (c.settle.ensures
    ∙ passed c.requires.0 _ _ _ states _ _ (λ e. rw (p.front, p.back, keys) (at_rest _ _ line states e)) (λ e. rw (p.front, p.back, keys) (not_stable _ _ line states e)))
