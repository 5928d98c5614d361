-- `job_count` meets its contract. Assumes nothing.
use native.Mathlib.Omega.{arith}
use Rattle.settlements.specs.Batch.{job_count}
use Rattle.job_tests.proofs.job_count.Goals as goal

pub returns : goal.returns
unfolding job_count
returns c = omega (arith, c.div_ceil.ensures)
