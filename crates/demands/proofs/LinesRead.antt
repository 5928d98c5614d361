-- Of the jobs, those that the program reads: which they are, and that their lines are as they were.
use Prim.Native.Nat.{ℕ, ◌-◌, ◌*◌, ◌<◌, min}
use native.Mathlib.Omega.{arith}
use mathlib.Core.Path.{◌≡◌, ap, ◌∙◌}
use mathlib.Core.Logic.{◌↔◌}
use mathlib.Core.List.{List}
use lib.ListN.{take, drop, length-take}
use lib.Seq.{take-take}
use Rattle.sheet.specs.Limits.{line_width}
use Rattle.settlements.specs.Batch.{job_count}
use Rattle.sheet.proofs.Parts.{drop-take}
use Rattle.output.specs.Limits.{most_jobs}
use Rattle.output.proofs.OutputLines.{lines_read}
use Rattle.demands.specs.Demand1.{line_of}

pub read_jobs : (jobs : List ℕ) → job_count (lines_read jobs) ≡ min most_jobs (job_count jobs)
unfolding job_count
read_jobs jobs = omega (arith, length-take (most_jobs * line_width) jobs)

module _ (jobs : List ℕ) (n : ℕ) where
  pub read_iff : (n < job_count (lines_read jobs)) ↔ ((n < most_jobs) × (n < job_count jobs))
  unfolding job_count
  read_iff =
      let size = length-take (most_jobs * line_width) jobs in
      (λ h. (omega (arith, size), omega (arith, size)), λ h. omega (arith, size))

  pub read_line_lem : n < most_jobs → line_of n (lines_read jobs) ≡ line_of n jobs
  read_line_lem few =
      ap (take line_width) (drop-take (n * line_width) (most_jobs * line_width) jobs)
      ∙ take-take line_width (most_jobs * line_width - n * line_width) (drop (n * line_width) jobs) (omega arith)
