-- Demands 2 and 3 together, of one settling and of one job of a batch.
use Rattle.std.specs.Prelude.{ℕ, ◌≡◌, List}
use Rattle.net.specs.declared.Net.{Net}
use Rattle.sheet.specs.Job.{asks, job_of}
use Rattle.settlements.specs.Settle.{Settlement}
use Rattle.settlements.specs.Batch.{Batch}
use Rattle.demands.specs.Demand1.{line_of}
use Rattle.demands.specs.Demand2.{SettlePasses, JobPasses}
use Rattle.demands.specs.Demand3.{Settles, SettlePromise, JobPromise}

-- all that is promised of one settling on the net of a sheet
pub record Kept (sheet : List ℕ) (N : Net) (A B q : ℕ) (R T : List ℕ) (S : Settlement) : Type 0 where
  pub settles : Settles sheet N A B q
  pub promise : SettlePromise N A B q R T S
  pub passes : SettlePasses N A B q S

-- and of job n, from 0, of a batch
pub record JobKept (sheet : List ℕ) (N : Net) (A B q n : ℕ) (S : Batch) : Type 0 where
  pub settles : Settles sheet N A B q
  pub promise : JobPromise N A B q n S
  pub passes : JobPasses N A B q n S

-- the line of job n asks for two input states and a start, and for these all is kept
pub record JobLineKept (sheet : List ℕ) (N : Net) (jobs : List ℕ) (n : ℕ) (S : Batch) : Type 0 where
  pub A : ℕ
  pub B : ℕ
  pub q : ℕ
  pub asked : job_of (line_of n jobs) ≡ asks A B q
  pub kept : JobKept sheet N A B q n S
