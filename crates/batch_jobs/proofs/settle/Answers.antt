-- `batch_jobs::settle` meets its contract, by whether there are passes. Assumes nothing.
use mathlib.Core.Path.{◌≡◌, refl}
use mathlib.Core.List.{List}
use Rattle.std.specs.Prelude.{ℕ, ◌++◌, Some, None, take, drop}
use Rattle.lookups.specs.declared.Passes.{Passes}
use Rattle.settlements.specs.Settle.{settling, settlement}
use Rattle.settlements.specs.Passed.{settled_by}
use Rattle.batch_jobs.proofs.settle.Goals as goal

-- without passes, 44 and both buffers as they were
unstable : (h : ℕ) (R T : List ℕ) → settlement (settling 44 0 0 0) R T ≡ settled_by h None R T
unfolding settled_by
unstable h R T = refl

-- with passes, both step counts and both vectors
both_written : (h : ℕ) (p : Passes) (R T : List ℕ) →
    settlement (settling 0 0 p.first_steps p.second_steps) (take h p.first ++ drop h R) (take h p.second ++ drop h T)
    ≡ settled_by h (Some p) R T
unfolding settled_by
both_written h p R T = refl

pub returns-in_default : goal.returns-in_default
returns-in_default c =
    rw (← c.passes-passed.ensures, c.in_default.is, c.refused.ensures)
    (unstable c.args.look_ups.now.count c.args.r.now c.args.t.now)

pub returns : goal.returns
returns c =
    rw (← c.passes-passed.ensures, c.in-Some.is, c.write.ensures, c.write-2.ensures)
    (both_written c.args.look_ups.now.count c.in-Some.passed c.args.r.now c.args.t.now)
