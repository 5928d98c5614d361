-- `run` meets its contract: the jobs whose lines are not left are done. Assumes nothing.
use Prim.Native.Nat.{ℕ, ◌+◌, ◌*◌, ◌≤◌, min}
use native.Mathlib.Omega.{arith}
use native.Mathlib.Nat.{zero-mul}
use mathlib.Core.Path.{sym, ap, subst, ◌∙◌}
use borrow.Author.Rules.{rules}
use lib.ListN.{length}
use Rattle.settlements.specs.Batch.{answer_width}
use Rattle.settlements.proofs.PieceLaws.{Taken}
use Rattle.settlements.proofs.JobsInTurn.{one_more, start, results_now, answers_now, step, finish}
use Rattle.batch_jobs.proofs.run.Goals as goal
use Rattle.batch_jobs.proofs.run.Goals.{In-Some}

-- the line at hand is taken of those that are left
taken : (c : In-Some) → Taken c.loop-i.i-iterator.iter.rest.now c.in-Some.line.now c.next.new.self.iter.rest.now
taken c =
    let n = c.in-Some.ensures.steps.0.1 in
    record { parts = n.0; size = n.1 ∙ ap (λ (w : ℕ). min w (length c.loop-i.i-iterator.iter.rest.now)) c.loop-i.invariant.2; some = n.2 }

pub loop-i-init : goal.loop-i-init
loop-i-init c =
    let gives = c.into_iter-i-iterator.ensures.into_iter_gives in
    let source = c.enumerate-i-items.ensures.source in (
      search rules,
      search rules,
      rw (gives, source) c.chunks.ensures.size,
      rw c.requires.0.keys,
      rw (gives, source, c.enumerate-i-items.ensures.count, c.chunks.ensures.rest, zero-mul (2 * c.args.look_ups.now.count), zero-mul answer_width) (start _ _ _ _ c.requires.1 c.requires.2),
    )

pub slice_bounds-job-end : goal.slice_bounds-job-end
slice_bounds-job-end c =
    let w = 2 * c.args.look_ups.now.count in
    let v = c.loop-i.invariant in
    subst (λ (n : ℕ). n * w + w ≤ length c.loop-i.results) (sym c.in-Some.ensures.steps.1) (results_now v.4 (taken (goal.at.slice_bounds-job-end c).In-Some) v.3)

pub slice_bounds-write_answer-end : goal.slice_bounds-write_answer-end
slice_bounds-write_answer-end c = omega (arith, answers_now c.loop-i.invariant.4 (taken (goal.at.slice_bounds-write_answer-end c).In-Some), c.in-Some.ensures.steps.1)

pub loop-i-preserved : goal.loop-i-preserved
loop-i-preserved c =
    let w = 2 * c.args.look_ups.now.count in
    let i = c.in-Some.i in
    let n = c.in-Some.ensures.steps in
    let v = c.loop-i.invariant in (
      search rules,
      search rules,
      n.0.0 ∙ v.2,
      v.3,
      rw (n.2, ← n.1, one_more i w, one_more i answer_width)
          (step (rw (← n.1) at v.4) (taken (goal.at.loop-i-preserved c).In-Some) v.3 _ _ _ c.job-answer.ensures c.write_answer.ensures),
    )

pub returns : goal.returns
returns c = finish c.loop-i.invariant.4 c.in-None.ensures.steps.0.1.0
