-- `pieces::write` meets its contract: buffers of just the size that the jobs need, and the jobs in them. Of the places, s is the start, j the one after
-- the jobs are counted, k after the key nodes are, a after both buffers are made. Assumes nothing.
use Prim.Native.Nat.{ℕ, ◌*◌, ◌≤◌}
use native.Mathlib.Omega.{arith}
use mathlib.Core.Path.{◌≡◌, ap, ◌∙◌}
use lib.ListN.{length, length-replicate}
use Rattle.net.specs.Limits.{most_key_nodes}
use Rattle.troubles.proofs.FitLaws.{valid_fit}
use Rattle.settlements.specs.Batch.{answer_width}
use Rattle.output.specs.Limits.{piece_jobs}
use Rattle.output.proofs.ReadLines.{jobs_few}
use Rattle.report_pieces.specs.Pieces.{result_bytes, answer_bytes}
use Rattle.report_pieces.proofs.JobSteps.{piece_room, zeros-lent}
use Rattle.report_pieces.proofs.pieces.write.Goals as goal
use Rattle.report_pieces.proofs.pieces.write.Goals.{After-job_count-count, After-key_count-h, After-zeros-answers, After-zeros-results}

few : (c : After-job_count-count) → c.job_count-count.result ≤ piece_jobs
few c = rw c.job_count-count.ensures (jobs_few piece_jobs _ c.requires.1)

narrow : (c : After-key_count-h) → c.key_count-h.result ≤ most_key_nodes
narrow c = omega (arith, c.key_count-h.ensures, (valid_fit _ c.requires.0).keys)

-- the jobs need no more bytes than the buffers have
results-few : (c : After-key_count-h) → c.job_count-count.result * (2 * c.key_count-h.result) ≤ result_bytes
results-few c = piece_room (2 * most_key_nodes) (few (goal.at.After-key_count-h c).After-job_count-count) (omega (arith, narrow c))

answers-few : (c : After-job_count-count) → c.job_count-count.result * answer_width ≤ answer_bytes
answers-few c = omega (arith, few c)

results-size : (c : After-zeros-results) → length c.zeros-results.result ≡ result_bytes
results-size c = ap length c.zeros-results.ensures ∙ length-replicate {A = ℕ} result_bytes 0

answers-size : (c : After-zeros-answers) → length c.zeros-answers.result ≡ answer_bytes
answers-size c = ap length c.zeros-answers.ensures ∙ length-replicate {A = ℕ} answer_bytes 0

pub key_count-h-requires : goal.key_count-h-requires
key_count-h-requires c = (valid_fit _ c.requires.0).readable

pub overflow_mul-results_end : goal.overflow_mul-results_end
overflow_mul-results_end c = omega (arith, narrow (goal.at.overflow_mul-results_end c).After-key_count-h)

pub overflow_mul-results_end-2 : goal.overflow_mul-results_end-2
overflow_mul-results_end-2 c = omega (arith, results-few (goal.at.overflow_mul-results_end-2 c).After-key_count-h)

pub overflow_mul-answers_end : goal.overflow_mul-answers_end
overflow_mul-answers_end c = omega (arith, answers-few (goal.at.overflow_mul-answers_end c).After-job_count-count)

pub slice_bounds-results-end : goal.slice_bounds-results-end
slice_bounds-results-end c = omega (arith, results-size (goal.at.slice_bounds-results-end c).After-zeros-results, results-few (goal.at.slice_bounds-results-end c).After-key_count-h)

pub slice_bounds-answers-end : goal.slice_bounds-answers-end
slice_bounds-answers-end c = omega (arith, answers-size (goal.at.slice_bounds-answers-end c).After-zeros-answers, answers-few (goal.at.slice_bounds-answers-end c).After-job_count-count)

pub run-requires : goal.run-requires
run-requires c =
    record {
      fit = c.requires.0;
      keys = c.key_count-h.ensures;
      counted = c.job_count-count.ensures;
      few = few (goal.at.run-requires c).After-job_count-count;
      numbered = omega (arith, few (goal.at.run-requires c).After-job_count-count);
      result_room = zeros-lent (results-few (goal.at.run-requires c).After-key_count-h) c.zeros-results.ensures;
      answer_room = zeros-lent (answers-few (goal.at.run-requires c).After-job_count-count) c.zeros-answers.ensures;
      text_room = c.requires.2;
    }
