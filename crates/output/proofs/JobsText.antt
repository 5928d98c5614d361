-- The lines of the jobs: what they are where the jobs are run, and how long.
use Prim.Native.Nat.{ℕ, ◌*◌, ◌≤◌}
use native.Mathlib.Nat.{mul-le-mul}
use native.Mathlib.Omega.{arith}
use mathlib.Core.Path.{◌≡◌, ◌∙◌}
use mathlib.Core.List.{List, []}
use lib.Dec.{eqb}
use lib.ListN.{length, length-replicate}
use borrow.Author.Tests.{eqb-true, eq-eqb}
use Rattle.ternary.proofs.Tests.{by_test}
use Rattle.net.specs.declared.Net.{Net}
use Rattle.net.specs.Limits.{most_key_nodes}
use Rattle.net.specs.Graph.{key_count}
use Rattle.net.proofs.Filling.{zeros}
use Rattle.sheet.specs.Reading.{read_sheet}
use Rattle.sheet.proofs.Known.{valid-keys}
use Rattle.soundness.specs.Verdict.{verdict_of}
use Rattle.settlements.specs.Batch.{job_count, job_width, answer_width, Buffers, run_jobs}
use Rattle.settlements.proofs.BatchLaws.{length-pieces}
use Rattle.settlements.proofs.PieceLaws.{jobs_of}
use Rattle.settlements.proofs.RunLaws.{results_length, answers_length}
use Rattle.output.specs.Limits.{piece_jobs, job_bytes, piece_bytes}
use Rattle.output.specs.Text.{job_texts}
use Rattle.output.specs.Output.{goes_on, net_text, jobs_text}
use Rattle.output.specs.Calls.{read_lines}
use Rattle.output.proofs.Lengths.{length-jobs}
use Rattle.output.proofs.ReadLines.{read_few, jobs_few}
use Rattle.output.proofs.GoesOn.{Runs, runs_iff, batch_runs}

-- what the jobs write into buffers of just the size they need
abbrev pub jobs_run : Net → List ℕ → Buffers
jobs_run N lines = run_jobs N (jobs_of lines) (zeros (job_count lines * job_width N)) (zeros (job_count lines * answer_width))

module _ (N : Net) (lines : List ℕ) where
  pub run_results : length (jobs_run N lines).results ≡ job_count lines * job_width N
  run_results =
      results_length N (jobs_of lines) _ (zeros (job_count lines * answer_width)) (rw (length-pieces, length-replicate) (omega arith)) ∙ length-replicate _ _

  pub run_answers : length (jobs_run N lines).answers ≡ job_count lines * answer_width
  run_answers =
      answers_length N (jobs_of lines) (zeros (job_count lines * job_width N)) _ (rw (length-pieces, length-replicate) (omega arith)) ∙ length-replicate _ _

module _ (sheet : List ℕ) where
  -- the reader takes the sheet, and the jobs are run
  abbrev pub Prints : Type 0
  Prints = ((read_sheet sheet).answer.number ≡ 0) × Runs (read_sheet sheet).net

  pub printed : Prints → (n : ℕ) (lines : List ℕ)
      → jobs_text sheet n lines ≡ job_texts (key_count (read_sheet sheet).net) (job_count lines) n (jobs_run (read_sheet sheet).net lines).results (jobs_run (read_sheet sheet).net lines).answers
  unfolding jobs_text net_text
  printed p n lines = rw (eq-eqb (read_sheet sheet).answer.number 0 p.0, (runs_iff (read_sheet sheet).net).1 p.1, batch_runs (read_sheet sheet).net lines p.1)

  -- the jobs are run, or there is no line of any job
  pub by_prints : {G : Type 0} → (Prints → G) → (((n : ℕ) (lines : List ℕ) → jobs_text sheet n lines ≡ []) → G) → G
  unfolding jobs_text net_text
  by_prints f g =
      by_test (eqb (read_sheet sheet).answer.number 0)
      (λ e. by_test (goes_on (verdict_of (read_sheet sheet).net).number)
      (λ d. f (eqb-true (read_sheet sheet).answer.number 0 e, (runs_iff (read_sheet sheet).net).0 d))
      (λ d. g (λ n lines. rw (e, d))))
      (λ e. g (λ n lines. rw e))

  -- ---- lengths

  pub length-printed : Prints → (n : ℕ) (lines : List ℕ) → length (jobs_text sheet n lines) ≡ job_count lines * job_bytes (key_count (read_sheet sheet).net)
  length-printed p n lines =
      rw (printed p n lines) (length-jobs (key_count (read_sheet sheet).net) (job_count lines) n _ _ (omega (arith, run_results (read_sheet sheet).net lines)))

  pub jobs_fit : (n : ℕ) (lines : List ℕ) → length (jobs_text sheet n lines) ≤ job_count lines * job_bytes most_key_nodes
  jobs_fit n lines =
      by_prints
      (λ p. let most = valid-keys (read_sheet sheet).net p.1.0 in
      rw (length-printed p n lines) (mul-le-mul (omega arith) (omega arith)))
      (λ none. rw (none n lines) (omega arith))

  -- the room that a piece asks for is enough for the lines that are read
  pub piece-fits : (n : ℕ) (lines : List ℕ) → length (jobs_text sheet n (read_lines n lines)) ≤ piece_bytes
  piece-fits n lines = omega (arith, jobs_fit n (read_lines n lines), jobs_few piece_jobs (read_lines n lines) (read_few n lines))
