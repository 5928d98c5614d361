-- The line of each job in the output of an accepted sheet whose net meets C1.
use Prim.Native.Nat.{ℕ, zero, suc, ◌+◌, ◌*◌, ◌≤◌, ◌<◌}
use native.Mathlib.Nat.{mul-le-mul_right, zero-mul, suc-mul, add-zero, add-suc, suc-add}
use native.Mathlib.Omega.{arith}
use mathlib.Core.Path.{◌≡◌, sym, ap, ◌∙◌}
use mathlib.Core.Logic.{◌≢◌}
use mathlib.Core.List.{List, [], ◌∷◌, ◌++◌, map}
use mathlib.Core.Option.{none}
use lib.ListN.{length, take, drop, replicate, length-drop}
use lib.Seq.{take_at, drop_at, drop-drop, length-take-le}
use Rattle.ternary.specs.Signal.{at}
use Rattle.net.specs.declared.Net.{Net}
use Rattle.net.specs.Graph.{key_count}
use Rattle.net.specs.WellFormed.{place_c1}
use Rattle.sheet.specs.Limits.{field_width, line_width, blank, line_end}
use Rattle.sheet.specs.Line.{write_number}
use Rattle.sheet.specs.Record.{accepted}
use Rattle.sheet.specs.Reading.{read_sheet}
use Rattle.sheet.proofs.ReadLaws.{read_valid}
use Rattle.settlements.specs.Batch.{job_count, job_width, answer_width, Batch}
use Rattle.settlements.proofs.BatchLaws.{drop_suc_mul, step-drop}
use Rattle.output.specs.Limits.{most_jobs, opening_bytes, job_bytes, hyphen}
use Rattle.output.specs.Text.{character, vector_text, job_text, job_texts}
use Rattle.output.specs.Output.{opening_text, batch_for, net_text, jobs_text, output_of}
use Rattle.output.specs.Printed.{printed_line, printed_numbers, printed_answer, printed_r, printed_t}
use Rattle.output.proofs.Lengths.{length_opening, length_job}
use Rattle.output.proofs.GoesOn.{batch_runs, goes_on_lem}
use Rattle.output.proofs.JobsText.{run_results}
use Rattle.output.proofs.Characters.{vector_taken, vector_settled, vector_refused, answer-printed, numbers-printed, r-printed, t-printed}

-- the bytes of job k, from 0, in the two buffers
abbrev pub own_of : Net → ℕ → List ℕ → List ℕ
own_of N k results = take (job_width N) (drop (k * job_width N) results)

abbrev pub three_of : ℕ → List ℕ → List ℕ
three_of k answers = take answer_width (drop (k * answer_width) answers)

-- ---- one line of many

module _ (N : Net) where
  abbrev first_text : ℕ → List ℕ → List ℕ → List ℕ
  first_text n results answers = job_text (key_count N) n (take answer_width answers) (take (job_width N) results)

  first-length : (count n : ℕ) (results answers : List ℕ) → suc count * job_width N ≤ length results
      → length (first_text n results answers) ≡ job_bytes (key_count N)
  first-length count n results answers fits =
      let more : suc count * job_width N ≡ count * job_width N + job_width N = suc-mul count (job_width N) in
      length_job (key_count N) n (take answer_width answers) (take (job_width N) results) (length-take-le (job_width N) results (omega arith))

  pub text_at : (count n : ℕ) (results answers : List ℕ) (k : ℕ) → k < count → count * job_width N ≤ length results
      → take (job_bytes (key_count N)) (drop (k * job_bytes (key_count N)) (job_texts (key_count N) count n results answers))
      ≡ job_text (key_count N) (n + k) (three_of k answers) (own_of N k results)
  unfolding job_texts
  text_at zero n results answers k h fits = absurd (omega arith)
  text_at (suc count) n results answers zero h fits =
      rw (zero-mul (job_bytes (key_count N)), zero-mul (job_width N), add-zero) (take_at (first_text n results answers) _ (job_bytes (key_count N)) (first-length count n results answers fits))
  text_at (suc count) n results answers (suc k) h fits =
      let more : suc count * job_width N ≡ count * job_width N + job_width N = suc-mul count (job_width N) in
      ap (take (job_bytes (key_count N))) (step-drop k (job_bytes (key_count N)) (first_text n results answers) _ (first-length count n results answers fits))
      ∙ text_at count (suc n) (drop (job_width N) results) (drop answer_width answers) k (omega arith) (rw length-drop (omega arith))
      ∙ rw (drop_suc_mul k (job_width N) results, drop_suc_mul k answer_width answers, add-suc n k, suc-add n k)

-- ---- in the whole output

-- the lines that are read
abbrev pub lines_read : List ℕ → List ℕ
lines_read jobs = take (most_jobs * line_width) jobs

module _ (sheet : List ℕ) (N : Net) (reads : read_sheet sheet ≡ accepted N) (c1 : place_c1 N ≡ none) where
  pub jobs-printed : (n : ℕ) (lines : List ℕ) → jobs_text sheet n lines ≡ job_texts (key_count N) (job_count lines) n (batch_for N lines).buffers.results (batch_for N lines).buffers.answers
  unfolding jobs_text net_text
  jobs-printed n lines = rw (reads, (goes_on_lem sheet N reads).1 c1)

  results_fit : (lines : List ℕ) → length (batch_for N lines).buffers.results ≡ job_count lines * job_width N
  results_fit lines = ap (λ (b : Batch). length b.buffers.results) (batch_runs N lines (read_valid field_width sheet N reads, c1)) ∙ run_results N lines

  module _ (jobs : List ℕ) (k : ℕ) (h : k < job_count (lines_read jobs)) where
    -- what a batch of the lines read leaves to job k, from 0
    abbrev pub three : List ℕ
    three = three_of k (batch_for N (lines_read jobs)).buffers.answers

    abbrev pub own : List ℕ
    own = own_of N k (batch_for N (lines_read jobs)).buffers.results

    abbrev pub line : List ℕ
    line = printed_line (key_count N) k (output_of sheet jobs)

    pub line-printed : line ≡ job_text (key_count N) (suc k) three own
    unfolding output_of
    line-printed =
        let number : 1 + k ≡ suc k = omega arith in
        ap (take (job_bytes (key_count N))) (
        sym (drop-drop (k * job_bytes (key_count N)) opening_bytes (output_of sheet jobs))
        ∙ ap (drop (k * job_bytes (key_count N))) (drop_at (opening_text sheet) _ opening_bytes (length_opening sheet) ∙ jobs-printed 1 (lines_read jobs)))
        ∙ text_at N (job_count (lines_read jobs)) 1 _ _ k h (omega (arith, results_fit (lines_read jobs)))
        ∙ rw number

    room : (w : ℕ) → w + k * w ≤ job_count (lines_read jobs) * w
    room w = omega (arith, mul-le-mul_right w h, suc-mul k w)

    pub own_size : length own ≡ job_width N
    own_size =
        length-take-le (job_width N) (drop (k * job_width N) (batch_for N (lines_read jobs)).buffers.results)
        (rw length-drop (omega (arith, results_fit (lines_read jobs), room (job_width N))))

    pub numbers_in_output : printed_numbers line ≡ write_number (suc k) ++ write_number (at three 0) ++ write_number (at three 1) ++ write_number (at three 2)
    numbers_in_output = ap printed_numbers line-printed ∙ numbers-printed (key_count N) (suc k) three own own_size

    pub answer_in_output : printed_answer line ≡ write_number (at three 0)
    answer_in_output = ap printed_answer line-printed ∙ answer-printed (key_count N) (suc k) three own

    pub r_in_output : printed_r (key_count N) line ≡ vector_text (key_count N) (at three 0) own
    r_in_output = ap (printed_r (key_count N)) line-printed ∙ r-printed (key_count N) (suc k) three own own_size

    pub t_in_output : printed_t (key_count N) line ≡ vector_text (key_count N) (at three 0) (drop (key_count N) own)
    t_in_output = ap (printed_t (key_count N)) line-printed ∙ t-printed (key_count N) (suc k) three own own_size

    -- under answer 0 the characters are those of the job's own bytes
    pub settled_in_output : (r t : List ℕ) → at three 0 ≡ 0 → own ≡ r ++ t → length r ≡ key_count N → length t ≡ key_count N
        → (printed_r (key_count N) line ≡ map character r) × (printed_t (key_count N) line ≡ map character t)
    settled_in_output r t zero-answer bytes r_size t_size = (
      r_in_output ∙ rw (zero-answer, bytes) (vector_taken (key_count N) (r ++ t) ∙ ap (map character) (take_at r t (key_count N) r_size)),
      t_in_output ∙ rw (zero-answer, bytes, drop_at r t (key_count N) r_size) (vector_settled (key_count N) t t_size),
    )

    -- under a refusal they are hyphens
    pub refused_in_output : at three 0 ≢ 0
        → (printed_r (key_count N) line ≡ replicate (key_count N) hyphen) × (printed_t (key_count N) line ≡ replicate (key_count N) hyphen)
    refused_in_output refused = (
      r_in_output ∙ vector_refused (key_count N) (at three 0) own refused,
      t_in_output ∙ vector_refused (key_count N) (at three 0) (drop (key_count N) own) refused,
    )

    -- the whole line of a refused job
    pub refused-line : (m : ℕ) → m ≢ 0 → three ≡ m ∷ 0 ∷ 0 ∷ [] → line
        ≡ write_number (suc k) ++ write_number m ++ write_number 0 ++ write_number 0
        ++ blank ∷ (replicate (key_count N) hyphen ++ blank ∷ (replicate (key_count N) hyphen ++ line_end ∷ []))
    unfolding job_text
    refused-line m refused is =
        line-printed ∙ rw (is, vector_refused (key_count N) m own refused, vector_refused (key_count N) m (drop (key_count N) own) refused)
