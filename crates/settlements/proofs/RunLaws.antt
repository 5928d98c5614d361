-- The jobs of a batch keep the lengths of both buffers, and jobs after other jobs have the bytes after theirs.
use Prim.Native.Nat.{ℕ, zero, suc, ◌+◌, ◌*◌, ◌≤◌}
use native.Mathlib.Nat.{zero-mul, suc-mul, zero-add, suc-add}
use native.Mathlib.Omega.{arith}
use mathlib.Core.Path.{◌≡◌, refl, sym, ◌∙◌}
use mathlib.Core.List.{List, [], ◌∷◌, ◌++◌, append_assoc}
use lib.ListN.{length, take, drop, length-append, length-drop}
use lib.Seq.{take_all, take-append-le, drop-append-le}
use Rattle.net.specs.declared.Net.{Net}
use Rattle.sheet.specs.Limits.{line_width}
use Rattle.sheet.specs.Job.{job_of}
use Rattle.settlements.specs.Batch.{job_count, pieces, job_width, answer_width, job_settlement, buffers, run_jobs}
use Rattle.settlements.proofs.BatchLaws.{vectors_of, own-length, rest-fits}

module _ (N : Net) where
  -- ---- lengths

  pub results_length : (js : List (List ℕ)) (results answers : List ℕ) → length js * job_width N ≤ length results
      → length (run_jobs N js results answers).results ≡ length results
  unfolding run_jobs
  results_length [] results answers fits = refl
  results_length (j ∷ js) results answers fits =
      let more : suc (length js) * job_width N ≡ length js * job_width N + job_width N = suc-mul (length js) (job_width N) in
      let ih = results_length js (drop (job_width N) results) (drop answer_width answers) (rest-fits N j js results fits) in
      length-append (vectors_of (job_settlement N (job_of j) (take (job_width N) results))) _
      ∙ omega (arith, own-length N j js results fits, ih, length-drop (job_width N) results)

  pub answers_length : (js : List (List ℕ)) (results answers : List ℕ) → length js * answer_width ≤ length answers
      → length (run_jobs N js results answers).answers ≡ length answers
  unfolding run_jobs
  answers_length [] results answers fits = refl
  answers_length (j ∷ js) results answers fits =
      let ih = answers_length js (drop (job_width N) results) (drop answer_width answers) (rw length-drop (omega arith)) in
      omega (arith, ih, length-drop answer_width answers)

  -- ---- jobs after other jobs

  pub run_append : (js ks : List (List ℕ)) (results more answers others : List ℕ) → length results ≡ length js * job_width N → length answers ≡ length js * answer_width
      → run_jobs N (js ++ ks) (results ++ more) (answers ++ others)
      ≡ buffers ((run_jobs N js results answers).results ++ (run_jobs N ks more others).results) ((run_jobs N js results answers).answers ++ (run_jobs N ks more others).answers)
  unfolding run_jobs
  run_append [] ks results more answers others er ea =
      let no-results : results ≡ [] = sym (take_all 0 results (omega (arith, zero-mul (job_width N)))) in
      let no-answers : answers ≡ [] = sym (take_all 0 answers (omega arith)) in
      rw (no-results, no-answers)
  run_append (j ∷ js) ks results more answers others er ea =
      let one_more_lem : suc (length js) * job_width N ≡ length js * job_width N + job_width N = suc-mul (length js) (job_width N) in
      rw (
        take-append-le (job_width N) results more (omega arith),
        drop-append-le (job_width N) results more (omega arith),
        drop-append-le answer_width answers others (omega arith),
        run_append js ks (drop (job_width N) results) more (drop answer_width answers) others (length-drop (job_width N) results ∙ omega arith) (length-drop answer_width answers ∙ omega arith),
        append_assoc (vectors_of (job_settlement N (job_of j) (take (job_width N) results))),
      )

-- ---- lines after other lines

module _ (m : ℕ) (xs ys : List ℕ) (whole : length xs ≡ m * line_width) where
  pub count-whole : job_count xs ≡ m
  unfolding job_count
  count-whole = omega arith

  pub count-append : job_count (xs ++ ys) ≡ m + job_count ys
  unfolding job_count
  count-append = rw length-append (omega arith)

pub pieces-append : (m count : ℕ) (xs ys : List ℕ) → length xs ≡ m * line_width → pieces (m + count) (xs ++ ys) ≡ pieces m xs ++ pieces count ys
unfolding pieces
pieces-append zero count [] ys e = rw zero-add
pieces-append zero count (x ∷ xs) ys e = absurd (omega arith)
pieces-append (suc m) count xs ys e =
    rw (
      suc-add,
      take-append-le line_width xs ys (omega arith),
      drop-append-le line_width xs ys (omega arith),
      pieces-append m count (drop line_width xs) ys (length-drop line_width xs ∙ omega arith),
    )
