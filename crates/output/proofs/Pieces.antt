-- The lines of jobs after other jobs are the lines of the first and then those of the others.
use Prim.Native.Nat.{ℕ, zero, suc, ◌+◌, ◌*◌, min}
use native.Mathlib.Nat.{zero-mul, suc-mul, zero-add, add-zero, suc-add, add-suc, add-mul, min-eq_left, min-eq_right}
use native.Mathlib.Omega.{arith}
use mathlib.Core.Path.{◌≡◌, sym, ap, ◌∙◌}
use mathlib.Core.List.{List, [], ◌++◌, append_assoc, append-nil}
use lib.Dec.{ltb}
use lib.ListN.{length, take, drop, length-take, length-drop, length-replicate, take-append-drop, replicate-append-replicate, drop_of_length-le}
use lib.Seq.{take-append-le, drop-append-le, take_all, take-take, length-take-le}
use borrow.Author.Tests.{ltb-true, ltb-false}
use Rattle.ternary.proofs.Tests.{by_test}
use Rattle.net.specs.declared.Net.{Net}
use Rattle.net.specs.Graph.{key_count}
use Rattle.net.proofs.Filling.{zeros}
use Rattle.sheet.specs.Limits.{line_width}
use Rattle.sheet.specs.Reading.{read_sheet}
use Rattle.settlements.specs.Batch.{job_count, job_width, answer_width, buffers}
use Rattle.settlements.proofs.BatchLaws.{length-pieces}
use Rattle.settlements.proofs.PieceLaws.{jobs_of}
use Rattle.settlements.proofs.RunLaws.{run_append, count-whole, count-append, pieces-append}
use Rattle.output.specs.Limits.{most_jobs}
use Rattle.output.specs.Text.{job_text, job_texts}
use Rattle.output.specs.Output.{opening_text, jobs_text, output_of}
use Rattle.output.proofs.JobsText.{jobs_run, run_results, run_answers, printed, by_prints}

-- ---- one text after another

texts-append : (N : Net) (m count n : ℕ) (results more answers others : List ℕ) → length results ≡ m * job_width N → length answers ≡ m * answer_width
    → job_texts (key_count N) (m + count) n (results ++ more) (answers ++ others) ≡ job_texts (key_count N) m n results answers ++ job_texts (key_count N) count (n + m) more others
unfolding job_texts
texts-append N zero count n results more answers others er ea =
    let no-results : results ≡ [] = sym (take_all 0 results (omega (arith, zero-mul (job_width N)))) in
    let no-answers : answers ≡ [] = sym (take_all 0 answers (omega arith)) in
    rw (no-results, no-answers, zero-add, add-zero)
texts-append N (suc m) count n results more answers others er ea =
    let one_more_lem : suc m * job_width N ≡ m * job_width N + job_width N = suc-mul m (job_width N) in
    rw (
      suc-add m count,
      add-suc n m,
      take-append-le (job_width N) results more (omega arith),
      drop-append-le (job_width N) results more (omega arith),
      take-append-le answer_width answers others (omega arith),
      drop-append-le answer_width answers others (omega arith),
      texts-append N m count (suc n) (drop (job_width N) results) more (drop answer_width answers) others
          (length-drop (job_width N) results ∙ omega arith) (length-drop answer_width answers ∙ omega arith),
      append_assoc (job_text (key_count N) n (take answer_width answers) (take (job_width N) results)),
      suc-add n m,
    )

zeros_split : (m count w : ℕ) → zeros ((m + count) * w) ≡ zeros (m * w) ++ zeros (count * w)
zeros_split m count w = ap zeros (add-mul m count w) ∙ sym (replicate-append-replicate (m * w) (count * w) 0)

-- the first of two lists of lines has whole lines only
module _ (N : Net) (xs ys : List ℕ) (whole : length xs ≡ job_count xs * line_width) where
  counts : job_count (xs ++ ys) ≡ job_count xs + job_count ys
  counts = count-append (job_count xs) xs ys whole

  run_split : jobs_run N (xs ++ ys) ≡ buffers ((jobs_run N xs).results ++ (jobs_run N ys).results) ((jobs_run N xs).answers ++ (jobs_run N ys).answers)
  run_split =
      rw (
        counts,
        pieces-append (job_count xs) (job_count ys) xs ys whole,
        zeros_split (job_count xs) (job_count ys) (job_width N),
        zeros_split (job_count xs) (job_count ys) answer_width,
      )
      (run_append N (jobs_of xs) (jobs_of ys) _ _ _ _ (rw (length-replicate, length-pieces)) (rw (length-replicate, length-pieces)))

append-whole : (sheet : List ℕ) (n : ℕ) (xs ys : List ℕ) → length xs ≡ job_count xs * line_width
    → jobs_text sheet n (xs ++ ys) ≡ jobs_text sheet n xs ++ jobs_text sheet (n + job_count xs) ys
append-whole sheet n xs ys whole = by_prints sheet
    (λ p. rw (printed sheet p n (xs ++ ys), printed sheet p n xs, printed sheet p (n + job_count xs) ys, run_split N xs ys whole, counts N xs ys whole)
    (texts-append N (job_count xs) (job_count ys) n _ _ _ _ (run_results N xs) (run_answers N xs)))
    (λ none. rw (none n (xs ++ ys), none n xs, none (n + job_count xs) ys))
  where
    N : Net
    N = (read_sheet sheet).net

-- LINES AFTER LINES: m whole lines first
pub jobs-append : (sheet : List ℕ) (n m : ℕ) (xs ys : List ℕ) → length xs ≡ m * line_width
    → jobs_text sheet n (xs ++ ys) ≡ jobs_text sheet n xs ++ jobs_text sheet (n + m) ys
jobs-append sheet n m xs ys whole =
    let count = count-whole m xs ys whole in
    append-whole sheet n xs ys (omega arith) ∙ ap (λ (k : ℕ). jobs_text sheet n xs ++ jobs_text sheet (n + k) ys) count

-- no lines, no text
pub jobs_none : (sheet : List ℕ) (n : ℕ) → jobs_text sheet n [] ≡ []
unfolding job_texts job_count
jobs_none sheet n = by_prints sheet (λ p. printed sheet p n []) (λ none. none n [])

-- the first m lines and the others, however many there are
pub jobs_split : (sheet : List ℕ) (n m : ℕ) (lines : List ℕ)
    → jobs_text sheet n (take (m * line_width) lines) ++ jobs_text sheet (n + m) (drop (m * line_width) lines) ≡ jobs_text sheet n lines
jobs_split sheet n m lines =
    by_test (ltb (length lines) (m * line_width))
    (λ e. let short = ltb-true (length lines) (m * line_width) e in
    rw (take_all (m * line_width) lines (omega arith), drop_of_length-le lines {i = m * line_width} (omega arith), jobs_none sheet (n + m), append-nil))
    (λ e. let enough = ltb-false (length lines) (m * line_width) e in
    sym (jobs-append sheet n m (take (m * line_width) lines) (drop (m * line_width) lines) (length-take-le (m * line_width) lines enough))
    ∙ ap (jobs_text sheet n) (take-append-drop (m * line_width) lines))

-- the first of the first
pub take_min : (a b : ℕ) (l : List ℕ) → take (a * line_width) (take (b * line_width) l) ≡ take (min a b * line_width) l
take_min a b l =
    by_test (ltb a b)
    (λ e. let less = ltb-true a b e in rw (min-eq_left {n = a} {m = b} (omega arith)) (take-take (a * line_width) (b * line_width) l (omega arith)))
    (λ e. let more = ltb-false a b e in rw (min-eq_right {n = b} {m = a} more) (take_all (a * line_width) (take (b * line_width) l) (rw length-take (omega arith))))

-- jobs past the last that is read change nothing
pub jobs_unread : (sheet jobs : List ℕ) → output_of sheet (take (most_jobs * line_width) jobs) ≡ output_of sheet jobs
unfolding output_of
jobs_unread sheet jobs =
    ap (λ (l : List ℕ). opening_text sheet ++ jobs_text sheet 1 l) (take-take (most_jobs * line_width) (most_jobs * line_width) jobs (omega arith))
