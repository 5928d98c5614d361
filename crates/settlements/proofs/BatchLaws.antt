-- Laws of a batch: where each job's bytes stand, and that a batch fit for all its jobs runs them.
use Prim.Native.Nat.{ℕ, zero, suc, ◌+◌, ◌*◌, ◌≤◌, ◌<◌}
use native.Mathlib.Nat.{zero-mul, suc-mul, add_comm}
use native.Mathlib.Omega.{arith}
use mathlib.Core.Bool.{true}
use mathlib.Core.Path.{◌≡◌, refl, sym, ap, ◌∙◌}
use mathlib.Core.Logic.{◌≢◌, ◌↔◌}
use mathlib.Core.List.{List, [], ◌∷◌, ◌++◌}
use mathlib.Core.Option.{Option, none, some}
use lib.ListN.{length, take, drop, get_or, length-append, length-drop, take-append-drop}
use lib.Seq.{drop-drop, take_at, drop_at, length-take-le}
use borrow.Author.Tests.{le-ltb}
use Rattle.net.specs.declared.Net.{Net}
use Rattle.net.specs.Graph.{key_count}
use Rattle.net.specs.WellFormed.{C1}
use Rattle.net.proofs.WellFormed.{place_c1_none}
use Rattle.sheet.specs.Limits.{line_width}
use Rattle.sheet.specs.declared.Answer.{Answer}
use Rattle.std.specs.Prelude.{Some, None}
use Rattle.std.specs.Prelude.{Option as Answered}
use Rattle.sheet.specs.declared.Job.{Job}
use Rattle.sheet.specs.Job.{asks}
use Rattle.sheet.specs.Rows.{answer, Row, first_row, answered, First, NoRow}
use Rattle.sheet.specs.Valid.{valid}
use Rattle.sheet.specs.Job.{job_of}
use Rattle.sheet.proofs.RowLaws.{by_rows_none, by_rows-first, by_rows-answer, positive, answered_zero, answered_some}
use Rattle.settlements.specs.Settle.{Settlement, written, settle_under}
use Rattle.settlements.specs.Batch.{job_count, pieces, job_width, answer_width, job_rows, job_settlement, run_jobs, Batch, batch_rows, batch_of}
use Rattle.settlements.proofs.SettleLaws.{Startable, settlement_answer, inputs_pass, start-passes, rest-passes, settle_none, settle_some, length-written-r, length-written-t}

-- ---- pieces of one width in a row

pub drop_suc_mul : {A : Type 0} (n w : ℕ) (l : List A) → drop (suc n * w) l ≡ drop (n * w) (drop w l)
drop_suc_mul n w l = rw (suc-mul, add_comm (n * w) w) (sym (drop-drop (n * w) w l))

pub step-drop : {A : Type 0} (n w : ℕ) (xs ys : List A) → length xs ≡ w → drop (suc n * w) (xs ++ ys) ≡ drop (n * w) ys
step-drop n w xs ys e = drop_suc_mul n w (xs ++ ys) ∙ ap (drop (n * w)) (drop_at xs ys w e)

abbrev pub vectors_of : Settlement → List ℕ
vectors_of s = s.r ++ s.t

abbrev pub answer_bytes : Settlement → List ℕ
answer_bytes s = s.answer.number ∷ s.answer.first_steps ∷ s.answer.second_steps ∷ []

module _ (N : Net) where
  -- a job keeps the length of its own bytes
  pub job_length : (j : Answered Job) (own : List ℕ) → length own ≡ job_width N → length (vectors_of (job_settlement N j own)) ≡ job_width N
  unfolding job_settlement
  job_length (Some line) own e = go (first_row (job_rows N line.old line.new line.start)) refl
    where
      R : List ℕ
      R = take (key_count N) own

      T : List ℕ
      T = drop (key_count N) own

      R-length : length R ≡ key_count N
      R-length = length-take-le (key_count N) own (omega arith)

      T-length : length T ≡ key_count N
      T-length = length-drop (key_count N) own ∙ omega arith

      go : (o : Option Answer) → first_row (job_rows N line.old line.new line.start) ≡ o → length (vectors_of (settle_under (job_rows N line.old line.new line.start) N line.old line.new line.start R T)) ≡ job_width N
      go none f =
          rw (settle_none N line.old line.new line.start (job_rows N line.old line.new line.start) R T f, length-append)
          (omega (arith, length-written-r N line.old line.new line.start R T (omega (arith, R-length)), length-written-t N line.old line.new line.start R T (omega (arith, T-length)), R-length, T-length))
      go (some a) f = rw (settle_some N line.old line.new line.start (job_rows N line.old line.new line.start) R T a f, take-append-drop) e
  job_length None own e = ap length (take-append-drop (key_count N) own) ∙ e

  -- a refused job leaves its own bytes
  pub job_refused : (j : Answered Job) (own : List ℕ) → (job_settlement N j own).answer.number ≢ 0 → vectors_of (job_settlement N j own) ≡ own
  unfolding job_settlement written
  job_refused (Some line) own ne = go (first_row (job_rows N line.old line.new line.start)) refl
    where
      R : List ℕ
      R = take (key_count N) own

      T : List ℕ
      T = drop (key_count N) own

      go : (o : Option Answer) → first_row (job_rows N line.old line.new line.start) ≡ o → vectors_of (settle_under (job_rows N line.old line.new line.start) N line.old line.new line.start R T) ≡ own
      go none f = absurd (ne (ap (λ (s : Settlement). s.answer.number) (settle_none N line.old line.new line.start (job_rows N line.old line.new line.start) R T f)))
      go (some a) f = rw (settle_some N line.old line.new line.start (job_rows N line.old line.new line.start) R T a f) (take-append-drop (key_count N) own)
  job_refused None own ne = take-append-drop (key_count N) own

  -- ---- the places of a job's bytes

  -- the first job has its own bytes, and the later ones have theirs
  pub own-length : (j : List ℕ) (js : List (List ℕ)) (results : List ℕ) → suc (length js) * job_width N ≤ length results
      → length (vectors_of (job_settlement N (job_of j) (take (job_width N) results))) ≡ job_width N
  own-length j js results fits =
      let more : suc (length js) * job_width N ≡ length js * job_width N + job_width N = suc-mul (length js) (job_width N) in
      job_length (job_of j) (take (job_width N) results) (length-take-le (job_width N) results (omega arith))

  pub rest-fits : (j : List ℕ) (js : List (List ℕ)) (results : List ℕ) → suc (length js) * job_width N ≤ length results
      → length js * job_width N ≤ length (drop (job_width N) results)
  rest-fits j js results fits =
      let more : suc (length js) * job_width N ≡ length js * job_width N + job_width N = suc-mul (length js) (job_width N) in
      rw length-drop (omega arith)

  -- job n of a list of jobs, from 0, on its own bytes
  abbrev pub settlement_at : List (List ℕ) → ℕ → List ℕ → Settlement
  settlement_at js n results = job_settlement N (job_of (get_or js n [])) (take (job_width N) (drop (n * job_width N) results))

  pub results_at : (js : List (List ℕ)) (results answers : List ℕ) (n : ℕ) → n < length js → length js * job_width N ≤ length results
      → take (job_width N) (drop (n * job_width N) (run_jobs N js results answers).results) ≡ vectors_of (settlement_at js n results)
  unfolding run_jobs
  results_at [] results answers n h fits = absurd (omega arith)
  results_at (j ∷ js) results answers zero h fits = rw zero-mul (take_at (vectors_of (job_settlement N (job_of j) (take (job_width N) results))) _ (job_width N) (own-length j js results fits))
  results_at (j ∷ js) results answers (suc n) h fits =
      ap (take (job_width N)) (step-drop n (job_width N) (vectors_of (job_settlement N (job_of j) (take (job_width N) results))) _ (own-length j js results fits))
      ∙ results_at js (drop (job_width N) results) (drop answer_width answers) n (omega arith) (rest-fits j js results fits)
      ∙ ap (λ (own : List ℕ). vectors_of (job_settlement N (job_of (get_or js n [])) (take (job_width N) own))) (sym (drop_suc_mul n (job_width N) results))

  pub answers_at : (js : List (List ℕ)) (results answers : List ℕ) (n : ℕ) → n < length js
      → take answer_width (drop (n * answer_width) (run_jobs N js results answers).answers) ≡ answer_bytes (settlement_at js n results)
  unfolding run_jobs
  answers_at [] results answers n h = absurd (omega arith)
  answers_at (j ∷ js) results answers zero h = rw zero-mul
  answers_at (j ∷ js) results answers (suc n) h =
      ap (take answer_width) (step-drop n answer_width (answer_bytes (job_settlement N (job_of j) (take (job_width N) results))) _ refl)
      ∙ answers_at js (drop (job_width N) results) (drop answer_width answers) n (omega arith)
      ∙ ap (λ (own : List ℕ). answer_bytes (job_settlement N (job_of (get_or js n [])) (take (job_width N) own))) (sym (drop_suc_mul n (job_width N) results))

  -- the bytes after those of all jobs stay
  pub results_rest : (js : List (List ℕ)) (results answers : List ℕ) → length js * job_width N ≤ length results
      → drop (length js * job_width N) (run_jobs N js results answers).results ≡ drop (length js * job_width N) results
  unfolding run_jobs
  results_rest [] results answers fits = refl
  results_rest (j ∷ js) results answers fits =
      step-drop (length js) (job_width N) (vectors_of (job_settlement N (job_of j) (take (job_width N) results))) _ (own-length j js results fits)
      ∙ results_rest js (drop (job_width N) results) (drop answer_width answers) (rest-fits j js results fits)
      ∙ sym (drop_suc_mul (length js) (job_width N) results)

  pub answers_rest : (js : List (List ℕ)) (results answers : List ℕ)
      → drop (length js * answer_width) (run_jobs N js results answers).answers ≡ drop (length js * answer_width) answers
  unfolding run_jobs
  answers_rest [] results answers = refl
  answers_rest (j ∷ js) results answers =
      step-drop (length js) answer_width (answer_bytes (job_settlement N (job_of j) (take (job_width N) results))) _ refl
      ∙ answers_rest js (drop (job_width N) results) (drop answer_width answers)
      ∙ sym (drop_suc_mul (length js) answer_width answers)

-- ---- the pieces of a batch's bytes

pub length-pieces : (n : ℕ) (jobs : List ℕ) → length (pieces n jobs) ≡ n
unfolding pieces
length-pieces zero jobs = refl
length-pieces (suc n) jobs = ap suc (length-pieces n (drop line_width jobs))

-- piece n, from 0, is a line's bytes from byte n times that width
pub piece-at : (count : ℕ) (jobs : List ℕ) (n : ℕ) → n < count → get_or (pieces count jobs) n [] ≡ take line_width (drop (n * line_width) jobs)
unfolding pieces
piece-at zero jobs n h = absurd (omega arith)
piece-at (suc count) jobs zero h = refl
piece-at (suc count) jobs (suc n) h =
    piece-at count (drop line_width jobs) n (omega arith) ∙ ap (take line_width) (sym (drop_suc_mul n line_width jobs))

-- ---- a batch and a job that no row refuses

pub job_accepts : (N : Net) (A B q : ℕ) → Startable N A B q → (own : List ℕ)
    → job_settlement N (asks A B q) own ≡ written N A B q (take (key_count N) own) (drop (key_count N) own)
unfolding job_settlement job_rows first_row
job_accepts N A B q s own = settle_none N A B q (job_rows N A B q) (take (key_count N) own) (drop (key_count N) own)
    (rw (inputs_pass N A B q s, start-passes N A B q s, rest-passes N A B q s))

batch_rows_pass : (N : Net) (count : ℕ) (results answers : List ℕ) → valid N ≡ true → C1 N
    → count * job_width N ≤ length results → count * answer_width ≤ length answers → first_row (batch_rows N count results answers) ≡ none
unfolding batch_rows first_row
batch_rows_pass N count results answers v c hr ha =
    rw (v, (place_c1_none N).1 c, le-ltb (length results) (count * job_width N) hr, le-ltb (length answers) (count * answer_width) ha)

pub batch_accepts : (N : Net) (jobs results answers : List ℕ) → valid N ≡ true → C1 N
    → job_count jobs * job_width N ≤ length results → job_count jobs * answer_width ≤ length answers
    → batch_of N jobs results answers ≡ record { answer = answer 0 0; buffers = run_jobs N (pieces (job_count jobs) jobs) results answers }
unfolding batch_of
batch_accepts N jobs results answers v c hr ha =
    by_rows_none (batch_rows N (job_count jobs) results answers) _ _ (batch_rows_pass N (job_count jobs) results answers v c hr ha)

-- ---- the answer of a whole batch, by rows

module _ (N : Net) (jobs results answers : List ℕ) where
  abbrev rows : List Row
  rows = batch_rows N (job_count jobs) results answers

  batch-answer : (batch_of N jobs results answers).answer ≡ answered (first_row rows)
  unfolding batch_of
  batch-answer = by_rows-answer rows _ _ (λ (b : Batch). b.answer) refl (λ a. refl)

  -- 0 exactly if no row's condition holds
  pub batch_zero : ((batch_of N jobs results answers).answer.number ≡ 0) ↔ NoRow rows
  unfolding batch_rows positive
  batch_zero = rw (ap (λ (a : Answer). a.number) batch-answer) (answered_zero rows refl)

  -- a number with its place exactly if its row is the first that holds
  pub batch-number : (n p : ℕ) → 1 ≤ n → ((batch_of N jobs results answers).answer ≡ answer n p) ↔ First rows n p
  batch-number n p h = rw batch-answer (answered_some rows n p h)

  -- and then no byte changes
  pub batch-refused : (n p : ℕ) → First rows n p → batch_of N jobs results answers ≡ record { answer = answer n p; buffers = record { results = results; answers = answers } }
  unfolding batch_of
  batch-refused n p f = by_rows-first rows _ _ n p f

-- ---- the answer of one job, by rows

module _ (N : Net) (A B q : ℕ) (own : List ℕ) where
  job_answer : settlement_answer (job_settlement N (asks A B q) own) ≡ answered (first_row (job_rows N A B q))
  unfolding job_settlement settle_under written
  job_answer = by_rows-answer (job_rows N A B q) _ _ settlement_answer refl (λ a. refl)

  pub job_zero : ((job_settlement N (asks A B q) own).answer.number ≡ 0) ↔ NoRow (job_rows N A B q)
  unfolding job_rows positive
  job_zero = rw (ap (λ (a : Answer). a.number) job_answer) (answered_zero (job_rows N A B q) refl)

  pub job_number_lem : (n p : ℕ) → 1 ≤ n → (settlement_answer (job_settlement N (asks A B q) own) ≡ answer n p) ↔ First (job_rows N A B q) n p
  job_number_lem n p h = rw job_answer (answered_some (job_rows N A B q) n p h)
