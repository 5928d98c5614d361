-- Demand 1 of the calls that read a sheet first, for the program's first line and for C: the reader's rows come before the call's own.
use Prim.Native.Nat.{ℕ}
use mathlib.Core.Path.{◌≡◌, refl, sym, ap, ◌∙◌}
use mathlib.Core.Bool.{true}
use mathlib.Core.List.{List, ◌++◌}
use Rattle.net.specs.declared.Net.{Net}
use Rattle.net.specs.Graph.{key_count}
use Rattle.sheet.specs.Limits.{field_width}
use Rattle.sheet.specs.declared.Answer.{Answer}
use Rattle.sheet.specs.Rows.{answer, Row, first_row, by_rows, answered}
use Rattle.sheet.specs.SheetRows.{net_of, sheet_rows}
use Rattle.sheet.proofs.RowLaws.{by_rows_fit, by_rows-first, by_rows-answer, by_rows-map, by_rows-append, positive, positive-append, answered_zero, answered_some}
use Rattle.sheet.proofs.SheetRowLaws.{sheet_positive, sheet_then}
use Rattle.soundness.specs.Verdict.{verdict_rows, verdict_of}
use Rattle.settlements.specs.Batch.{job_count, pieces, run_jobs, Batch, batched, batch_rows, batch_of}
use Rattle.output.specs.declared.Judged.{Judged}
use Rattle.output.specs.Output.{judged, judged_of}
use Rattle.output.specs.ForC.{SheetBatch, sheet_batch, sheet_batch_of}
use Rattle.demands.specs.Demand1.{Answers, JudgedAnswers, SheetBatchAnswers}

answers_by : (rows : List Row) → positive rows ≡ true → {given : Answer} → given ≡ answered (first_row rows) → Answers rows given
answers_by rows h e = record { fit = rw e (answered_zero rows h); wrong = λ n p l. rw e (answered_some rows n p l) }

-- what rows answer, where the answer is all that is asked
answer_by : (rows : List Row) → by_rows rows (answer 0 0) (λ a. a) ≡ answered (first_row rows)
answer_by rows = by_rows-answer rows (answer 0 0) (λ a. a) (λ a. a) refl (λ a. refl)

module _ (sheet : List ℕ) where
  abbrev N : Net
  N = net_of sheet

  -- ---- what a sheet is judged to be

  judged-by_rows : judged_of sheet ≡ by_rows (sheet_rows sheet) (judged (verdict_of N) (key_count N)) (λ a. judged a 0)
  unfolding judged_of
  judged-by_rows = sheet_then field_width sheet (λ M. judged (verdict_of M) (key_count M)) (λ a. judged a 0)

  judged-answer : (judged_of sheet).answer ≡ answered (first_row (sheet_rows sheet ++ verdict_rows N))
  unfolding verdict_of
  judged-answer =
      ap (λ (j : Judged). j.answer) judged-by_rows
      ∙ by_rows-map (sheet_rows sheet) (judged (verdict_of N) (key_count N)) (λ a. judged a 0) (λ (j : Judged). j.answer)
      ∙ ap (λ (a : Answer). by_rows (sheet_rows sheet) a (λ b. b)) (sym (answer_by (verdict_rows N)))
      ∙ sym (by_rows-append (sheet_rows sheet) (verdict_rows N) (answer 0 0) (λ a. a))
      ∙ answer_by (sheet_rows sheet ++ verdict_rows N)

  pub demand1_judged : JudgedAnswers sheet (judged_of sheet)
  unfolding verdict_rows positive
  demand1_judged = record {
    answered = answers_by (sheet_rows sheet ++ verdict_rows N) (positive-append (sheet_rows sheet) (verdict_rows N) (sheet_positive field_width sheet) refl) judged-answer;
    unread = λ n p f. judged-by_rows ∙ by_rows-first (sheet_rows sheet) _ _ n p f;
    read = λ f. judged-by_rows ∙ by_rows_fit (sheet_rows sheet) _ _ f;
  }

  -- ---- a batch on a sheet

  module _ (jobs results answers : List ℕ) where
    abbrev rows : List Row
    rows = batch_rows N (job_count jobs) results answers

    abbrev refuse : Answer → Batch
    refuse a = batched a results answers

    abbrev ran : Batch
    ran = record { answer = answer 0 0; buffers = run_jobs N (pieces (job_count jobs) jobs) results answers }

    batch-by_rows : sheet_batch_of sheet jobs results answers
        ≡ by_rows (sheet_rows sheet) (sheet_batch (batch_of N jobs results answers) (key_count N)) (λ a. sheet_batch (refuse a) 0)
    unfolding sheet_batch_of
    batch-by_rows = sheet_then field_width sheet (λ M. sheet_batch (batch_of M jobs results answers) (key_count M)) (λ a. sheet_batch (refuse a) 0)

    batch_by_all : (sheet_batch_of sheet jobs results answers).batch ≡ by_rows (sheet_rows sheet ++ rows) ran refuse
    unfolding batch_of
    batch_by_all =
        ap (λ (s : SheetBatch). s.batch) batch-by_rows
        ∙ by_rows-map (sheet_rows sheet) (sheet_batch (batch_of N jobs results answers) (key_count N)) (λ a. sheet_batch (refuse a) 0) (λ (s : SheetBatch). s.batch)
        ∙ sym (by_rows-append (sheet_rows sheet) rows ran refuse)

    pub demand1_sheet_batch : SheetBatchAnswers sheet jobs results answers (sheet_batch_of sheet jobs results answers)
    unfolding batch_rows positive
    demand1_sheet_batch = record {
      answered =
          answers_by (sheet_rows sheet ++ rows) (positive-append (sheet_rows sheet) rows (sheet_positive field_width sheet) refl)
          (ap (λ (s : Batch). s.answer) batch_by_all ∙ by_rows-answer (sheet_rows sheet ++ rows) ran refuse (λ (s : Batch). s.answer) refl (λ a. refl));
      untouched = λ n p f. batch_by_all ∙ by_rows-first (sheet_rows sheet ++ rows) ran refuse n p f;
      unread = λ n p f. batch-by_rows ∙ by_rows-first (sheet_rows sheet) _ _ n p f;
      read = λ f. batch-by_rows ∙ by_rows_fit (sheet_rows sheet) _ _ f;
    }
