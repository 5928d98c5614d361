-- A batch that a C program asks for: on an accepted sheet it is the batch on the net that the reader gives, so demands 2 and 3 reach it; and the numbers
-- that it can have.
use Prim.Native.Nat.{ℕ, ◌*◌, ◌≤◌, ◌<◌}
use mathlib.Core.Path.{◌≡◌, refl, sym, ap, subst, ◌∙◌}
use mathlib.Core.Bool.{true, true≢false}
use mathlib.Core.Logic.{◌⊎◌, inl, inr}
use mathlib.Core.Option.{Option}
use mathlib.Core.List.{List}
use lib.Dec.{eqb}
use lib.ListN.{length}
use borrow.Author.Tests.{eqb-true, not-true}
use Rattle.ternary.specs.Signal.{at}
use Rattle.ternary.proofs.Tests.{cond_by}
use Rattle.net.specs.declared.Net.{Net}
use Rattle.net.specs.Graph.{key_count}
use Rattle.sheet.specs.Limits.{field_width}
use Rattle.sheet.specs.declared.Answer.{Answer}
use Rattle.sheet.specs.declared.Reading.{Reading}
use Rattle.sheet.specs.Rows.{Row, answered, First}
use Rattle.sheet.specs.Rows.First.{here, later}
use Rattle.sheet.specs.Record.{accepted}
use Rattle.sheet.specs.Reading.{read_sheet}
use Rattle.sheet.specs.Outcome.{Outcome}
use Rattle.sheet.specs.Outcome.Outcome.{accept, refuse}
use Rattle.sheet.specs.Job.{asks, job_of}
use Rattle.sheet.specs.Valid.{valid}
use Rattle.sheet.proofs.RowLaws.{RowsAnswer, nothing, found, rows-answer, by_rows-answer, when_some}
use Rattle.sheet.proofs.Outcome.{outcome, accepted-at_zero, valid-at_zero}
use Rattle.settlements.specs.Batch.{job_count, job_width, answer_width, Batch, batch_rows, batch_of}
use Rattle.output.specs.ForC.{SheetBatch, sheet_batch, sheet_batch_of}
use Rattle.demands.specs.Demand1.{line_of, answer_of}
use Rattle.demands.specs.Demand3.{Settles, JobPromise}
use Rattle.demands.specs.Kept.{JobLineKept}
use Rattle.demands.specs.Library.{BatchNumber}
use Rattle.demands.specs.Library.BatchNumber.{fit, unread, refused}
use Rattle.demands.proofs.Demand3.{demand3_job}
use Rattle.demands.proofs.Kept.{job_kept_on}

module _ (sheet jobs results answers : List ℕ) where
  on-net : {N : Net} → read_sheet sheet ≡ accepted N → sheet_batch_of sheet jobs results answers ≡ sheet_batch (batch_of N jobs results answers) (key_count N)
  unfolding sheet_batch_of
  on-net reads = rw reads

  -- DEMAND 3 of the call: job n, from 0
  pub demand3_sheet_job : {N : Net} {A B q : ℕ} → Settles sheet N A B q → (n : ℕ) → n < job_count jobs → job_of (line_of n jobs) ≡ asks A B q
      → job_count jobs * job_width N ≤ length results → job_count jobs * answer_width ≤ length answers
      → JobPromise N A B q n (sheet_batch_of sheet jobs results answers).batch
  demand3_sheet_job s n h asked results_room answers_room =
      rw (on-net s.reads) (demand3_job s jobs results answers n h asked results_room answers_room)

  -- a number of the reader is the call's own
  read_zero : (sheet_batch_of sheet jobs results answers).batch.answer.number ≡ 0 → (read_sheet sheet).answer.number ≡ 0
  unfolding sheet_batch_of
  read_zero =
      cond_by (λ (S : SheetBatch). S.batch.answer.number ≡ 0 → (read_sheet sheet).answer.number ≡ 0) (eqb (read_sheet sheet).answer.number 0)
      (λ t _. eqb-true (read_sheet sheet).answer.number 0 t)
      (λ _ e. e)

  -- the call and the job are answered 0: h is that of the sheet's net, and on it all is kept
  pub sheet_job_kept : {S : SheetBatch} → sheet_batch_of sheet jobs results answers ≡ S → S.batch.answer.number ≡ 0
      → (n : ℕ) → n < job_count jobs → at (answer_of n S.batch.buffers.answers) 0 ≡ 0
      → (S.keys ≡ key_count (read_sheet sheet).net) × JobLineKept sheet (read_sheet sheet).net jobs n S.batch
  sheet_job_kept {S} e ok n h job-ok =
      let reads = accepted-at_zero field_width sheet (read_zero (ap (λ (x : SheetBatch). x.batch.answer.number) e ∙ ok)) in
      let same : sheet_batch (batch_of (read_sheet sheet).net jobs results answers) (key_count (read_sheet sheet).net) ≡ S = sym (on-net reads) ∙ e in
      (ap (λ (x : SheetBatch). x.keys) (sym same), job_kept_on sheet reads n jobs results answers (ap (λ (x : SheetBatch). x.batch) same) ok h job-ok)

-- ---- the numbers of the call

-- on a valid record 41 does not occur
batch-row : (N : Net) (count : ℕ) (results answers : List ℕ) → valid N ≡ true → {n p : ℕ} → First (batch_rows N count results answers) n p → (n ≡ 31) ⊎ (n ≡ 45)
unfolding batch_rows
batch-row N count results answers v (here {p = p} e) = absurd (true≢false (sym v ∙ not-true _ ((when_some _ p).0 e).0))
batch-row N count results answers v (later _ (here _)) = inl refl
batch-row N count results answers v (later _ (later _ (here _))) = inr refl
batch-row N count results answers v (later _ (later _ (later _ beyond))) = elim beyond [ ]

read_number : {r : Reading} → Outcome r → BatchNumber r.answer
read_number (accept N) = fit
read_number (refuse l) = unread l

module _ (sheet jobs results answers : List ℕ) where
  run_number : (N : Net) → valid N ≡ true → BatchNumber (batch_of N jobs results answers).answer
  unfolding batch_of
  run_number N v = subst BatchNumber (sym (by_rows-answer rows _ _ (λ (b : Batch). b.answer) refl (λ a. refl))) (go (rows-answer rows))
    where
      rows : List Row
      rows = batch_rows N (job_count jobs) results answers

      go : {o : Option Answer} → RowsAnswer rows o → BatchNumber (answered o)
      go (nothing _) = fit
      go (found f) = refused (batch-row N (job_count jobs) results answers v f)

  pub sheet_batch-number : BatchNumber (sheet_batch_of sheet jobs results answers).batch.answer
  unfolding sheet_batch_of
  sheet_batch-number =
      cond_by (λ (S : SheetBatch). BatchNumber S.batch.answer) (eqb (read_sheet sheet).answer.number 0)
      (λ t. run_number (read_sheet sheet).net (valid-at_zero field_width sheet (read_sheet sheet) refl (eqb-true (read_sheet sheet).answer.number 0 t)))
      (λ _. read_number (outcome field_width sheet))
