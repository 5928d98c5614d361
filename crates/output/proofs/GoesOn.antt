-- The jobs are run exactly if the record is valid and C1 holds, and then and only then a batch of any lines is not refused: its buffers are long enough.
use Prim.Native.Nat.{ℕ, ◌*◌}
use native.Mathlib.Omega.{arith}
use mathlib.Core.Path.{◌≡◌, refl, ap}
use mathlib.Core.Bool.{Bool, true, false, not, true≢false, false≢true}
use mathlib.Core.Logic.Iff
use mathlib.Core.Logic.{◌↔◌}
use mathlib.Core.List.{List, [], ◌∷◌}
use mathlib.Core.Option.{Option, none, some}
use lib.ListN.{replicate, length-replicate}
use borrow.Author.Tests.{not-false}
use Rattle.net.specs.declared.Net.{Net}
use Rattle.net.specs.WellFormed.{place_c1, test_c2, place_c3}
use Rattle.net.proofs.WellFormed.{place_c1_none}
use Rattle.sheet.specs.Limits.{field_width}
use Rattle.sheet.specs.Rows.{row, when, answer, answered, first_row, NoRow}
use Rattle.sheet.specs.Rows.NoRow.{next}
use Rattle.sheet.specs.Record.{accepted}
use Rattle.sheet.specs.Reading.{read_sheet}
use Rattle.sheet.specs.Valid.{valid}
use Rattle.sheet.proofs.RowLaws.{when_none}
use Rattle.sheet.proofs.ReadLaws.{read_valid}
use Rattle.soundness.specs.Verdict.{verdict_rows, verdict_of}
use Rattle.settlements.specs.Batch.{job_count, job_width, answer_width, Batch, run_jobs, batch_rows}
use Rattle.settlements.proofs.BatchLaws.{batch_accepts, batch_zero}
use Rattle.settlements.proofs.PieceLaws.{jobs_of}
use Rattle.output.specs.Output.{goes_on, batch_for}

-- the record is one that an accepted sheet gives, and C1 holds
abbrev pub Runs : Net → Type 0
Runs N = (valid N ≡ true) × (place_c1 N ≡ none)

-- ---- by the verdict

rows_go_on : (v : Bool) (c1 c2 c3 : Option ℕ)
    → (goes_on (answered (first_row (row 41 (when (not v)) ∷ row 31 c1 ∷ row 32 c2 ∷ row 33 c3 ∷ []))).number ≡ true) ↔ ((v ≡ true) × (c1 ≡ none))
unfolding first_row
rows_go_on false c1 c2 c3 = (λ e. absurd (false≢true e), λ h. absurd (false≢true h.0))
rows_go_on true (some p) c2 c3 = (λ e. absurd (false≢true e), λ h. absurd (true≢false (cc)))
rows_go_on true none (some p) c3 = (λ _. (refl, refl), λ _. refl)
rows_go_on true none none (some p) = (λ _. (refl, refl), λ _. refl)
rows_go_on true none none none = (λ _. (refl, refl), λ _. refl)

pub runs_iff : (N : Net) → (goes_on (verdict_of N).number ≡ true) ↔ Runs N
unfolding verdict_of verdict_rows
runs_iff N = rows_go_on (valid N) (place_c1 N) (when (not (test_c2 N))) (place_c3 N)

-- ---- by the batch

module _ (N : Net) (lines : List ℕ) where
  -- a batch that runs gives what its jobs give
  pub batch_runs : Runs N
      → batch_for N lines ≡ record { answer = answer 0 0; buffers = run_jobs N (jobs_of lines) (replicate (job_count lines * job_width N) 0) (replicate (job_count lines * answer_width) 0) }
  unfolding batch_for
  batch_runs h =
      batch_accepts N lines _ _ h.0 ((place_c1_none N).0 h.1) (rw length-replicate (omega arith)) (rw length-replicate (omega arith))

  rows_tell : (count : ℕ) (results answers : List ℕ) → NoRow (batch_rows N count results answers) → Runs N
  unfolding batch_rows
  rows_tell count results answers (next v (next c1 _)) = (not-false (valid N) ((when_none (not (valid N))).0 v), c1)

  pub batch_iff : ((batch_for N lines).answer.number ≡ 0) ↔ Runs N
  unfolding batch_for
  batch_iff = (λ e. rows_tell _ _ _ ((batch_zero N lines _ _).0 e), λ h. ap (λ (b : Batch). b.answer.number) (batch_runs h))

-- ---- for an accepted sheet: by C1 alone

module _ (sheet : List ℕ) (N : Net) (reads : read_sheet sheet ≡ accepted N) where
  by_c1 : Runs N ↔ (place_c1 N ≡ none)
  by_c1 = (λ h. h.1, λ c. (read_valid field_width sheet N reads, c))

  pub goes_on_lem : (goes_on (verdict_of N).number ≡ true) ↔ (place_c1 N ≡ none)
  goes_on_lem = Iff.trans (runs_iff N) by_c1

  pub batch-goes_on : (lines : List ℕ) → ((batch_for N lines).answer.number ≡ 0) ↔ (goes_on (verdict_of N).number ≡ true)
  batch-goes_on lines = Iff.trans (batch_iff N lines) (Iff.symm (runs_iff N))
