-- Demand 1 of each call, by the laws of its definition.
use native.Mathlib.Omega.{arith}
use Prim.Native.Nat.{ℕ, ◌*◌, ◌≤◌, ◌<◌}
use mathlib.Core.Path.{◌≡◌, refl, sym, ap, subst, ◌∙◌}
use mathlib.Core.Bool.{true, not}
use mathlib.Core.Logic.{◌↔◌}
use mathlib.Core.List.{List, []}
use lib.ListN.{length, take-append-drop}
use Rattle.net.specs.declared.Net.{Net}
use Rattle.net.specs.Graph.{is_storage, key_count}
use Rattle.net.specs.Network.{is_input_state, is_key_state}
use Rattle.sheet.specs.Limits.{field_width}
use Rattle.std.specs.Prelude.{Option}
use Rattle.sheet.specs.declared.Job.{Job}
use Rattle.sheet.specs.Rows.{answer, Row, NoRow}
use Rattle.sheet.specs.Record.{accepted}
use Rattle.sheet.specs.Line.{FullLine, line_number, sheet_line}
use Rattle.sheet.specs.Reading.{read_sheet}
use Rattle.sheet.specs.Valid.{valid}
use Rattle.sheet.specs.Outcome.{Outcome}
use Rattle.sheet.specs.Job.{JobBytes, job_of, job_number}
use Rattle.sheet.proofs.RowLaws.{by_rows_fit}
use Rattle.sheet.proofs.ReadLaws.{valid_iff_accepted}
use Rattle.sheet.proofs.SheetRowLaws.{sheet_zero, sheet_number, sheet_refused, sheet_accepted}
use Rattle.sheet.proofs.Outcome.{outcome}
use Rattle.sheet.proofs.LineLaws.{line-found, line_missing, line_empty}
use Rattle.sheet.proofs.JobLaws.{job_number_lem as line_refused}
use Rattle.std.specs.Prelude.{Result, Ok, Err}
use Rattle.soundness.specs.Excited.{excitation_rows, excited_of, excited_number, excited_place}
use Rattle.soundness.specs.KeyNodes.{key_nodes_of}
use Rattle.soundness.specs.Verdict.{verdict_rows, verdict_of}
use Rattle.soundness.proofs.ExcitedLaws.{excited_zero, excited_number_lem}
use Rattle.soundness.proofs.KeyNodesLaws.{nodes_zero, nodes_number, nodes_refused, nodes_fit}
use Rattle.soundness.proofs.VerdictLaws.{verdict_zero, verdict_number}
use Rattle.settlements.specs.Settle.{settle_of}
use Rattle.settlements.specs.Batch.{job_count, pieces, job_width, job_settlement, run_jobs, Batch, batch_rows, batch_of}
use Rattle.settlements.proofs.SettleLaws.{settle_zero, settle_number, settle_refused}
use Rattle.settlements.proofs.BatchLaws.{vectors_of, answer_bytes, settlement_at, results_at, answers_at, results_rest, answers_rest, length-pieces, piece-at, batch_zero, batch-number, batch-refused}
use Rattle.demands.specs.Demand1.{Answers, SheetAnswers, KeyNodesAnswers, SettleAnswers, BatchAnswers, line_of, result_of, answer_of, JobAnswers}
use Rattle.demands.proofs.Fit.{batch_fit}
use Rattle.demands.proofs.JobRows.{job_answers, job_untouched}
use Rattle.demands.proofs.Unplaced.{Unplaced, no_row, a_row, by_number}

-- ---- the reader: a number exactly if its row is the first that holds; and what is refused has a listed number, at a place that this number can have

pub demand1_sheet : (sheet : List ℕ) → SheetAnswers sheet (read_sheet sheet)
demand1_sheet sheet = record {
  answered = record { fit = sheet_zero field_width sheet; wrong = sheet_number field_width sheet };
  empty = sheet_refused field_width sheet;
  read = sheet_accepted field_width sheet;
}

pub demand1_listed : (sheet : List ℕ) → Outcome (read_sheet sheet)
demand1_listed = outcome field_width

-- number 41 is for the records that no accepted sheet gives
pub demand1_record : (N : Net) → (valid N ≡ true) ↔ ((sheet : List ℕ) × (read_sheet sheet ≡ accepted N))
demand1_record = valid_iff_accepted field_width (omega arith)

-- one line of a sheet: 0, or 47 and an empty part
pub demand1_line : (sheet : List ℕ) (n : ℕ)
    → ((line_number sheet n ≡ 0) ↔ FullLine sheet n) × ((line_number sheet n ≡ 47) ↔ (¬ FullLine sheet n)) × ((¬ FullLine sheet n) → sheet_line sheet n ≡ [])
demand1_line sheet n = (line-found field_width sheet n, line_missing field_width sheet n, line_empty field_width sheet n)

-- a job line: 46 exactly if it is not the bytes of 4, A, B, q, 0
pub demand1_job_line : (line : List ℕ) → (job_number (job_of line) ≡ 46) ↔ ((A B q : ℕ) → ¬ JobBytes line A B q)
demand1_job_line = line_refused field_width (omega arith)

-- ---- the verdict, the number of key nodes, and the excitation of one vertex

pub demand1_verdict : (N : Net) → Answers (verdict_rows N) (verdict_of N)
demand1_verdict N = record { fit = verdict_zero N; wrong = verdict_number N }

pub demand1_key_nodes : (N : Net) → KeyNodesAnswers N (key_nodes_of N)
demand1_key_nodes N = record {
  answered = record { fit = nodes_zero N; wrong = nodes_number N };
  refused = nodes_refused N;
  counted = nodes_fit N;
}

no_place : (e : Result ℕ ℕ) → excited_place e ≡ 0
no_place (Ok v) = refl
no_place (Err n) = refl

unplaced : (N : Net) (a q y : ℕ) → Unplaced (excitation_rows N a q y)
unfolding excitation_rows
unplaced N a q y = a_row (not (valid N)) (a_row (not (is_input_state N a)) (a_row (not (is_key_state N q)) (a_row (not (is_storage N y)) no_row)))

pub demand1_excitation : (N : Net) (a q y : ℕ)
    → Answers (excitation_rows N a q y) (answer (excited_number (excited_of N a q y)) (excited_place (excited_of N a q y)))
unfolding excitation_rows
demand1_excitation N a q y = rw (no_place (excited_of N a q y)) (by_number _ (unplaced N a q y) (excited_zero N a q y) (excited_number_lem N a q y))

-- ---- settling

pub demand1_settle : (N : Net) (A B q : ℕ) (R T : List ℕ) → SettleAnswers N A B q R T (settle_of N A B q R T)
demand1_settle N A B q R T = record {
  answered = record { fit = settle_zero N A B q R T; wrong = settle_number N A B q R T };
  untouched = settle_refused N A B q R T;
}

-- ---- a batch as a whole, and each of its jobs

module _ (N : Net) (jobs results answers : List ℕ) where
  abbrev count : ℕ
  count = job_count jobs

  abbrev js : List (List ℕ)
  js = pieces count jobs

  abbrev rows : List Row
  rows = batch_rows N count results answers

  size : length js ≡ count
  size = length-pieces count jobs

  runs : NoRow rows → batch_of N jobs results answers ≡ record { answer = answer 0 0; buffers = run_jobs N js results answers }
  unfolding batch_of
  runs fit = by_rows_fit rows _ _ fit

  room : NoRow rows → length js * job_width N ≤ length results
  room fit = rw size (batch_fit N count results answers fit).results_room

  pub demand1_batch : BatchAnswers N jobs results answers (batch_of N jobs results answers)
  demand1_batch = record {
    answered = record { fit = batch_zero N jobs results answers; wrong = batch-number N jobs results answers };
    untouched = λ n p f. ap (λ (b : Batch). b.buffers) (batch-refused N jobs results answers n p f);
    results_beyond = λ zero.
        let fit = (batch_zero N jobs results answers).0 zero in
        rw (runs fit) (rw size at (results_rest N js results answers (room fit)));
    answers_beyond = λ zero. rw (runs ((batch_zero N jobs results answers).0 zero)) (rw size at (answers_rest N js results answers));
  }

  -- job n, from 0, of a batch that is not refused as a whole
  pub demand1_job : (n : ℕ) → n < job_count jobs → (batch_of N jobs results answers).answer.number ≡ 0 → JobAnswers N jobs results n (batch_of N jobs results answers)
  demand1_job n h zero = subst (JobAnswers N jobs results n) (sym (runs fit)) (record {
    answered = rw three (job_answers N job own);
    counts = λ m p f. three ∙ ap answer_bytes (job_untouched N job own m p f);
    untouched = λ m p f. vectors ∙ ap vectors_of (job_untouched N job own m p f) ∙ take-append-drop (key_count N) own;
  })
    where
      fit : NoRow rows
      fit = (batch_zero N jobs results answers).0 zero

      job : Option Job
      job = job_of (line_of n jobs)

      own : List ℕ
      own = result_of N n results

      settles : settlement_at N js n results ≡ job_settlement N job own
      settles = rw (piece-at count jobs n h)

      three : answer_of n (run_jobs N js results answers).answers ≡ answer_bytes (job_settlement N job own)
      three = answers_at N js results answers n (rw size h) ∙ ap answer_bytes settles

      vectors : result_of N n (run_jobs N js results answers).results ≡ vectors_of (job_settlement N job own)
      vectors = results_at N js results answers n (rw size h) (room fit) ∙ ap vectors_of settles
