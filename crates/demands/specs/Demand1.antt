-- Demand 1: what is wrong gets document 01's number for it, in the order of its rows, and changes no byte lent; what is fit gets none.
-- That a call finishes is part of its proof. The rows of each call stand beside the definition of what it answers.
use Rattle.std.specs.Prelude.{ℕ, ◌*◌, ◌≤◌, ◌≡◌, ◌↔◌, List, [], ◌∷◌, ◌++◌, take, drop}
use Rattle.std.proofs.Math.Option.{none, some}
use Rattle.ternary.specs.Signal.{at}
use Rattle.net.specs.declared.Net.{Net}
use Rattle.net.specs.Graph.{key_count}
use Rattle.sheet.specs.declared.Answer.{Answer}
use Rattle.sheet.specs.declared.Reading.{Reading}
use Rattle.std.specs.Prelude.{Some, None}
use Rattle.std.specs.Prelude.{Option as Answered}
use Rattle.sheet.specs.declared.Job.{Job}
use Rattle.sheet.specs.Limits.{line_width}
use Rattle.sheet.specs.Rows.{answer, Row, row, First, NoRow}
use Rattle.sheet.specs.Record.{refused, accepted}
use Rattle.sheet.specs.SheetRows.{net_of, sheet_rows}
use Rattle.sheet.specs.Job.{job_of, job_number}
use Rattle.soundness.specs.declared.KeyNodes.{KeyNodes}
use Rattle.soundness.specs.KeyNodes.{key_nodes, key_nodes_rows}
use Rattle.soundness.specs.Verdict.{verdict_rows, verdict_of}
use Rattle.settlements.specs.Settle.{Settlement, unsettled, settle_rows}
use Rattle.settlements.specs.Batch.{job_count, job_width, answer_width, job_rows, Batch, batched, batch_rows, batch_of}
use Rattle.output.specs.declared.Judged.{Judged}
use Rattle.output.specs.Output.{judged}
use Rattle.output.specs.ForC.{SheetBatch, sheet_batch}

-- a call answers by its rows: number 0 exactly if no row's condition holds, and a number with its place exactly if its row is the first that holds
pub record Answers (rows : List Row) (given : Answer) : Type 0 where
  pub fit : (given.number ≡ 0) ↔ NoRow rows
  pub wrong : (n p : ℕ) → 1 ≤ n → (given ≡ answer n p) ↔ First rows n p

-- the reader: a refusal has the empty record; without one, the record is that of the sheet's lines
pub record SheetAnswers (sheet : List ℕ) (given : Reading) : Type 0 where
  pub answered : Answers (sheet_rows sheet) given.answer
  pub empty : (n p : ℕ) → First (sheet_rows sheet) n p → given ≡ refused (answer n p)
  pub read : NoRow (sheet_rows sheet) → given ≡ accepted (net_of sheet)

-- what a sheet is judged to be: the rows of the reader come first, with h at 0, then those of the verdict, with the net's h
pub record JudgedAnswers (sheet : List ℕ) (given : Judged) : Type 0 where
  pub answered : Answers (sheet_rows sheet ++ verdict_rows (net_of sheet)) given.answer
  pub unread : (n p : ℕ) → First (sheet_rows sheet) n p → given ≡ judged (answer n p) 0
  pub read : NoRow (sheet_rows sheet) → given ≡ judged (verdict_of (net_of sheet)) (key_count (net_of sheet))

-- a batch on a sheet: the rows of the reader come first, with h at 0, then those of a batch, with the net's h; under a number of either both buffers stay as
-- they were, and without a number of the reader it is the batch on the net
pub record SheetBatchAnswers (sheet jobs results answers : List ℕ) (given : SheetBatch) : Type 0 where
  pub answered : Answers (sheet_rows sheet ++ batch_rows (net_of sheet) (job_count jobs) results answers) given.batch.answer
  pub untouched : (n p : ℕ) → First (sheet_rows sheet ++ batch_rows (net_of sheet) (job_count jobs) results answers) n p
      → given.batch ≡ batched (answer n p) results answers
  pub unread : (n p : ℕ) → First (sheet_rows sheet) n p → given ≡ sheet_batch (batched (answer n p) results answers) 0
  pub read : NoRow (sheet_rows sheet) → given ≡ sheet_batch (batch_of (net_of sheet) jobs results answers) (key_count (net_of sheet))

-- the number of key nodes of a record: h, or 0 under a number
pub record KeyNodesAnswers (N : Net) (given : KeyNodes) : Type 0 where
  pub answered : Answers (key_nodes_rows N) given.answer
  pub refused : (n p : ℕ) → First (key_nodes_rows N) n p → given ≡ key_nodes (answer n p) 0
  pub counted : NoRow (key_nodes_rows N) → given ≡ key_nodes (answer 0 0) (key_count N)

-- settling: a refusal has counts 0 and leaves both buffers as they were
pub record SettleAnswers (N : Net) (A B q : ℕ) (R T : List ℕ) (S : Settlement) : Type 0 where
  pub answered : Answers (settle_rows N A B q R T) (answer S.answer.number S.answer.place)
  pub untouched : (n p : ℕ) → First (settle_rows N A B q R T) n p → S ≡ unsettled (answer n p) R T

-- a batch as a whole: a refusal leaves both buffers as they were; without one, the bytes beyond those of all jobs stay
pub record BatchAnswers (N : Net) (jobs results answers : List ℕ) (S : Batch) : Type 0 where
  pub answered : Answers (batch_rows N (job_count jobs) results answers) S.answer
  pub untouched : (n p : ℕ) → First (batch_rows N (job_count jobs) results answers) n p → S.buffers ≡ record { results = results; answers = answers }
  pub results_beyond : S.answer.number ≡ 0
      → drop (job_count jobs * job_width N) S.buffers.results ≡ drop (job_count jobs * job_width N) results
  pub answers_beyond : S.answer.number ≡ 0
      → drop (job_count jobs * answer_width) S.buffers.answers ≡ drop (job_count jobs * answer_width) answers

-- the bytes of job n, from 0: its line, its own of the result buffer, and its three of the answer buffer
abbrev pub line_of : ℕ → List ℕ → List ℕ
line_of n jobs = take line_width (drop (n * line_width) jobs)

abbrev pub result_of : Net → ℕ → List ℕ → List ℕ
result_of N n results = take (job_width N) (drop (n * job_width N) results)

abbrev pub answer_of : ℕ → List ℕ → List ℕ
answer_of n answers = take answer_width (drop (n * answer_width) answers)

-- the rows of a job: its line, then those of settling that the batch has not tested
abbrev pub job_line_rows : Net → Answered Job → List Row
job_line_rows N (Some line) = row (job_number None) none ∷ job_rows N line.old line.new line.start
job_line_rows N None = row (job_number None) (some 0) ∷ []

-- a job of a batch: refused, its three bytes are its number, 0 and 0, and its own result bytes stay as they were
pub record JobAnswers (N : Net) (jobs results : List ℕ) (n : ℕ) (S : Batch) : Type 0 where
  pub answered : Answers (job_line_rows N (job_of (line_of n jobs))) (answer (at (answer_of n S.buffers.answers) 0) 0)
  pub counts : (m p : ℕ) → First (job_line_rows N (job_of (line_of n jobs))) m p → answer_of n S.buffers.answers ≡ m ∷ 0 ∷ 0 ∷ []
  pub untouched : (m p : ℕ) → First (job_line_rows N (job_of (line_of n jobs))) m p → result_of N n S.buffers.results ≡ result_of N n results
