-- A batch: many jobs on one net, with two lent buffers for their vectors and their answers.
use Rattle.std.specs.Prelude.{ℕ, zero, suc, ◌+◌, ◌-◌, ◌*◌, ◌/◌, not, ◌&&◌, ◌||◌, List, [], ◌∷◌, ◌++◌, ltb, length, take, drop}
use Rattle.net.specs.declared.Net.{Net}
use Rattle.net.specs.Graph.{key_count}
use Rattle.net.specs.Network.{is_input_state, is_key_state, stable}
use Rattle.net.specs.WellFormed.{place_c1}
use Rattle.sheet.specs.Limits.{line_width}
use Rattle.sheet.specs.declared.Answer.{Answer}
use Rattle.std.specs.Prelude.{Option, Some, None}
use Rattle.sheet.specs.declared.Job.{Job}
use Rattle.sheet.specs.Rows.{Row, row, when, answer, by_rows}
use Rattle.sheet.specs.Valid.{valid}
use Rattle.sheet.specs.Job.{job_of, job_number}
use Rattle.settlements.specs.Settle.{Settlement, unsettled, settle_under}

-- how many jobs the bytes hold: a line's bytes each, and a short last piece is a job too
unfoldable pub job_count : List ℕ → ℕ
job_count jobs = (length jobs + (line_width - 1)) / line_width

-- the first n pieces of a line's bytes
unfoldable pub pieces : ℕ → List ℕ → List (List ℕ)
pieces zero jobs = []
pieces (suc n) jobs = take line_width jobs ∷ pieces n (drop line_width jobs)

-- bytes of a job: its r then its t in the result buffer; its number and its step counts in the other
abbrev pub job_width : Net → ℕ
job_width N = 2 * key_count N

abbrev pub answer_width : ℕ
answer_width = 3

-- A or B no input state; q no key state; start not stable under A
unfoldable pub job_rows : Net → ℕ → ℕ → ℕ → List Row
job_rows N A B q =
    row 42 (when (not (is_input_state N A && is_input_state N B)))
    ∷ row 43 (when (not (is_key_state N q)))
    ∷ row 44 (when (not (stable N A q)))
    ∷ []

-- one job on its own bytes of the result buffer; a line that is no job line is refused before the rows
unfoldable pub job_settlement : Net → Option Job → List ℕ → Settlement
job_settlement N j own =
    let R = take (key_count N) own in
    let T = drop (key_count N) own in
    elim j [
      | Some line ↦ settle_under (job_rows N line.old line.new line.start) N line.old line.new line.start R T
      | None ↦ unsettled (answer (job_number None) 0) R T
    ]

-- what the two lent buffers hold
pub record Buffers : Type 0 where
  pub results : List ℕ
  pub answers : List ℕ

abbrev pub buffers : List ℕ → List ℕ → Buffers
buffers results answers = record { results = results; answers = answers }

-- each job writes its own bytes and leaves the rest to the later ones
unfoldable pub run_jobs : Net → List (List ℕ) → List ℕ → List ℕ → Buffers
run_jobs N [] results answers = record { results = results; answers = answers }
run_jobs N (j ∷ js) results answers =
    let s = job_settlement N (job_of j) (take (job_width N) results) in
    let rest = run_jobs N js (drop (job_width N) results) (drop answer_width answers) in
    record {
      results = (s.r ++ s.t) ++ rest.results;
      answers = (s.answer.number ∷ s.answer.first_steps ∷ s.answer.second_steps ∷ []) ++ rest.answers;
    }

-- an answer for the whole, and both lent buffers
pub record Batch : Type 0 where
  pub answer : Answer
  pub buffers : Buffers

abbrev pub batched : Answer → List ℕ → List ℕ → Batch
batched a results answers = record { answer = a; buffers = buffers results answers }

-- record; C1 broken; a buffer too short for all jobs
unfoldable pub batch_rows : Net → ℕ → List ℕ → List ℕ → List Row
batch_rows N count results answers =
    row 41 (when (not (valid N)))
    ∷ row 31 (place_c1 N)
    ∷ row 45 (when (ltb (length results) (count * job_width N) || ltb (length answers) (count * answer_width)))
    ∷ []

unfoldable pub batch_of : Net → List ℕ → List ℕ → List ℕ → Batch
batch_of N jobs results answers =
    let count = job_count jobs in
    by_rows (batch_rows N count results answers)
    (record { answer = answer 0 0; buffers = run_jobs N (pieces count jobs) results answers })
    (λ a. record { answer = a; buffers = record { results = results; answers = answers } })
