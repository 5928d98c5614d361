-- What the program writes for the bytes of its two files.
use Rattle.std.specs.Prelude.{ℕ, ◌*◌, Bool, cond, ◌||◌, List, [], ◌∷◌, ◌++◌, eqb, take, replicate}
use Rattle.net.specs.declared.Net.{Net}
use Rattle.net.specs.Graph.{key_count}
use Rattle.sheet.specs.Limits.{line_width, line_end}
use Rattle.sheet.specs.Line.{write_number}
use Rattle.sheet.specs.declared.Answer.{Answer}
use Rattle.sheet.specs.Reading.{read_sheet}
use Rattle.soundness.specs.Verdict.{verdict_of}
use Rattle.settlements.specs.Batch.{job_count, job_width, answer_width, Batch, batch_of}
use Rattle.output.specs.declared.Judged.{Judged}
use Rattle.output.specs.Limits.{most_jobs}
use Rattle.output.specs.Text.{job_texts}

-- the first line: 0, a number, its place, and h
unfoldable pub first_line : Answer → ℕ → List ℕ
first_line a h = write_number 0 ++ write_number a.number ++ write_number a.place ++ write_number h ++ line_end ∷ []

abbrev pub judged : Answer → ℕ → Judged
judged a h = record { answer = a; keys = h }

-- what a sheet is judged to be: the reader's number, h then being 0, or else the verdict
unfoldable pub judged_of : List ℕ → Judged
judged_of sheet =
    let reading = read_sheet sheet in
    cond (eqb reading.answer.number 0)
    (judged (verdict_of reading.net) (key_count reading.net))
    (judged reading.answer 0)

-- the first line of a sheet
unfoldable pub opening_text : List ℕ → List ℕ
opening_text sheet = first_line (judged_of sheet).answer (judged_of sheet).keys

-- after these verdicts the jobs are run: well formed, or C2 or C3 alone broken
abbrev pub goes_on : ℕ → Bool
goes_on number = eqb number 0 || eqb number 32 || eqb number 33

-- what a batch of these lines gives, in buffers of just the size they need
unfoldable pub batch_for : Net → List ℕ → Batch
batch_for N lines = batch_of N lines (replicate (job_count lines * job_width N) 0) (replicate (job_count lines * answer_width) 0)

-- the lines of the jobs on a net, numbered from n on; nothing where its verdict ends the program
unfoldable pub net_text : Net → ℕ → List ℕ → List ℕ
net_text N n lines =
    let batch = batch_for N lines in
    cond (goes_on (verdict_of N).number) (job_texts (key_count N) (job_count lines) n batch.buffers.results batch.buffers.answers) []

-- the same on the net of a sheet; nothing for a sheet that the reader refuses
unfoldable pub jobs_text : List ℕ → ℕ → List ℕ → List ℕ
jobs_text sheet n lines =
    let reading = read_sheet sheet in
    cond (eqb reading.answer.number 0) (net_text reading.net n lines) []

-- the whole output: the first line, and a line for each job up to the last that is read
unfoldable pub output_of : List ℕ → List ℕ → List ℕ
output_of sheet jobs = opening_text sheet ++ jobs_text sheet 1 (take (most_jobs * line_width) jobs)
