-- Demand 1 reaches the text: its first line, how many lines it has, and the line of each job that is read.
use Prim.Native.Nat.{ℕ, ◌+◌, ◌-◌, ◌*◌, ◌<◌}
use native.Mathlib.Omega.{arith}
use mathlib.Core.Path.{◌≡◌, sym, ap, ◌∙◌}
use mathlib.Core.Option.{none}
use mathlib.Core.List.{List, [], ◌∷◌}
use lib.ListN.{replicate}
use Rattle.ternary.specs.Signal.{at}
use Rattle.net.specs.declared.Net.{Net}
use Rattle.net.specs.Graph.{key_count}
use Rattle.net.specs.WellFormed.{C1, place_c1}
use Rattle.net.proofs.WellFormed.{place_c1_none}
use Rattle.sheet.specs.declared.Answer.{Answer}
use Rattle.sheet.specs.Limits.{field_width}
use Rattle.sheet.specs.Line.{write_number}
use Rattle.sheet.specs.Rows.{answer, Row, First}
use Rattle.sheet.specs.Record.{accepted}
use Rattle.sheet.specs.Reading.{read_sheet}
use Rattle.sheet.specs.Job.{job_of}
use Rattle.sheet.proofs.FieldLaws.{field-same}
use Rattle.sheet.proofs.ReadLaws.{read_valid}
use Rattle.settlements.specs.Batch.{job_count, job_width}
use Rattle.output.specs.Limits.{most_jobs, opening_bytes, job_bytes}
use Rattle.output.specs.Output.{judged_of, opening_text, batch_for, output_of}
use Rattle.output.specs.Printed.{printed_line, printed_answer}
use Rattle.output.proofs.GoesOn.{batch_iff}
use Rattle.output.proofs.OutputLines.{lines_read, answer_in_output, refused-line}
use Rattle.output.proofs.LinesThere.{output-first, output-ends, output_size}
use Rattle.demands.specs.Demand1.{Answers, line_of, answer_of, job_line_rows, JobAnswers}
use Rattle.demands.specs.Text.{OutputAnswers, TextAnswers}
use Rattle.demands.proofs.JobRows.{job_numbers, job_answer_small}
use Rattle.demands.proofs.Demand1.{demand1_job}
use Rattle.demands.proofs.LinesRead.{read_jobs, read_iff, read_line_lem}
use Rattle.demands.proofs.SheetCalls.{demand1_judged}

-- DEMAND 1 of the text as a whole
pub demand1_output : (sheet jobs : List ℕ) → OutputAnswers sheet jobs (judged_of sheet) (output_of sheet jobs)
unfolding opening_text
demand1_output sheet jobs = record {
  judged_as = demand1_judged sheet;
  first = output-first sheet jobs;
  ends = output-ends sheet jobs;
  lines = λ e. output_size sheet jobs e ∙ ap (λ (k : ℕ). opening_bytes + k * job_bytes (judged_of sheet).keys) (read_jobs jobs);
}

-- DEMAND 1 of the line of a job: job n, from 0, in the output of an accepted sheet whose net meets C1
pub demand1_text : (sheet : List ℕ) {N : Net} → read_sheet sheet ≡ accepted N → C1 N → (jobs : List ℕ) (n : ℕ) → n < most_jobs → n < job_count jobs
    → TextAnswers N jobs n (output_of sheet jobs)
unfolding batch_for
demand1_text sheet {N} reads c1 jobs n few h = record {
  fit = (λ e. answered.fit.0 (sym (same 0 e)), λ f. shown ∙ ap write_number (answered.fit.1 f));
  wrong = λ m l. (
    λ e. (answered.wrong m 0 l).0 (ap (λ (x : ℕ). answer x 0) (sym (same m e))),
    λ f. shown ∙ ap (λ (a : Answer). write_number a.number) ((answered.wrong m 0 l).1 f),
  );
  refused = λ m p f. let l = job_numbers N (job_of (line_of n jobs)) f in refused-line sheet N reads place jobs n read m (omega arith) (counts m p f);
}
  where
    place : place_c1 N ≡ none
    place = (place_c1_none N).1 c1

    read : n < job_count (lines_read jobs)
    read = (read_iff jobs n).1 (few, h)

    rows : List Row
    rows = job_line_rows N (job_of (line_of n jobs))

    three : List ℕ
    three = answer_of n (batch_for N (lines_read jobs)).buffers.answers

    job : JobAnswers N (lines_read jobs) (replicate (job_count (lines_read jobs) * job_width N) 0) n (batch_for N (lines_read jobs))
    job = demand1_job N (lines_read jobs) _ _ n read ((batch_iff N (lines_read jobs)).1 (read_valid field_width sheet N reads, place))

    answered : Answers rows (answer (at three 0) 0)
    answered = rw (read_line_lem jobs n few) at job.answered

    counts : (m p : ℕ) → First rows m p → three ≡ m ∷ 0 ∷ 0 ∷ []
    counts = rw (read_line_lem jobs n few) at job.counts

    shown : printed_answer (printed_line (key_count N) n (output_of sheet jobs)) ≡ write_number (at three 0)
    shown = answer_in_output sheet N reads place jobs n read

    -- the field tells the number
    same : (m : ℕ) → printed_answer (printed_line (key_count N) n (output_of sheet jobs)) ≡ write_number m → m ≡ at three 0
    same m e = field-same (field_width - 2) m (at three 0) (job_answer_small N (job_of (line_of n jobs)) answered) (sym e ∙ shown)
