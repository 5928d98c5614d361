-- Whoever reads a line with answer 0 has demands 2 and 3 kept, with no premise but these characters: that the sheet is accepted, that its net meets C1,
-- that there is such a job and that it may be settled follows from them.
use Prim.Native.Nat.{ℕ}
use mathlib.Core.Path.{◌≡◌}
use mathlib.Core.List.{List}
use Rattle.net.specs.Graph.{key_count}
use Rattle.sheet.specs.Line.{write_number}
use Rattle.sheet.specs.Reading.{read_sheet}
use Rattle.sheet.specs.Job.{job_of}
use Rattle.output.specs.Output.{output_of}
use Rattle.output.specs.Printed.{printed_line, printed_answer}
use Rattle.output.proofs.LinesThere.{line_there}
use Rattle.demands.specs.Demand1.{line_of}
use Rattle.demands.specs.Text.{TextKept}
use Rattle.demands.proofs.Fit.{job_line_fit}
use Rattle.demands.proofs.Demand2.{demand2_settled}
use Rattle.demands.proofs.Kept.{settles_of}
use Rattle.demands.proofs.LinesRead.{read_iff}
use Rattle.demands.proofs.Text.{demand3_text}
use Rattle.demands.proofs.TextAnswers.{demand1_text}

-- WHOEVER READS ANSWER 0: the line of job n, from 0, in the output
pub text_kept : (sheet jobs : List ℕ) (n : ℕ) → printed_answer (printed_line (key_count (read_sheet sheet).net) n (output_of sheet jobs)) ≡ write_number 0
    → TextKept sheet (read_sheet sheet).net jobs n (output_of sheet jobs)
text_kept sheet jobs n e =
    let there = line_there sheet jobs n 0 e in
    let job = (read_iff jobs n).0 there.read in
    let fit = job_line_fit (read_sheet sheet).net (job_of (line_of n jobs)) ((demand1_text sheet there.reads there.c1 jobs n job.0 job.1).fit.0 e) in
    let s = settles_of sheet there.reads there.c1 fit.startable in
    record {
      counted = job.1;
      read = job.0;
      A = fit.A;
      B = fit.B;
      q = fit.q;
      asked = fit.asked;
      settles = s;
      promise = demand3_text s jobs n job.0 job.1 fit.asked;
      passes = demand2_settled s;
    }
