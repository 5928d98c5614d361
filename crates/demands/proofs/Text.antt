-- Demand 3 reaches the text that the program prints.
use Prim.Native.Nat.{ℕ, ◌≤◌, ◌<◌}
use native.Mathlib.Omega.{arith}
use mathlib.Core.Path.{◌≡◌, ap, subst, ◌∙◌}
use mathlib.Core.Option.{none}
use mathlib.Core.List.{List, map}
use lib.ListN.{length, drop, length-drop, length-replicate}
use Rattle.ternary.specs.Bits.{bit}
use Rattle.ternary.specs.Signal.{at}
use Rattle.ternary.specs.Run.{Run}
use Rattle.net.specs.declared.Net.{Net}
use Rattle.net.specs.Graph.{key_count}
use Rattle.net.specs.Ternary.{settled}
use Rattle.net.specs.WellFormed.{place_c1}
use Rattle.net.proofs.WellFormed.{place_c1_none}
use Rattle.sheet.specs.Job.{asks, job_of}
use Rattle.settlements.specs.Batch.{job_count, job_width}
use Rattle.output.specs.Limits.{most_jobs}
use Rattle.output.specs.Text.{character, vector_text}
use Rattle.output.specs.Output.{batch_for, output_of}
use Rattle.output.specs.Printed.{printed_line, printed_r, printed_t, AgainstPrinted}
use Rattle.output.proofs.Characters.{character_against, vector_at}
use Rattle.output.proofs.OutputLines.{lines_read, own, own_size, numbers_in_output, r_in_output, t_in_output, settled_in_output}
use Rattle.demands.specs.Demand1.{line_of}
use Rattle.demands.specs.Demand3.{Settles, run_of, NoneAgainst, JobPromise}
use Rattle.demands.specs.Text.{NoneAgainstPrinted, TextPromise}
use Rattle.demands.proofs.Vectors.{r_size, t_size}
use Rattle.demands.proofs.LinesRead.{read_iff, read_line_lem}
use Rattle.demands.proofs.Demand3.{demand3_job}

-- characters of a vector that no key node is against
none_printed : (N : Net) (s : Run) {characters : List ℕ} (vector : List ℕ) → characters ≡ vector_text (key_count N) 0 vector → key_count N ≤ length vector
    → NoneAgainst N vector s → NoneAgainstPrinted N characters s
none_printed N s {characters} vector shown fits clear k h against =
    let is = ap (λ (l : List ℕ). at l k) shown ∙ vector_at (key_count N) vector k h fits in
    clear k h ((character_against (at vector k) (bit s.key k)).0 (subst (λ (c : ℕ). AgainstPrinted c (bit s.key k)) is against))

module _ {sheet : List ℕ} {N : Net} {A B q : ℕ} (s : Settles sheet N A B q) where
  -- DEMAND 3 of the text: job n, from 0, in the output
  pub demand3_text : (jobs : List ℕ) (n : ℕ) → n < most_jobs → n < job_count jobs → job_of (line_of n jobs) ≡ asks A B q
      → TextPromise N A B q n (output_of sheet jobs)
  unfolding batch_for
  demand3_text jobs n few h asked = record {
    numbers = numbers_in_output sheet N s.reads c1 jobs n read ∙ rw job.answers;
    r-shown = shown.0;
    t-shown = shown.1;
    first = λ steps. none_printed N (run_of N A B q steps) bytes r-text (omega (arith, size)) (job.promise.first steps);
    second = λ steps enough. none_printed N (run_of N A B q steps) (drop (key_count N) bytes) t-text (rw length-drop (omega (arith, size)))
        (job.promise.second steps (rw job.answers enough));
    most = rw job.answers at job.promise.most;
  }
    where
      c1 : place_c1 N ≡ none
      c1 = (place_c1_none N).1 s.c1

      read : n < job_count (lines_read jobs)
      read = (read_iff jobs n).1 (few, h)

      job : JobPromise N A B q n (batch_for N (lines_read jobs))
      job = demand3_job s (lines_read jobs) _ _ n read (ap job_of (read_line_lem jobs n few) ∙ asked) (rw length-replicate (omega arith)) (rw length-replicate (omega arith))

      shown : (printed_r (key_count N) (printed_line (key_count N) n (output_of sheet jobs)) ≡ map character (settled N A B q).r)
          × (printed_t (key_count N) (printed_line (key_count N) n (output_of sheet jobs)) ≡ map character (settled N A B q).t)
      shown =
          settled_in_output sheet N s.reads c1 jobs n read (settled N A B q).r (settled N A B q).t (ap (λ (three : List ℕ). at three 0) job.answers) job.results
          (r_size N A B q) (t_size N A B q)

      bytes : List ℕ
      bytes = own sheet N s.reads c1 jobs n read

      size : length bytes ≡ job_width N
      size = own_size sheet N s.reads c1 jobs n read

      r-text : printed_r (key_count N) (printed_line (key_count N) n (output_of sheet jobs)) ≡ vector_text (key_count N) 0 bytes
      r-text = r_in_output sheet N s.reads c1 jobs n read ∙ ap (λ (three : List ℕ). vector_text (key_count N) (at three 0) bytes) job.answers

      t-text : printed_t (key_count N) (printed_line (key_count N) n (output_of sheet jobs)) ≡ vector_text (key_count N) 0 (drop (key_count N) bytes)
      t-text = t_in_output sheet N s.reads c1 jobs n read ∙ ap (λ (three : List ℕ). vector_text (key_count N) (at three 0) (drop (key_count N) bytes)) job.answers
