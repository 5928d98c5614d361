-- The demands in the text that the program prints: what its first line and a job's line answer (demand 1), that no 0 or 1 of its r or t is against any run (demand 3), and
-- what holds of every line whose answer is 0.
use Rattle.std.specs.Prelude.{ℕ, suc, ◌+◌, ◌*◌, ◌≤◌, ◌<◌, min, ◌≡◌, ◌↔◌, true, false, List, [], ◌∷◌, ◌++◌, map, length, take, replicate}
use Rattle.ternary.specs.Bits.{bit}
use Rattle.ternary.specs.Signal.{at}
use Rattle.ternary.specs.Run.{Run, Step}
use Rattle.net.specs.declared.Net.{Net}
use Rattle.net.specs.Graph.{key_count}
use Rattle.net.specs.Ternary.{settled}
use Rattle.sheet.specs.Limits.{blank, line_end}
use Rattle.sheet.specs.Line.{write_number}
use Rattle.sheet.specs.Rows.{First, NoRow}
use Rattle.sheet.specs.Job.{asks, job_of}
use Rattle.settlements.specs.Batch.{job_count}
use Rattle.output.specs.declared.Judged.{Judged}
use Rattle.output.specs.Limits.{most_jobs, opening_bytes, job_bytes, hyphen}
use Rattle.output.specs.Output.{first_line, goes_on}
use Rattle.output.specs.Text.{character}
use Rattle.output.specs.Printed.{printed_line, printed_numbers, printed_answer, printed_r, printed_t, AgainstPrinted}
use Rattle.demands.specs.Demand1.{JudgedAnswers, line_of, job_line_rows}
use Rattle.demands.specs.Demand2.{SettledPasses}
use Rattle.demands.specs.Demand3.{Settles, run_of}

-- the text for the bytes of both files: its first line tells what the sheet is judged to be, the reader's rows coming first; where the program ends after
-- that number it is the whole text; else there is a line for each job that is read, and nothing more
pub record OutputAnswers (sheet jobs : List ℕ) (given : Judged) (output : List ℕ) : Type 0 where
  pub judged_as : JudgedAnswers sheet given
  pub first : take opening_bytes output ≡ first_line given.answer given.keys
  pub ends : goes_on given.answer.number ≡ false → output ≡ first_line given.answer given.keys
  pub lines : goes_on given.answer.number ≡ true → length output ≡ opening_bytes + min most_jobs (job_count jobs) * job_bytes given.keys

-- the line of job n, from 0: its answer is 0 exactly if no row of the job holds, and a number exactly if its row is the first that holds; the whole line is
-- then the job's own number, that number, counts 0 and hyphens
pub record TextAnswers (N : Net) (jobs : List ℕ) (n : ℕ) (output : List ℕ) : Type 0 where
  pub fit : (printed_answer (printed_line (key_count N) n output) ≡ write_number 0) ↔ NoRow (job_line_rows N (job_of (line_of n jobs)))
  pub wrong : (m : ℕ) → 1 ≤ m → (printed_answer (printed_line (key_count N) n output) ≡ write_number m) ↔ First (job_line_rows N (job_of (line_of n jobs))) m 0
  pub refused : (m p : ℕ) → First (job_line_rows N (job_of (line_of n jobs))) m p → printed_line (key_count N) n output
      ≡ write_number (suc n) ++ write_number m ++ write_number 0 ++ write_number 0
      ++ blank ∷ (replicate (key_count N) hyphen ++ blank ∷ (replicate (key_count N) hyphen ++ line_end ∷ []))

-- no key node of the run is against the characters, key node k having character k
abbrev pub NoneAgainstPrinted : Net → List ℕ → Run → Type 0
NoneAgainstPrinted N characters s = (k : ℕ) → k < key_count N → ¬ AgainstPrinted (at characters k) (bit s.key k)

-- what the line of job n, from 0, promises: its numbers are its own, 0 and the step counts; its characters are those of the two passes' vectors; after
-- every list of steps no key node is against a printed 0 or 1 of r, and where the list has closed at least as many rounds as the second count none is
-- against one of t; that count is at most h
pub record TextPromise (N : Net) (A B q n : ℕ) (output : List ℕ) : Type 0 where
  pub numbers : printed_numbers (printed_line (key_count N) n output)
      ≡ write_number (suc n) ++ write_number 0 ++ write_number (settled N A B q).first_steps ++ write_number (settled N A B q).second_steps
  pub r-shown : printed_r (key_count N) (printed_line (key_count N) n output) ≡ map character (settled N A B q).r
  pub t-shown : printed_t (key_count N) (printed_line (key_count N) n output) ≡ map character (settled N A B q).t
  pub first : (steps : List Step) → NoneAgainstPrinted N (printed_r (key_count N) (printed_line (key_count N) n output)) (run_of N A B q steps)
  pub second : (steps : List Step) → (settled N A B q).second_steps ≤ (run_of N A B q steps).rounds
      → NoneAgainstPrinted N (printed_t (key_count N) (printed_line (key_count N) n output)) (run_of N A B q steps)
  pub most : (settled N A B q).second_steps ≤ key_count N

-- all that is promised of the line of job n, from 0, on the net of a sheet: the job is one of those read, and asks for two input states and a start that
-- may be settled; demand 3 of the characters; and demand 2 of the counts and vectors that these show
pub record TextKept (sheet : List ℕ) (N : Net) (jobs : List ℕ) (n : ℕ) (output : List ℕ) : Type 0 where
  pub counted : n < job_count jobs
  pub read : n < most_jobs
  pub A : ℕ
  pub B : ℕ
  pub q : ℕ
  pub asked : job_of (line_of n jobs) ≡ asks A B q
  pub settles : Settles sheet N A B q
  pub promise : TextPromise N A B q n output
  pub passes : SettledPasses N A B q
