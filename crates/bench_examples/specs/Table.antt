-- The ten bench examples that document 01 marks P, from the bytes of a sheet to the answer.
use Rattle.std.specs.Prelude.{ℕ, List, [], ◌∷◌, ◌++◌, replicate, Some, None, Result, Ok, Err}
use Rattle.net.specs.Graph.{key_count}
use Rattle.sheet.specs.Reading.{read_sheet}
use Rattle.sheet.specs.Job.{job_of, job_number}
use Rattle.sheet.specs.Text.{bytes}
use Rattle.soundness.specs.Excited.{excited_of}
use Rattle.settlements.specs.Settle.{settle_of}
use Rattle.bench_examples.specs.Nets.{worked, nor_gate, three_nands, nor_latch}

pub data Question : Type 0 where
  -- a sheet and a job line
  settling : List ℕ → List ℕ → Question
  -- a sheet, an input state, a key state and a vertex
  exciting : List ℕ → ℕ → ℕ → ℕ → Question

-- a byte that no pass writes, the hyphen: what a buffer holds before the call
abbrev pub untouched : ℕ
untouched = 45

-- number and value of one vertex's excitation
abbrev pub value_line : Result ℕ ℕ → List ℕ
value_line (Ok v) = 0 ∷ v ∷ []
value_line (Err n) = n ∷ []

-- for a job: its number, its step counts, and both buffers, each lent with h untouched bytes
unfoldable pub answer_to : Question → List ℕ
answer_to (settling sheet job) =
    let N = (read_sheet sheet).net in
    let lent = replicate (key_count N) untouched in
    elim (job_of job) [
      | Some line ↦
          let s = settle_of N line.old line.new line.start lent lent in
          s.answer.number ∷ s.answer.first_steps ∷ s.answer.second_steps ∷ (s.r ++ s.t)
      | None ↦ job_number None ∷ 0 ∷ 0 ∷ (lent ++ lent)
    ]
answer_to (exciting sheet a q y) = value_line (excited_of (read_sheet sheet).net a q y)

pub record Example : Type 0 where
  pub question : Question
  pub expected : List ℕ

abbrev example : Question → List ℕ → Example
example q e = record { question = q; expected = e }

-- the bytes of a job's answer: three numbers, then the characters of r and t with X as byte 4
abbrev pub bench_examples : List Example
bench_examples =
    -- the four jobs of the worked example
    example (settling worked (bytes "   4   0   1   1   0\n")) (0 ∷ 1 ∷ 0 ∷ 4 ∷ 4 ∷ [])
    ∷ example (settling worked (bytes "   4   0   0   1   0\n")) (0 ∷ 0 ∷ 0 ∷ 1 ∷ 1 ∷ [])
    ∷ example (settling worked (bytes "   4   1   0   1   0\n")) (44 ∷ 0 ∷ 0 ∷ untouched ∷ untouched ∷ [])
    ∷ example (settling worked (bytes "   4   2   0   1   0\n")) (42 ∷ 0 ∷ 0 ∷ untouched ∷ untouched ∷ [])
    -- the NOR gate's inner vertex: 3 at a = b = 1, and 2 at a = 0, b = 1
    ∷ example (exciting nor_gate 3 0 4) (0 ∷ 3 ∷ [])
    ∷ example (exciting nor_gate 2 0 4) (0 ∷ 2 ∷ [])
    -- three NANDs: ab 11 to 00 from 010 gives XXX in 2 steps and 101 in 2; 10 to 01 from 011 gives XXX in 2 and 1XX in 1
    ∷ example (settling three_nands (bytes "   4   3   0   2   0\n")) (0 ∷ 2 ∷ 2 ∷ 4 ∷ 4 ∷ 4 ∷ 1 ∷ 0 ∷ 1 ∷ [])
    ∷ example (settling three_nands (bytes "   4   1   2   6   0\n")) (0 ∷ 2 ∷ 1 ∷ 4 ∷ 4 ∷ 4 ∷ 1 ∷ 4 ∷ 4 ∷ [])
    -- the NOR latch: SR 10 to 00 from 01 gives 01 and 01 in 0 steps each; 11 to 00 from 00 gives XX in 1 and XX in 0
    ∷ example (settling nor_latch (bytes "   4   1   0   2   0\n")) (0 ∷ 0 ∷ 0 ∷ 0 ∷ 1 ∷ 0 ∷ 1 ∷ [])
    ∷ example (settling nor_latch (bytes "   4   3   0   0   0\n")) (0 ∷ 1 ∷ 0 ∷ 4 ∷ 4 ∷ 4 ∷ 4 ∷ [])
    ∷ []
