-- A job line of w columns a field: 4, old input state A, new input state B, start q, 0.
use Rattle.std.specs.Prelude.{ℕ, ◌^◌, ◌<◌, ◌≡◌, cond, ◌&&◌, eqb, Option, Some, None}
use Rattle.std.proofs.Math.Option.{none, some}
use Rattle.ternary.specs.Lists.{Bytes}
use Rattle.sheet.specs.declared.Job.{Job}
use Rattle.sheet.specs.Limits.{Columns, field_width}
use Rattle.sheet.specs.Line.{line, write_line, read_line}

-- b is the line of this job
pub record JobBytesIn (w : Columns) (b : Bytes) (A B q : ℕ) : Type 0 where
  pub written : write_line w (line 4 A B q 0) ≡ b
  pub old : A < 10 ^ w
  pub new : B < 10 ^ w
  pub start : q < 10 ^ w

-- what a job line asks for; a line that is none asks for nothing
abbrev pub asks : ℕ → ℕ → ℕ → Option Job
asks A B q = Some (record { old = A; new = B; start = q })

unfoldable pub job_in : Columns → Bytes → Option Job
job_in w b =
    elim (read_line w b) [
      | none ↦ None
      | some v ↦ cond (eqb v.kind 4 && eqb v.fifth 0) (asks v.second v.third v.fourth) None
    ]

-- the number of a job line's answer
abbrev pub job_number : Option Job → ℕ
job_number (Some j) = 0
job_number None = 46

-- ---- in the width in force

abbrev pub JobBytes : Bytes → ℕ → ℕ → ℕ → Type 0
JobBytes b A B q = JobBytesIn field_width b A B q

abbrev pub job_of : Bytes → Option Job
job_of b = job_in field_width b
