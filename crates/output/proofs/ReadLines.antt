-- The lines that are read of a piece, and how many jobs they have.
use Prim.Native.Nat.{ℕ, suc, ◌-◌, ◌*◌, ◌≤◌, ◌<◌, min}
use native.Mathlib.Omega.{arith}
use mathlib.Core.Path.{◌≡◌, sym, ◌∙◌}
use mathlib.Core.List.{List}
use lib.ListN.{length, take, length-take}
use lib.Seq.{take_all}
use Rattle.sheet.specs.Limits.{line_width}
use Rattle.settlements.specs.Batch.{job_count}
use Rattle.output.specs.Limits.{most_jobs, piece_jobs}
use Rattle.output.specs.Calls.{read_lines}

-- ---- the most bytes that are read

module _ (n : ℕ) where
  pub none_left : most_jobs < n → 0 ≡ min piece_jobs (suc most_jobs - n) * line_width
  none_left h = omega arith

  pub piece-left : piece_jobs < suc most_jobs - n → piece_jobs * line_width ≡ min piece_jobs (suc most_jobs - n) * line_width
  piece-left h = omega arith

  pub few_left : suc most_jobs - n ≤ piece_jobs → (suc most_jobs - n) * line_width ≡ min piece_jobs (suc most_jobs - n) * line_width
  few_left h = omega arith

-- ---- the lines, lent from byte 0 on, with as many bytes as the part's ends give

module _ (n : ℕ) (lines : List ℕ) (most : ℕ) (counted : most ≡ min piece_jobs (suc most_jobs - n) * line_width) where
  pub read_all : length lines < most → take (length lines - 0) lines ≡ read_lines n lines
  unfolding read_lines
  read_all h = rw (← counted) (take_all (length lines - 0) lines (omega arith) ∙ sym (take_all most lines (omega arith)))

  pub read_part : take (most - 0) lines ≡ read_lines n lines
  unfolding read_lines
  read_part =
      let size : most - 0 ≡ most = omega arith in
      rw (size, counted)

-- ---- no more than a piece has

pub read_few : (n : ℕ) (lines : List ℕ) → length (read_lines n lines) ≤ piece_jobs * line_width
unfolding read_lines
read_few n lines = rw length-take (omega arith)

pub jobs_few : (k : ℕ) (lines : List ℕ) → length lines ≤ k * line_width → job_count lines ≤ k
unfolding job_count
jobs_few k lines h = omega arith
