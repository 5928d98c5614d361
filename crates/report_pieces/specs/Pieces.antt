-- What the code has at hand where it runs the jobs of a piece.
use Rattle.std.specs.Prelude.{ℕ, ◌+◌, ◌*◌, ◌^◌, ◌≤◌, ◌<◌, true, List, ◌≡◌, length, replicate}
use Rattle.net.specs.declared.Net.{Net}
use Rattle.net.specs.Limits.{most_key_nodes}
use Rattle.net.specs.Graph.{key_count}
use Rattle.sheet.specs.Valid.{valid}
use Rattle.settlements.specs.Batch.{job_count, answer_width}
use Rattle.output.specs.Limits.{piece_jobs, piece_bytes}

-- the most bytes of r and t, and of answers, that the jobs of a piece have
abbrev pub result_bytes : ℕ
result_bytes = piece_jobs * (2 * most_key_nodes)

abbrev pub answer_bytes : ℕ
answer_bytes = piece_jobs * answer_width

-- a valid net, its h, the count of the jobs and the number of the first, and buffers of zeros of just the size they need
pub record Ready (N : Net) (h count first : ℕ) (lines results answers out : List ℕ) : Type 0 where
  pub fit : valid N ≡ true
  pub keys : h ≡ key_count N
  pub counted : count ≡ job_count lines
  pub few : count ≤ piece_jobs
  pub numbered : first + count < 2 ^ 64
  pub result_room : results ≡ replicate (count * (2 * h)) 0
  pub answer_room : answers ≡ replicate (count * answer_width) 0
  pub text_room : piece_bytes ≤ length out
