-- What each call of the report answers and leaves in its buffer.
use Rattle.std.specs.Prelude.{ℕ, suc, ◌-◌, ◌*◌, min, cond, List, ◌++◌, ltb, length, take, drop}
use Rattle.sheet.specs.Limits.{line_width}
use Rattle.output.specs.declared.Written.{Written}
use Rattle.output.specs.declared.Written.TheVariants.{Short, Bytes, Last}
use Rattle.output.specs.Limits.{most_jobs, piece_jobs, opening_bytes, piece_bytes}
use Rattle.output.specs.Output.{judged_of, opening_text, goes_on, jobs_text}

-- an answer, and what the lent buffer then holds
pub record Report : Type 0 where
  pub written : Written
  pub out : List ℕ

abbrev pub report : Written → List ℕ → Report
report w out = record { written = w; out = out }

-- a text at the front of a buffer, and what is said of its length; a buffer without the room that the call asks for stays as it is
unfoldable pub put : (ℕ → Written) → ℕ → List ℕ → List ℕ → Report
put says room text out = cond (ltb (length out) room) (report Short out) (report (says (length text)) (text ++ drop (length text) out))

-- after some numbers nothing follows the first line
abbrev pub opening_says : ℕ → ℕ → Written
opening_says number n = cond (goes_on number) (Bytes n) (Last n)

-- the first line
unfoldable pub opening_of : List ℕ → List ℕ → Report
opening_of sheet out = put (opening_says (judged_of sheet).answer.number) opening_bytes (opening_text sheet) out

-- of a piece that begins with job n, the lines that are read: no more than a piece has, and none past the last job
unfoldable pub read_lines : ℕ → List ℕ → List ℕ
read_lines n lines = take (min piece_jobs (suc most_jobs - n) * line_width) lines

-- the lines of a piece's jobs
unfoldable pub piece_of : List ℕ → ℕ → List ℕ → List ℕ → Report
piece_of sheet n lines out = put Bytes piece_bytes (jobs_text sheet n (read_lines n lines)) out
