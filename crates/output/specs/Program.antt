-- What the program does: which bytes of its buffers it writes, what comes next, and the text that comes of it.
use Rattle.std.specs.Prelude.{ℕ, zero, suc, ◌+◌, ◌-◌, ◌/◌, ◌≤◌, ◌<◌, Bool, cond, true, not, ◌||◌, List, [], ◌++◌, Option, Some, None, ltb, length, take, drop}
use Rattle.output.specs.declared.Written.{Written}
use Rattle.output.specs.declared.Written.TheVariants.{Short, Bytes, Last}
use Rattle.output.specs.Limits.{most_jobs, piece_jobs, piece_lines}
use Rattle.output.specs.Calls.{Report, opening_of, piece_of}

-- the bytes that a call wrote, at the front of its buffer
abbrev pub written_part : Written → List ℕ → List ℕ
written_part Short out = []
written_part (Bytes n) out = take n out
written_part (Last n) out = take n out

-- what follows the first line: the piece from job 1 on, or nothing
abbrev pub following : Written → Option ℕ
following Short = None
following (Bytes n) = Some 1
following (Last n) = None

-- if all of it could be written
unfoldable pub after_opening : Bool → Written → Option ℕ
after_opening written w = cond written (following w) None

-- after the piece from job n on, of which so many bytes could be read: the next one, if the text could be written, the piece was full, and not all jobs that
-- are read are done
unfoldable pub after_piece : Bool → ℕ → ℕ → Option ℕ
after_piece written n size = cond (not written || ltb size piece_lines || ltb most_jobs (n + piece_jobs)) None (Some (n + piece_jobs))

-- a piece that comes next begins later, and not past the last job: so the program ends
abbrev pub Onward : ℕ → Option ℕ → Type 0
Onward n (Some m) = (n < m) × (m ≤ most_jobs)
Onward n None = Unit {0}

-- ---- the text, where every write succeeds

abbrev pub written_of : Report → List ℕ
written_of r = written_part r.written r.out

-- from what comes next on, with a buffer for a piece: each piece takes as many bytes of the jobs as its lines have; so many pieces at the most
unfoldable pub text_from : List ℕ → List ℕ → ℕ → Option ℕ → List ℕ → List ℕ
text_from sheet out zero next jobs = []
text_from sheet out (suc most) None jobs = []
text_from sheet out (suc most) (Some n) jobs =
    written_of (piece_of sheet n (take piece_lines jobs) out)
    ++ text_from sheet out most (after_piece true n (length (take piece_lines jobs))) (drop piece_lines jobs)

-- the pieces that all the jobs need
abbrev pub most_pieces : ℕ
most_pieces = (most_jobs + (piece_jobs - 1)) / piece_jobs

-- the whole program, with a buffer for the first line and one for a piece
unfoldable pub program_text : List ℕ → List ℕ → List ℕ → List ℕ → List ℕ
program_text sheet jobs first_out out =
    let opening = opening_of sheet first_out in
    written_of opening ++ text_from sheet out most_pieces (after_opening true opening.written) jobs
