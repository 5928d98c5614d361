-- What the program writes, piece by piece as it decides, is the whole output.
use Prim.Native.Nat.{ℕ, zero, suc, ◌+◌, ◌-◌, ◌*◌, ◌≤◌, ◌<◌, min}
use native.Mathlib.Omega.{arith}
use mathlib.Core.Path.{◌≡◌, refl, sym, ap, ◌∙◌}
use mathlib.Core.Bool.{Bool, true, false, cond, not, ◌||◌}
use mathlib.Core.List.{List, [], ◌++◌}
use lib.Dec.{ltb}
use lib.ListN.{length, take, drop, length-take, drop_of_length-le}
use lib.Seq.{take_all, take_at, take-take, take-nil}
use borrow.Author.Tests.{ltb-true, ltb-false, lt-ltb, le-ltb}
use Rattle.std.specs.Prelude.{Option, Some, None}
use Rattle.ternary.proofs.Tests.{by_test, cond_by, or_false_iff}
use Rattle.sheet.specs.Limits.{line_width}
use Rattle.sheet.proofs.Parts.{drop-take}
use Rattle.output.specs.declared.Written.{Written}
use Rattle.output.specs.declared.Written.TheVariants.{Bytes, Last}
use Rattle.output.specs.Limits.{most_jobs, piece_jobs, piece_lines, opening_bytes, piece_bytes}
use Rattle.output.specs.Output.{goes_on, judged_of, opening_text, jobs_text, output_of}
use Rattle.output.specs.Calls.{put, opening_of, read_lines, piece_of}
use Rattle.output.specs.Program.{written_part, written_of, after_opening, after_piece, Onward, text_from, most_pieces, program_text}
use Rattle.output.proofs.Pieces.{take_min, jobs_none, jobs_split}
use Rattle.output.proofs.FirstLine.{no_jobs}

-- all of a buffer, lent from byte 0 on, where it has fewer bytes than are asked for
pub front_all : (n : ℕ) (out : List ℕ) → length out < n → take (length out - 0) out ≡ take n out
front_all n out h = take_all (length out - 0) out (omega arith) ∙ sym (take_all n out (omega arith))

-- ---- what a call writes, where it has room, is its text

abbrev says : Bool → ℕ → Written
says goes n = cond goes (Bytes n) (Last n)

part_is : (goes : Bool) (text rest : List ℕ) → written_part (says goes (length text)) (text ++ rest) ≡ text
part_is true text rest = take_at text rest (length text) refl
part_is false text rest = take_at text rest (length text) refl

pub opening_written : (sheet out : List ℕ) → opening_bytes ≤ length out → written_of (opening_of sheet out) ≡ opening_text sheet
unfolding opening_of put
opening_written sheet out room = rw (le-ltb (length out) opening_bytes room) (part_is (goes_on (judged_of sheet).answer.number) (opening_text sheet) _)

pub piece-written : (sheet out : List ℕ) → piece_bytes ≤ length out → (n : ℕ) (lines : List ℕ) → written_of (piece_of sheet n lines out) ≡ jobs_text sheet n (read_lines n lines)
unfolding piece_of put
piece-written sheet out room n lines = rw (le-ltb (length out) piece_bytes room) (part_is true (jobs_text sheet n (read_lines n lines)) _)

-- ---- what comes after a piece: nothing where it was short or where all jobs that are read are done, else the next one

module _ (n size : ℕ) where
  pub ends_short : size < piece_lines → after_piece true n size ≡ None
  unfolding after_piece
  ends_short short = rw (lt-ltb size piece_lines short)

  module _ (full : piece_lines ≤ size) where
    pub ends_last : most_jobs < n + piece_jobs → after_piece true n size ≡ None
    unfolding after_piece
    ends_last past = rw (le-ltb size piece_lines full, lt-ltb most_jobs (n + piece_jobs) past)

    pub goes_on-next : n + piece_jobs ≤ most_jobs → after_piece true n size ≡ Some (n + piece_jobs)
    unfolding after_piece
    goes_on-next more = rw (le-ltb size piece_lines full, le-ltb most_jobs (n + piece_jobs) more)

-- it begins later, and not past the last job
pub onward : (written : Bool) (n size : ℕ) → Onward n (after_piece written n size)
unfolding after_piece
onward written n size =
    cond_by (Onward n) (not written || ltb size piece_lines || ltb most_jobs (n + piece_jobs)) (λ _. tt)
    (λ e. let more = ltb-false most_jobs (n + piece_jobs) ((or_false_iff (not written || ltb size piece_lines) _).0 e).1 in (omega arith, more))

-- so a measure of what is left falls from piece to piece: the jobs from the piece's first on, and one, so that there is less left at the end
abbrev pub jobs_left : Option ℕ → ℕ
jobs_left (Some n) = suc (suc most_jobs - n)
jobs_left None = 0

pub fewer_left : (n : ℕ) (next : Option ℕ) → Onward n next → jobs_left next < jobs_left (Some n)
fewer_left n (Some m) h = omega arith
fewer_left n None h = omega arith

-- ---- from piece to piece

module _ (sheet out : List ℕ) where
  text_end : (most : ℕ) (jobs : List ℕ) → text_from sheet out most None jobs ≡ []
  unfolding text_from
  text_end zero jobs = refl
  text_end (suc most) jobs = refl

  -- the jobs from job n on that are read
  abbrev left : ℕ → List ℕ → List ℕ
  left n jobs = take ((suc most_jobs - n) * line_width) jobs

  -- no job is left after a piece that ends the text
  none_left : (n : ℕ) (jobs : List ℕ) → left (n + piece_jobs) (drop piece_lines jobs) ≡ [] → (most : ℕ)
      → text_from sheet out most None (drop piece_lines jobs) ≡ jobs_text sheet (n + piece_jobs) (left (n + piece_jobs) (drop piece_lines jobs))
  none_left n jobs e most = text_end most (drop piece_lines jobs) ∙ rw e (sym (jobs_none sheet (n + piece_jobs)))

  -- what follows the piece from job n on, if what follows it from the next one on is known
  after_piece_lem : (most n : ℕ) (jobs : List ℕ)
      → text_from sheet out most (Some (n + piece_jobs)) (drop piece_lines jobs) ≡ jobs_text sheet (n + piece_jobs) (left (n + piece_jobs) (drop piece_lines jobs))
      → text_from sheet out most (after_piece true n (length (take piece_lines jobs))) (drop piece_lines jobs)
      ≡ jobs_text sheet (n + piece_jobs) (left (n + piece_jobs) (drop piece_lines jobs))
  after_piece_lem most n jobs next =
      by_test (ltb (length (take piece_lines jobs)) piece_lines)
      (λ t. let short = ltb-true (length (take piece_lines jobs)) piece_lines t in
      let few : length jobs ≤ piece_lines = omega (arith, length-take piece_lines jobs) in
      rw (ends_short n _ short) (none_left n jobs (rw (drop_of_length-le jobs {i = piece_lines} few) (take-nil ((suc most_jobs - (n + piece_jobs)) * line_width))) most))
      (λ t. let full = ltb-false (length (take piece_lines jobs)) piece_lines t in
      by_test (ltb most_jobs (n + piece_jobs))
      (λ u. let past = ltb-true most_jobs (n + piece_jobs) u in
      let none : suc most_jobs - (n + piece_jobs) ≡ 0 = omega arith in
      rw (ends_last n _ full past) (none_left n jobs (rw none) most))
      (λ u. rw (goes_on-next n _ full (ltb-false most_jobs (n + piece_jobs) u)) next))

  module _ (room : piece_bytes ≤ length out) where
    -- the piece from job n on, of the jobs that are left, and those after it
    one_piece : (n : ℕ) (jobs : List ℕ)
        → written_of (piece_of sheet n (take piece_lines jobs) out) ++ jobs_text sheet (n + piece_jobs) (left (n + piece_jobs) (drop piece_lines jobs)) ≡ jobs_text sheet n (left n jobs)
    unfolding read_lines
    one_piece n jobs =
        let lines : (suc most_jobs - n) * line_width - piece_jobs * line_width ≡ (suc most_jobs - (n + piece_jobs)) * line_width = omega arith in
        let few : min piece_jobs (suc most_jobs - n) * line_width ≤ piece_lines = omega arith in
        rw (
          piece-written sheet out room n (take piece_lines jobs),
          take-take (min piece_jobs (suc most_jobs - n) * line_width) piece_lines jobs few,
          ← take_min piece_jobs (suc most_jobs - n) jobs,
          ← lines,
          ← drop-take (piece_jobs * line_width) ((suc most_jobs - n) * line_width) jobs,
        )
        (jobs_split sheet n piece_jobs (left n jobs))

    -- so many pieces as reach the last job
    pieces-from : (most n : ℕ) (jobs : List ℕ) → 1 ≤ n → suc most_jobs ≤ n + most * piece_jobs → text_from sheet out most (Some n) jobs ≡ jobs_text sheet n (left n jobs)
    unfolding text_from
    pieces-from zero n jobs h enough = let past : suc most_jobs - n ≡ 0 = omega arith in rw past (sym (jobs_none sheet n))
    pieces-from (suc most) n jobs h enough =
        ap (λ (l : List ℕ). written_of (piece_of sheet n (take piece_lines jobs) out) ++ l)
        (after_piece_lem most n jobs (pieces-from most (n + piece_jobs) (drop piece_lines jobs) (omega arith) (omega arith)))
        ∙ one_piece n jobs

-- ---- the whole

-- the jobs are run, or there are none
jobs-after : (sheet first_out out jobs : List ℕ) → opening_bytes ≤ length first_out → piece_bytes ≤ length out
    → text_from sheet out most_pieces (after_opening true (opening_of sheet first_out).written) jobs ≡ jobs_text sheet 1 (take (most_jobs * line_width) jobs)
unfolding opening_of put after_opening
jobs-after sheet first_out out jobs first-room room =
    rw (le-ltb (length first_out) opening_bytes first-room)
    (by_test (goes_on (judged_of sheet).answer.number)
    (λ t. rw t (pieces-from sheet out room most_pieces 1 jobs (omega arith) (omega arith)))
    (λ t. rw t (text_end sheet out most_pieces jobs ∙ sym (no_jobs sheet t 1 _))))

-- THE WHOLE OUTPUT, whatever the buffers held before
pub program_output : (sheet jobs first_out out : List ℕ) → opening_bytes ≤ length first_out → piece_bytes ≤ length out → program_text sheet jobs first_out out ≡ output_of sheet jobs
unfolding program_text output_of
program_output sheet jobs first_out out first-room room =
    rw (opening_written sheet first_out first-room) (ap (λ (l : List ℕ). opening_text sheet ++ l) (jobs-after sheet first_out out jobs first-room room))
