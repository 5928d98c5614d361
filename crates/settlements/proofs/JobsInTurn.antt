-- The jobs of a batch, one after the other.
use Prim.Native.Nat.{ℕ, ◌+◌, ◌-◌, ◌*◌, ◌≤◌}
use native.Mathlib.Nat.{zero-add, add-mul, one-mul}
use native.Mathlib.Omega.{arith}
use mathlib.Core.Path.{◌≡◌, refl, sym, ap, ◌∙◌}
use mathlib.Core.List.{List, [], ◌∷◌, ◌++◌, append_assoc}
use lib.ListN.{length, take, drop, length-drop, take-append-drop}
use lib.Seq.{length-take-le}
use borrow.Rule.Slice.PartMut.{put_mid}
use Rattle.net.specs.declared.Net.{Net}
use Rattle.net.specs.Graph.{key_count}
use Rattle.sheet.specs.Job.{job_of}
use Rattle.settlements.specs.declared.Settling.{Settling}
use Rattle.settlements.specs.Settle.{Settlement, settlement}
use Rattle.settlements.specs.Batch.{job_count, job_width, answer_width, job_settlement, Buffers, buffers, run_jobs}
use Rattle.settlements.proofs.BatchLaws.{vectors_of, job_length}
use Rattle.sheet.proofs.Parts.{part_width, room_now, room_then, part_taken, part_dropped, part_length}
use Rattle.settlements.proofs.PieceLaws.{jobs_of, no_jobs, Taken, counted, jobs-at}

-- where the part after part i begins
pub one_more : (i w : ℕ) → (i + 1) * w ≡ i * w + w
one_more i w = add-mul i 1 w ∙ ap (λ (x : ℕ). i * w + x) (one-mul w)

-- the jobs whose lines are not left are done, and those left give the rest of both buffers
pub record Progress (N : Net) (lines results₀ answers₀ results answers left : List ℕ) (at place : ℕ) : Type 0 where
  pub results_length : length results ≡ length results₀
  pub answers_length : length answers ≡ length answers₀
  pub results_room : at + job_count left * job_width N ≤ length results
  pub answers_room : place + job_count left * answer_width ≤ length answers
  pub same : let rest = run_jobs N (jobs_of left) (drop at results) (drop place answers) in
      buffers (take at results ++ rest.results) (take place answers ++ rest.answers) ≡ run_jobs N (jobs_of lines) results₀ answers₀

pub start : (N : Net) (lines results answers : List ℕ) → job_count lines * job_width N ≤ length results → job_count lines * answer_width ≤ length answers
    → Progress N lines results answers results answers lines 0 0
start N lines results answers hr ha = record {
  results_length = refl;
  answers_length = refl;
  results_room = rw zero-add hr;
  answers_room = rw zero-add ha;
  same = refl;
}

-- one job: its piece is taken of the lines, and `after` are then left
module _ {N : Net} {lines results₀ answers₀ results answers left piece after : List ℕ} {at place : ℕ} (v : Progress N lines results₀ answers₀ results answers left at place) (t : Taken left piece after) where
  fits : at + job_width N ≤ length results
  fits = room_now (job_width N) at (counted t) v.results_room

  own_size : length (take (job_width N) (drop at results)) ≡ job_width N
  own_size = length-take-le (job_width N) (drop at results) (simp length-drop (omega (arith, fits)))

  pub answers_now : place + answer_width ≤ length answers
  answers_now = room_now answer_width place (counted t) v.answers_room

  -- what the jobs after this one give
  abbrev rest : Buffers
  rest = run_jobs N (jobs_of after) (drop (job_width N) (drop at results)) (drop answer_width (drop place answers))

  module _ (s : Settling) (own bytes : List ℕ)
      (e : settlement s (take (key_count N) own) (drop (key_count N) own) ≡ job_settlement N (job_of piece) (take (job_width N) (drop at results)))
      (f : bytes ≡ s.number ∷ s.first_steps ∷ s.second_steps ∷ []) where
    own_kept : length own ≡ job_width N
    own_kept =
        sym (ap length (take-append-drop (key_count N) own)) ∙ ap (λ (x : Settlement). length (vectors_of x)) e
        ∙ job_length N (job_of piece) (take (job_width N) (drop at results)) own_size

    next_run : run_jobs N (jobs_of left) (drop at results) (drop place answers) ≡ buffers (own ++ rest.results) (bytes ++ rest.answers)
    unfolding run_jobs
    next_run = rw (jobs-at t, ← e, take-append-drop, f)

    done : Progress N lines results₀ answers₀ (put_mid at (job_width N) results own) (put_mid place answer_width answers bytes) after (at + job_width N) (place + answer_width)
    done = record {
      results_length = part_length results own at (job_width N) fits own_kept ∙ v.results_length;
      answers_length = part_length answers bytes place answer_width answers_now (ap length f) ∙ v.answers_length;
      results_room = rw (part_length results own at (job_width N) fits own_kept) (room_then (job_width N) at (counted t) v.results_room);
      answers_room = rw (part_length answers bytes place answer_width answers_now (ap length f)) (room_then answer_width place (counted t) v.answers_room);
      same =
          rw (
            part_taken results own at (job_width N) fits own_kept,
            part_dropped results own at (job_width N) fits own_kept,
            part_taken answers bytes place answer_width answers_now (ap length f),
            part_dropped answers bytes place answer_width answers_now (ap length f),
            append_assoc (take at results) own,
            append_assoc (take place answers) bytes,
          )
          (rw next_run at v.same);
    }

  -- the same with the width w that the code has
  module _ {w : ℕ} (sized : w ≡ job_width N) where
    pub results_now : at + w ≤ length results
    results_now = rw sized fits

    pub step : (s : Settling) (own bytes : List ℕ)
        → settlement s (take (key_count N) own) (drop (key_count N) own) ≡ job_settlement N (job_of piece) (take (at + w - at) (drop at results))
        → bytes ≡ s.number ∷ s.first_steps ∷ s.second_steps ∷ []
        → Progress N lines results₀ answers₀ (put_mid at (at + w - at) results own) (put_mid place (place + answer_width - place) answers bytes) after (at + w) (place + answer_width)
    step s own bytes e f = rw (part_width at w, part_width place answer_width, sized) (done s own bytes (rw (part_width at w, sized) at e) f)

pub finish : {N : Net} {lines results₀ answers₀ results answers left : List ℕ} {at place : ℕ} → Progress N lines results₀ answers₀ results answers left at place → length left ≡ 0
    → buffers results answers ≡ run_jobs N (jobs_of lines) results₀ answers₀
unfolding run_jobs
finish {left = left} v h = simp (no_jobs left h, take-append-drop) at v.same
