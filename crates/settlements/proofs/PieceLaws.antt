-- The pieces of a batch's bytes, one after the other: the piece at hand, and what is left after it.
use Prim.Native.Nat.{ℕ, suc, ◌<◌, min}
use native.Mathlib.Omega.{arith}
use mathlib.Core.Path.{◌≡◌, sym, ap, ◌∙◌}
use mathlib.Core.List.{List, [], ◌∷◌, ◌++◌}
use lib.ListN.{length, take, drop, length-drop}
use lib.Seq.{take_at, drop_at}
use Rattle.std.proofs.lemmas.List.{take_min, drop_min}
use Rattle.sheet.specs.Limits.{line_width}
use Rattle.settlements.specs.Batch.{job_count, pieces}

-- the jobs that the bytes hold
abbrev pub jobs_of : List ℕ → List (List ℕ)
jobs_of lines = pieces (job_count lines) lines

pub no_jobs : (lines : List ℕ) → length lines ≡ 0 → jobs_of lines ≡ []
unfolding pieces job_count
no_jobs lines e =
    let none_left : job_count lines ≡ 0 = omega arith in
    rw none_left

-- where there are bytes, a piece of them is taken: a line's bytes, or all where there are fewer
pub record Taken (lines piece left : List ℕ) : Type 0 where
  pub parts : lines ≡ piece ++ left
  pub size : length piece ≡ min line_width (length lines)
  pub some : 0 < length lines

module _ {lines piece left : List ℕ} (t : Taken lines piece left) where
  first_is : piece ≡ take line_width lines
  first_is =
      sym (take_at piece left (min line_width (length lines)) t.size)
      ∙ ap (take (min line_width (length lines))) (sym t.parts)
      ∙ take_min line_width lines

  rest_is : left ≡ drop line_width lines
  rest_is =
      sym (drop_at piece left (min line_width (length lines)) t.size)
      ∙ ap (drop (min line_width (length lines))) (sym t.parts)
      ∙ drop_min line_width lines

  -- of the jobs, one less is left
  pub counted : job_count lines ≡ suc (job_count left)
  unfolding job_count
  counted = omega (arith, t.some, ap length rest_is, length-drop line_width lines)

  pub jobs-at : jobs_of lines ≡ piece ∷ jobs_of left
  unfolding pieces
  jobs-at = rw (counted, first_is, rest_is)
