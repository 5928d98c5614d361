-- The text of one job, and of many in turn.
use Rattle.std.specs.Prelude.{ℕ, zero, suc, ◌*◌, cond, List, [], ◌∷◌, ◌++◌, map, eqb, take, drop, replicate}
use Rattle.ternary.specs.Signal.{at}
use Rattle.sheet.specs.Limits.{blank, digit_zero, line_end}
use Rattle.sheet.specs.Line.{write_number}
use Rattle.settlements.specs.Batch.{answer_width}
use Rattle.output.specs.Limits.{letter_x, hyphen}

-- a signal as a character: the digits 0 and 1, and X for any other byte
abbrev pub character : ℕ → ℕ
character zero = digit_zero
character (suc zero) = suc digit_zero
character (suc (suc s)) = letter_x

-- h characters: a vector's under answer 0, hyphens under a refusal
unfoldable pub vector_text : ℕ → ℕ → List ℕ → List ℕ
vector_text h number vector = cond (eqb number 0) (map character (take h vector)) (replicate h hyphen)

-- the line of a job: its number n, its three answer bytes, its r and its t
unfoldable pub job_text : ℕ → ℕ → List ℕ → List ℕ → List ℕ
job_text h n three own =
    write_number n ++ write_number (at three 0) ++ write_number (at three 1) ++ write_number (at three 2)
    ++ blank ∷ (vector_text h (at three 0) own ++ blank ∷ (vector_text h (at three 0) (drop h own) ++ line_end ∷ []))

-- the lines of so many jobs of h key nodes, numbered from n on
unfoldable pub job_texts : ℕ → ℕ → ℕ → List ℕ → List ℕ → List ℕ
job_texts h zero n results answers = []
job_texts h (suc count) n results answers =
    job_text h n (take answer_width answers) (take (2 * h) results)
    ++ job_texts h count (suc n) (drop (2 * h) results) (drop answer_width answers)
