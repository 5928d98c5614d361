-- Numbers of an answer, in the columns of a field each.
use Rattle.std.specs.Prelude.{ℕ, List, [], ◌∷◌, ◌++◌, length, Result, Ok, Err}
use Rattle.sheet.specs.Limits.{line_end}
use Rattle.sheet.specs.Line.{write_number}
use Rattle.sheet.specs.declared.Answer.{Answer}

unfoldable pub columns : List ℕ → List ℕ
columns [] = []
columns (n ∷ rest) = write_number n ++ columns rest

-- a value or a refusal: 0 and the value, or the number and 0
abbrev pub result_columns : Result ℕ ℕ → List ℕ
result_columns (Ok value) = columns (0 ∷ value ∷ [])
result_columns (Err number) = columns (number ∷ 0 ∷ [])

-- a number and its place
abbrev pub place_columns : Answer → List ℕ
place_columns answer = columns (answer.number ∷ answer.place ∷ [])

-- how many bytes a text has, and from the next line on these
abbrev pub counted : List ℕ → List ℕ
counted text = (columns (length text ∷ []) ++ line_end ∷ []) ++ text
