-- Which cases of the input are answered, in which order, and which case brought the sheet for each.
use Rattle.std.specs.Prelude.{ℕ, zero, suc, cond, List, [], ◌∷◌, eqb, ltb, length, get_or}
use Rattle.cases.specs.Input.{next_of}

-- the kind of a note, which has no answer
abbrev pub note : ℕ
note = 35

-- the kind of the case at a place
abbrev pub kind_at : List ℕ → ℕ → ℕ
kind_at b at = get_or b at 0

-- where the case stands that brought a sheet last, once the case at a place was looked at
abbrev pub brought : List ℕ → ℕ → ℕ → ℕ → ℕ
brought b brings at from = cond (eqb (kind_at b at) brings) at from

-- the cases from a place on that are answered, so many at the most, each with the one that brought its sheet
unfoldable pub turns_from : List ℕ → ℕ → ℕ → ℕ → ℕ → List (ℕ × ℕ)
turns_from b brings zero at from = []
turns_from b brings (suc most) at from =
    let last = brought b brings at from in
    let rest = turns_from b brings most (next_of b at) last in
    cond (ltb at (length b)) (cond (eqb (kind_at b at) note) rest ((at, last) ∷ rest)) []

-- those of the whole input
unfoldable pub turns : List ℕ → ℕ → List (ℕ × ℕ)
turns b brings = turns_from b brings (length b) 0 0
