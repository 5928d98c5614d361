-- Truth tables over n signals, and the table over ternary assignments that is grown from one, signal by signal. Assumes nothing.
-- A truth table is a list of 2 ^ n values: entry w is the value where signal i (from 0) has bit i of w.
use Rattle.std.specs.Prelude.{ℕ, zero, suc, ◌+◌, ◌*◌, ◌^◌, cond, List, [], ◌∷◌, ◌++◌, leb, eqb, take, drop}
use Rattle.ternary.specs.Signal.{X}

-- a value as a signal: 0 and 1 are certain, any other is unknown
abbrev pub signal_of : ℕ → ℕ
signal_of v = cond (leb v 1) v X

-- the value that two signals share, else X
abbrev pub agree : ℕ → ℕ → ℕ
agree a b = cond (eqb a b) a X

unfoldable pub agreeing : List ℕ → List ℕ → List ℕ
agreeing [] ys = []
agreeing (x ∷ xs) [] = []
agreeing (x ∷ xs) (y ∷ ys) = agree x y ∷ agreeing xs ys

-- how many signals there are: 0, 1 and X
abbrev pub signal_kinds : ℕ
signal_kinds = 3

-- from a table of signals over n binary variables to the one over n ternary variables: where the last variable is 0, where it is 1, where it is X
unfoldable pub grow : ℕ → List ℕ → List ℕ
grow zero t = t
grow (suc n) t =
    let low = grow n (take (2 ^ n) t) in
    let high = grow n (drop (2 ^ n) t) in
    low ++ (high ++ agreeing low high)

-- the digit of a signal: 0, 1, and 2 for X
abbrev pub ternary_digit : ℕ → ℕ
ternary_digit zero = 0
ternary_digit (suc zero) = 1
ternary_digit (suc (suc s)) = 2

-- the index of a vector in a grown table: the signal at place i weighs 3 ^ i
unfoldable pub ternary_index : List ℕ → ℕ
ternary_index [] = 0
ternary_index (s ∷ r) = ternary_digit s + signal_kinds * ternary_index r
