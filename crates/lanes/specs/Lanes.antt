-- Lanes: rows with one entry for each assignment of a component's signals, and what the code does to a row, in every lane alike.
use Rattle.std.specs.Prelude.{ℕ, suc, Bool, cond, not, ◌&&◌, List, eqb}
use Rattle.ternary.specs.Bits.{bit}
use Rattle.ternary.specs.Lists.{any_below}
use Rattle.net.specs.Limits.{most_signals}
use Rattle.lanes.specs.Grid.{grid, cell, set_row}

-- how many assignments the most signals have (`assignments_power`: 2 ^ mostSignals)
abbrev pub assignments : ℕ
assignments = 256

-- a row for each of n things
abbrev pub lanes : ℕ → (ℕ → ℕ → ℕ) → List ℕ
lanes n f = grid assignments n f

abbrev pub lane : List ℕ → ℕ → ℕ → ℕ
lane r v w = cell assignments r v w

-- row p: bit p of each assignment
unfoldable pub columns : List ℕ
columns = lanes (suc most_signals) (λ p w. bit w p)

-- by a bit, one of two values
unfoldable pub chosen : ℕ → ℕ → ℕ → ℕ
chosen low high b = cond (eqb b 1) high low

-- a mark that is set where an edge is on and the mark it comes from is set
unfoldable pub raised : ℕ → ℕ → ℕ → ℕ
raised on from mark = cond (eqb on 1 && eqb from 1) 1 mark

-- row v takes, lane by lane, one of two values by column p
unfoldable pub choose_row : ℕ → ℕ → ℕ → ℕ → List ℕ → List ℕ
choose_row v p low high r = set_row assignments v (λ w. chosen low high (lane columns p w)) r

-- row v of the marks is set where edge i is on and column p chooses 1
unfoldable pub mark_row : List ℕ → ℕ → ℕ → ℕ → ℕ → ℕ → List ℕ → List ℕ
mark_row on i v p low high r = set_row assignments v (λ w. raised (lane on i w) (chosen low high (lane columns p w)) (lane r v w)) r

-- row `to` of the marks is set where edge i is on and row `from` is set
unfoldable pub raise_row : List ℕ → ℕ → ℕ → ℕ → List ℕ → List ℕ
raise_row on i from to r = set_row assignments to (λ w. raised (lane on i w) (lane r from w) (lane r to w)) r

-- wherever edge i is on, rows u and v have the same mark
unfoldable pub level : List ℕ → ℕ → List ℕ → ℕ → ℕ → Bool
level on i r u v = not (any_below assignments (λ w. eqb (lane on i w) 1 && not (eqb (lane r u w) (lane r v w))))
