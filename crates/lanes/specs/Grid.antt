-- Grids: a list that holds n rows of one width, one row after the other. Assumes nothing.
use Rattle.std.specs.Prelude.{ℕ, ◌+◌, ◌-◌, ◌*◌, ◌/◌, ◌%◌, cond, ◌&&◌, List, eqb, leb, ltb, length, get_or}
use Rattle.ternary.specs.Lists.{table}

-- n rows of w entries: row v holds f v 0 to f v (w - 1)
unfoldable pub grid : ℕ → ℕ → (ℕ → ℕ → ℕ) → List ℕ
grid w n f = table (n * w) (λ i. f (i / w) (i % w))

-- entry a of row v
abbrev pub cell : ℕ → List ℕ → ℕ → ℕ → ℕ
cell w r v a = get_or r (v * w + a) 0

-- row v becomes f, the other rows stay
unfoldable pub set_row : ℕ → ℕ → (ℕ → ℕ) → List ℕ → List ℕ
set_row w v f r = table (length r) (λ i. cond (eqb (i / w) v) (f (i % w)) (get_or r i 0))

-- n rows from row v on become those of f
unfoldable pub set_rows : ℕ → ℕ → ℕ → (ℕ → ℕ → ℕ) → List ℕ → List ℕ
set_rows w v n f r = table (length r) (λ i. cond (leb v (i / w) && ltb (i / w) (v + n)) (f (i / w - v) (i % w)) (get_or r i 0))

-- column k becomes f, the other columns stay
unfoldable pub set_column : ℕ → ℕ → (ℕ → ℕ) → List ℕ → List ℕ
set_column w k f r = table (length r) (λ i. cond (eqb (i % w) k) (f (i / w)) (get_or r i 0))
