-- H by look-ups: T holds ternary tables, A what each signal adds to an index; p holds the signals of the letters and v those of the key nodes.
use Rattle.std.specs.Prelude.{ℕ, zero, suc, ◌+◌, ◌*◌, ◌<◌, cond, List, ltb, length}
use Rattle.ternary.specs.Lists.{table}
use Rattle.ternary.specs.Signal.{at}
use Rattle.ternary.specs.TruthTable.{signal_kinds, ternary_digit}
use Rattle.net.specs.Limits.{most_letters, most_key_nodes}
use Rattle.lanes.specs.Grid.{cell}
use Rattle.lookups.specs.TernaryTables.{ternary_assignments}

-- what the first n signals of s add to the index of key node k, where the first signal of s is that of variable `from`
unfoldable pub added : List ℕ → ℕ → List ℕ → ℕ → ℕ → ℕ
added A from s zero k = 0
added A from s (suc n) k = added A from s n k + cell most_key_nodes A ((from + n) * signal_kinds + ternary_digit (at s n)) k

-- the index of key node k
abbrev pub index_by : List ℕ → List ℕ → List ℕ → ℕ → ℕ
index_by A p v k = added A 0 p most_letters k + added A most_letters v most_key_nodes k

-- no index lies beyond a table's row
abbrev pub Indexed : List ℕ → Type 0
Indexed A = (p v : List ℕ) (k : ℕ) → k < most_key_nodes → index_by A p v k < ternary_assignments

-- the next vector of h key nodes; 0 beyond the last one (`look_up` ties it to H)
unfoldable pub looked_up : List ℕ → List ℕ → ℕ → List ℕ → List ℕ → List ℕ
looked_up T A h p v = table most_key_nodes (λ k. cond (ltb k h) (cell ternary_assignments T k (index_by A p v k)) 0)

-- ---- the same in parts: what the letters add is the same in a whole pass, and is summed up once

-- what all signals of s add to the index of each key node
unfoldable pub sums : List ℕ → ℕ → List ℕ → List ℕ
sums A from s = table most_key_nodes (added A from s (length s))

-- the next vector where the letters add b to the indices (`next-looked_up`)
unfoldable pub next_by : List ℕ → List ℕ → ℕ → List ℕ → List ℕ → List ℕ
next_by T A h b v = table most_key_nodes (λ k. cond (ltb k h) (cell ternary_assignments T k (at b k + added A most_letters v most_key_nodes k)) 0)

-- no sum lies beyond a table's row: with one row of A more
abbrev pub Addable : List ℕ → List ℕ → ℕ → Type 0
Addable sum A row = (k : ℕ) → k < most_key_nodes → at sum k + cell most_key_nodes A row k < ternary_assignments

-- of all signals of s
abbrev pub Summable : List ℕ → ℕ → List ℕ → Type 0
Summable A from s = (k : ℕ) → k < most_key_nodes → added A from s (length s) k < ternary_assignments

-- with whatever the key nodes add
abbrev pub IndexedFrom : List ℕ → List ℕ → Type 0
IndexedFrom b A = (v : List ℕ) (k : ℕ) → k < most_key_nodes → at b k + added A most_letters v most_key_nodes k < ternary_assignments
