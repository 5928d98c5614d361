-- Edges as numbers, for the code that counts pairs (row 21). Edges in range have one number exactly if they join the same two vertices and have the same symbol
-- and form (`number-between`), so one test compares two of them.
use Rattle.std.specs.Prelude.{ℕ, suc, ◌+◌, ◌-◌, ◌*◌, ◌%◌, ◌≤◌, ◌<◌, Bool, cond, ◌&&◌, ◌||◌, List, leb, ltb, eqb, get_or}
use Rattle.ternary.specs.Lists.{table, count_below}
use Rattle.net.specs.Limits.{most_vertices, most_edges}
use Rattle.net.specs.Symbols.{symbol_bound}
use Rattle.net.specs.Graph.{edge_at}
use Rattle.net.specs.declared.Edge.{Edge}
use Rattle.net.specs.declared.Net.{Net}

-- forms are below this number
abbrev pub form_bound : ℕ
form_bound = 4

-- an edge whose parts fit into its number, as every edge that is allowed
pub record InRange (e : Edge) : Type 0 where
  pub end1 : e.end1 ≤ most_vertices
  pub end2 : e.end2 ≤ most_vertices
  pub symbol : e.symbol < symbol_bound
  pub form : e.form < form_bound

-- two ends, a symbol and a form as the digits of one number
abbrev pub digits : (u v s x : ℕ) → ℕ
digits u v s x = ((u * suc most_vertices + v) * symbol_bound + s) * form_bound + x

-- the same with the lower end first
unfoldable pub number_of : (u v s x : ℕ) → ℕ
number_of u v s x = cond (leb u v) (digits u v s x) (digits v u s x)

abbrev pub edge_number : Edge → ℕ
edge_number e = number_of e.end1 e.end2 e.symbol e.form

-- those of a record; 0 at the places that are not in use
unfoldable pub edge_numbers : Net → List ℕ
edge_numbers N = table most_edges (λ j. cond (ltb j N.edge_count) (edge_number (edge_at N j)) 0)

-- how often a number stands among the first n of a list
unfoldable pub times_among : List ℕ → ℕ → ℕ → ℕ
times_among l n m = count_below n (λ j. eqb (get_or l j 0) m)

-- `exceeds` and `lacks_partner` by the numbers of n edges
unfoldable pub exceeds_by : List ℕ → (n i x p : ℕ) → Bool
exceeds_by l n i x p =
    let m = get_or l i 0 in
    eqb (m % form_bound) x && ltb (times_among l n (m - x + p)) (times_among l (i + 1) m)

unfoldable pub lacks_by : List ℕ → (n i : ℕ) → Bool
lacks_by l n i = exceeds_by l n i 2 1 || exceeds_by l n i 3 0
