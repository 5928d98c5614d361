-- Pairs (row 21): a transmission gate is two edges side by side, so each edge of a primed form takes a partner of its own.
use Rattle.std.specs.Prelude.{ℕ, suc, ◌≤◌, ◌<◌, ◌≡◌, Bool, ◌&&◌, ◌||◌, ◌⊎◌, ltb, eqb}
use Rattle.ternary.specs.Lists.{count_below}
use Rattle.net.specs.Graph.{edge_at}
use Rattle.net.specs.Walks.{Joins}
use Rattle.net.specs.declared.Edge.{Edge}
use Rattle.net.specs.declared.Net.{Net}

-- f joins u and v, in either order, and has the symbol s and the form x
pub record Between (u v s x : ℕ) (f : Edge) : Type 0 where
  pub joins : Joins f u v
  pub symbol : f.symbol ≡ s
  pub form : f.form ≡ x

-- is it so? (`between_iff`)
unfoldable pub is_between : (u v s x : ℕ) → Edge → Bool
is_between u v s x f =
    eqb f.form x
    && eqb f.symbol s
    && (eqb f.end1 u && eqb f.end2 v || eqb f.end1 v && eqb f.end2 u)

-- how many of the first n edges are so
unfoldable pub edges_between : Net → ℕ → (u v s x : ℕ) → ℕ
edges_between N n u v s x = count_below n (λ j. is_between u v s x (edge_at N j))

-- ---- the rule, over the whole sheet

-- for any two vertices and any symbol there are at most as many edges of form x as of form p
abbrev pub NoMore : Net → (x p : ℕ) → Type 0
NoMore N x p = (u v s : ℕ) → edges_between N N.edge_count u v s x ≤ edges_between N N.edge_count u v s p

-- at most as many of form 2 as of form 1, and of form 3 as of form 0
pub record Paired (N : Net) : Type 0 where
  pub two : NoMore N 2 1
  pub three : NoMore N 3 0

-- ---- its place

-- how many of the first n edges join the ends of e, with its symbol, and have the form x
abbrev pub beside : Net → Edge → (n x : ℕ) → ℕ
beside N e n x = edges_between N n e.end1 e.end2 e.symbol x

-- edge i has the form x and is one too many: the edges of that form beside it, down to its own line, are more than their partners, of form p, anywhere on the
-- sheet
pub record Exceeds (N : Net) (i x p : ℕ) : Type 0 where
  pub form : (edge_at N i).form ≡ x
  pub over : beside N (edge_at N i) N.edge_count p < beside N (edge_at N i) (suc i) x

-- the same of a primed form: 2 with its partners of form 1, or 3 with those of form 0
abbrev pub Unpaired : Net → ℕ → Type 0
Unpaired N i = Exceeds N i 2 1 ⊎ Exceeds N i 3 0

-- are these so? (`exceeds_iff`, `lacks_iff`)
unfoldable pub exceeds : Net → (i x p : ℕ) → Bool
exceeds N i x p =
    let e = edge_at N i in
    eqb e.form x && ltb (beside N e N.edge_count p) (beside N e (suc i) x)

unfoldable pub lacks_partner : Net → ℕ → Bool
lacks_partner N i = exceeds N i 2 1 || exceeds N i 3 0

-- ---- what the counts stand for: partners (`partnered_iff`)

-- edge i is in use and has the form x
pub record HasForm (N : Net) (x i : ℕ) : Type 0 where
  pub below : i < N.edge_count
  pub form : (edge_at N i).form ≡ x

-- each edge of form x can be given a partner of form p, between its own ends and of its symbol, that no other of them has
pub record Partnered (N : Net) (x p : ℕ) : Type 0 where
  pub partner : ℕ → ℕ
  pub in_use : (i : ℕ) → HasForm N x i → partner i < N.edge_count
  pub parallel : (i : ℕ) → HasForm N x i → Between (edge_at N i).end1 (edge_at N i).end2 (edge_at N i).symbol p (edge_at N (partner i))
  pub own : (i k : ℕ) → HasForm N x i → HasForm N x k → partner i ≡ partner k → i ≡ k
