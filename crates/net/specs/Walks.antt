-- Walks in a net: the inductive definitions of connection and fight.
use Rattle.std.specs.Prelude.{Bool, true, ◌⊎◌, ◌≡◌, ℕ, ◌<◌}
use Rattle.net.specs.declared.Edge.{Edge}
use Rattle.net.specs.declared.Net.{Net}
use Rattle.net.specs.Graph.{edge_at, is_input, is_storage}
use Rattle.net.specs.declared.Kind.{Kind}
use Rattle.net.specs.declared.Kind.TheVariants.{Any, NType, PType}
use Rattle.net.specs.State.{usable, input_of}

-- e joins u and v, in either order
abbrev pub Joins : Edge → ℕ → ℕ → Type 0
Joins e u v = ((e.end1 ≡ u) × (e.end2 ≡ v)) ⊎ ((e.end1 ≡ v) × (e.end2 ≡ u))

-- an edge whose index passes the test `on` joins u and v
pub record Link (N : Net) (on : ℕ → Bool) (u v : ℕ) : Type 0 where
  pub index : ℕ
  pub below : index < N.edge_count
  pub passes : on index ≡ true
  pub joins : Joins (edge_at N index) u v

-- at least one edge, each passing `on`; the inner vertices are storage vertices. A walk may come back to a vertex: it leads where a path leads.
pub data Walk (N : Net) (on : ℕ → Bool) : ℕ → ℕ → Type 0 where
  edge : {u v : ℕ} → Link N on u v → Walk N on u v
  via : {u w v : ℕ} → Link N on u w → is_storage N w ≡ true → Walk N on w v → Walk N on u v

abbrev pub Connection : Net → ℕ → ℕ → Kind → ℕ → ℕ → Type 0
Connection N a q k u v = Walk N (usable N a q k) u v

-- y has a connection of kind k to an input vertex of value b
abbrev pub Connects : Net → ℕ → ℕ → Kind → ℕ → ℕ → Type 0
Connects N a q k y b = (x : ℕ) × (input_of N a q b x ≡ true) × Connection N a q k y x

-- ---- excitation in the words of documents 01 and 02; in no such case it is 2 (`excitation_0` to `excitation_5` tie them to the value)

-- 0: an n-connection to an input vertex of value 0 and no connection to one of value 1
abbrev pub ExcitedTo0 : Net → ℕ → ℕ → ℕ → Type 0
ExcitedTo0 N a q y = Connects N a q NType y 0 × (¬ Connects N a q Any y 1)

-- 1: a p-connection to an input vertex of value 1 and no connection to one of value 0
abbrev pub ExcitedTo1 : Net → ℕ → ℕ → ℕ → Type 0
ExcitedTo1 N a q y = Connects N a q PType y 1 × (¬ Connects N a q Any y 0)

-- 3: no connection to any input vertex
abbrev pub Floating : Net → ℕ → ℕ → ℕ → Type 0
Floating N a q y = ¬ ((x : ℕ) × (is_input N x ≡ true) × Connection N a q Any y x)

-- 5: connections to input vertices of both values
abbrev pub Fought : Net → ℕ → ℕ → ℕ → Type 0
Fought N a q y = Connects N a q Any y 0 × Connects N a q Any y 1

-- a connection between input vertices of values 0 and 1; one edge can be a fight
pub record Fight (N : Net) (a q : ℕ) : Type 0 where
  pub low : ℕ
  pub high : ℕ
  pub is_low : input_of N a q 0 low ≡ true
  pub is_high : input_of N a q 1 high ≡ true
  pub joined : Connection N a q Any low high
