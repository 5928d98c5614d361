-- Two records of the same net: they differ at most in the order of their edges and in the order of an edge's ends.
use Rattle.std.specs.Prelude.{◌≡◌, ◌⊎◌, List, [], ◌∷◌}
use Rattle.ternary.specs.Lists.{table}
use Rattle.net.specs.declared.Edge.{Edge}
use Rattle.net.specs.declared.Net.{Net}
use Rattle.net.specs.Graph.{edge_at}

-- the edges in use
unfoldable pub edges_of : Net → List Edge
edges_of N = table N.edge_count (edge_at N)

-- the edge with its ends exchanged
abbrev pub turned : Edge → Edge
turned e = record { end1 = e.end2; end2 = e.end1; form = e.form; symbol = e.symbol }

abbrev pub SameEdge : Edge → Edge → Type 0
SameEdge e f = (e ≡ f) ⊎ (e ≡ turned f)

-- the same edges drawn otherwise: each one the same but for the order of its ends, or two neighbours exchanged; and one such change after another
pub data Redrawn : List Edge → List Edge → Type 0 where
  nothing : Redrawn [] []
  also : {e f : Edge} {l m : List Edge} → SameEdge e f → Redrawn l m → Redrawn (e ∷ l) (f ∷ m)
  exchanged : {e f : Edge} {l : List Edge} → Redrawn (e ∷ f ∷ l) (f ∷ e ∷ l)
  onward : {l m n : List Edge} → Redrawn l m → Redrawn m n → Redrawn l n

pub record SameNet (M N : Net) : Type 0 where
  pub vertices : M.vertices ≡ N.vertices
  pub vertex_count : M.vertex_count ≡ N.vertex_count
  pub edge_count : M.edge_count ≡ N.edge_count
  pub letter_count : M.letter_count ≡ N.letter_count
  pub edges : Redrawn (edges_of M) (edges_of N)
