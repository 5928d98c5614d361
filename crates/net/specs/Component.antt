-- Components of storage vertices, and their signals as symbol numbers: letters come before key nodes.
use Rattle.std.specs.Prelude.{Bool, true, ◌&&◌, ◌||◌, List, ◌⊎◌, ◌≡◌, ℕ, eqb}
use Rattle.net.specs.declared.Edge.{Edge}
use Rattle.net.specs.declared.Net.{Net}
use Rattle.ternary.specs.Lists.{any_below, list_below}
use Rattle.net.specs.Symbols.{decode, is_variable, symbol_bound}
use Rattle.net.specs.Graph.{vertex_at, edge_at, is_input, is_storage}
use Rattle.net.specs.State.{value}
use Rattle.net.specs.Walks.{Link, Walk}
use Rattle.net.specs.Classes.{labels, same_label, leads}

abbrev pub every_edge : ℕ → Bool
every_edge i = true

pub record SameComponent (N : Net) (y z : ℕ) : Type 0 where
  pub from : is_storage N y ≡ true
  pub to : is_storage N z ≡ true
  pub joined : (y ≡ z) ⊎ Walk N every_edge y z

-- symbol number s is a signal of the component of y: the letter or key node of an edge that touches it, or the letter of an input vertex
-- that such an edge touches (of an accepted net, an input vertex has a constant or a letter)
pub data Signal (N : Net) (y : ℕ) : ℕ → Type 0 where
  on_edge : {z w : ℕ} → SameComponent N y z → (l : Link N every_edge z w) → is_variable (decode (edge_at N l.index).symbol) ≡ true → Signal N y (edge_at N l.index).symbol
  on_input : {z x : ℕ} → SameComponent N y z → Link N every_edge z x → is_input N x ≡ true → is_variable (decode (vertex_at N x).label) ≡ true → Signal N y (vertex_at N x).label

-- two states agree on every signal of the component of y
abbrev pub Agree : Net → ℕ → ℕ → ℕ → ℕ → ℕ → Type 0
Agree N y a q a' q' = (s : ℕ) → Signal N y s → value N a q s ≡ value N a' q' s

-- The same, computed. The labels of components:
abbrev pub components : Net → List ℕ
components N = labels N every_edge N.edge_count

unfoldable pub same_component : Net → ℕ → ℕ → Bool
same_component N y z = is_storage N y && is_storage N z && same_label (components N) y z

-- x is an input vertex labelled s
unfoldable pub carries : Net → ℕ → ℕ → Bool
carries N s x = is_input N x && eqb (vertex_at N x).label s

-- an edge e that touches the component of y, by the labels t, has symbol s or touches an input vertex labelled s
unfoldable pub gives : Net → List ℕ → ℕ → ℕ → Edge → Bool
gives N t y s e =
    eqb e.symbol s && leads N t (λ x. true) y e
    || leads N t (carries N s) y e

unfoldable pub is_signal : Net → List ℕ → ℕ → ℕ → Bool
is_signal N t y s = is_storage N y && is_variable (decode s) && any_below N.edge_count (λ i. gives N t y s (edge_at N i))

-- letters rising, then key nodes rising
unfoldable pub signals : Net → ℕ → List ℕ
signals N y = let t = components N in list_below symbol_bound (is_signal N t y)
