-- What the code keeps of a net in arrays of bytes: an entry for each vertex number from 0, or for each symbol.
use Rattle.std.specs.Prelude.{ℕ, suc, ◌≤◌, ◌<◌, Bool, cond, ◌&&◌, List, ◌≡◌, eqb, get_or, set, take}
use Rattle.std.proofs.Math.Option.{none, some}
use Rattle.ternary.specs.Bits.{digit}
use Rattle.ternary.specs.Lists.{table, least_below}
use Rattle.net.specs.declared.Net.{Net}
use Rattle.net.specs.declared.Symbol.{Symbol}
use Rattle.net.specs.declared.Symbol.TheVariants.{Constant, Letter, Vertex, Unknown}
use Rattle.net.specs.Limits.{most_vertices, most_edges}
use Rattle.net.specs.Graph.{vertex_at, edge_at, is_input, is_storage, is_output, is_key}
use Rattle.net.specs.Symbols.{decode, is_variable, symbol_bound}
use Rattle.net.specs.Classes.{classes, inner, same_label}
use Rattle.net.specs.Component.{components, is_signal}

-- the record fits its arrays, and the edges in use have their ends in a table of vertices
pub record Readable (N : Net) : Type 0 where
  pub vertices : N.vertex_count ≤ most_vertices
  pub edges : N.edge_count ≤ most_edges
  pub first_end : (i : ℕ) → i < N.edge_count → (edge_at N i).end1 ≤ most_vertices
  pub second_end : (i : ℕ) → i < N.edge_count → (edge_at N i).end2 ≤ most_vertices

-- 1 at each storage vertex
unfoldable pub storage_flags : Net → List ℕ
storage_flags N = table (suc most_vertices) (λ v. digit (is_storage N v))

-- 1 at each output
unfoldable pub output_flags : Net → List ℕ
output_flags N = table (suc most_vertices) (λ v. digit (is_output N v))

-- the components' labels; those of the vertices in use come first, as `components` has them
unfoldable pub component_labels : Net → List ℕ
component_labels N = classes (suc most_vertices) (λ i. (edge_at N i).end1) (λ i. (edge_at N i).end2) (λ i. inner N (edge_at N i)) N.edge_count

-- the vertex that a symbol stands for; 0, which is no vertex, if it stands for another thing
abbrev pub vertex_of : Symbol → ℕ
vertex_of (Constant c) = 0
vertex_of (Letter j) = 0
vertex_of (Vertex v) = v
vertex_of Unknown = 0

-- 1 at each key node
unfoldable pub key_flags : Net → List ℕ
key_flags N = table (suc most_vertices) (λ v. digit (is_key N v))

-- the tables that a net's functions share: flags of storage vertices, and labels that begin with the components'
pub record Prepared (N : Net) (storage labels : List ℕ) : Type 0 where
  pub readable : Readable N
  pub flags : storage ≡ storage_flags N
  pub labelled : take (suc N.vertex_count) labels ≡ components N

-- by tables of storage flags and of labels: x is a storage vertex with the label of y
abbrev pub is_member : List ℕ → List ℕ → ℕ → ℕ → Bool
is_member storage labels y x = eqb (get_or storage x 0) 1 && same_label labels y x

-- the lowest such x below y; y itself where there is none
unfoldable pub lowest_member : List ℕ → List ℕ → ℕ → ℕ
lowest_member storage labels y = elim (least_below y (is_member storage labels y)) [ none ↦ y | some x ↦ x ]

-- the label of each input vertex; elsewhere 0, a constant's symbol
unfoldable pub input_labels : Net → List ℕ
input_labels N = table (suc most_vertices) (λ x. cond (is_input N x) (vertex_at N x).label 0)

-- flags by symbol number: a variable's is set, and a constant's is not
unfoldable pub mark_symbol : ℕ → List ℕ → List ℕ
mark_symbol s flags = cond (is_variable (decode s)) (set flags s 1) flags

-- what one end of an edge adds: if it belongs to the component, the edge's symbol s and the label l at the other end
unfoldable pub mark_end : Bool → ℕ → ℕ → List ℕ → List ℕ
mark_end member s l flags = cond member (mark_symbol l (mark_symbol s flags)) flags

-- 1 at each signal of the component of y, by symbol number
unfoldable pub signal_flags : Net → ℕ → List ℕ
signal_flags N y = table symbol_bound (λ s. digit (is_signal N (components N) y s))
