-- A fight of one edge is between two input vertices, and local to them and the edge. A vertex's fight is its excitation 5, and as local as that.
use Prim.Native.Nat.{ℕ}
use mathlib.Core.Path.{◌≡◌}
use mathlib.Core.Bool.{true, ◌&&◌}
use mathlib.Core.Logic.{⊎_elim}
use Rattle.net.specs.declared.Net.{Net}
use Rattle.net.specs.declared.Kind.TheVariants.{Any}
use Rattle.net.specs.Graph.{vertex_at, edge_at, is_input}
use Rattle.net.specs.State.{value, condition, usable, input_of}
use Rattle.net.specs.Excitation.{edge_fights}
use Rattle.ternary.proofs.Tests.{and_left, and_right, or_true}
use Rattle.net.proofs.Values.{input_of_lem}

-- an edge fights only between two input vertices
pub fighting_ends : (N : Net) (a q i : ℕ) → edge_fights N a q i ≡ true → (is_input N (edge_at N i).end1 ≡ true) × (is_input N (edge_at N i).end2 ≡ true)
unfolding edge_fights
fighting_ends N a q i e = ⊎_elim
    (λ o. (input_of_lem N a q 0 u (and_left (input_of N a q 0 u) _ o), input_of_lem N a q 1 v (and_right (input_of N a q 0 u) _ o)))
    (λ o. (input_of_lem N a q 1 u (and_right (input_of N a q 0 v) _ o), input_of_lem N a q 0 v (and_left (input_of N a q 0 v) _ o)))
    (or_true (input_of N a q 0 u && input_of N a q 1 v) _ (and_right (usable N a q Any i) _ e))
  where
    u : ℕ
    u = (edge_at N i).end1

    v : ℕ
    v = (edge_at N i).end2

module _ (N : Net) (a q a' q' : ℕ) where
  -- whether edge i fights depends only on its symbol and on the labels of its ends
  pub edge_fight_local : (i : ℕ)
      → value N a q (edge_at N i).symbol ≡ value N a' q' (edge_at N i).symbol
      → value N a q (vertex_at N (edge_at N i).end1).label ≡ value N a' q' (vertex_at N (edge_at N i).end1).label
      → value N a q (vertex_at N (edge_at N i).end2).label ≡ value N a' q' (vertex_at N (edge_at N i).end2).label
      → edge_fights N a q i ≡ edge_fights N a' q' i
  unfolding edge_fights usable condition input_of
  edge_fight_local i s u v = rw (s, u, v)
