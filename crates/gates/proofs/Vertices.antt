-- The vertices of a gate net: two rails, the outputs, the inner vertices; and how many edges there are at most.
use Prim.Native.Nat.{ℕ, zero, suc, ◌+◌, ◌-◌, ◌*◌, ◌≤◌, ◌<◌}
use native.Mathlib.Omega.{arith}
use mathlib.Core.Path.{◌≡◌, refl, ◌∙◌}
use mathlib.Core.Logic.{◌⊎◌, inl, inr}
use mathlib.Core.Bool.{true, false}
use lib.Dec.{eqb, leb, ltb}
use lib.ListN.{length, length-append}
use borrow.Author.Tests.{lt-ltb, le-ltb, le-leb, lt-leb, ltb-true, ltb-false, leb-true, leb-false}
use Rattle.ternary.specs.Lists.{count_below}
use Rattle.ternary.proofs.Tests.{cond_by, by_test}
use Rattle.ternary.proofs.ListLaws.{count_mono}
use Rattle.net.specs.declared.Net.{Net}
use Rattle.net.specs.Limits.{most_vertices}
use Rattle.net.specs.Graph.{no_vertex, vertex_at, has_role, is_input}
use Rattle.net.specs.Symbols.{decode}
use Rattle.net.specs.State.{symbol_value, value, input_of}
use Rattle.sheet.proofs.PlacedLaws.{placed_at}
use Rattle.gates.specs.declared.Gate.{Gate}
use Rattle.gates.specs.declared.Gate.TheVariants.{Inverter, Nand, Nor}
use Rattle.gates.specs.Limits.{most_gates}
use Rattle.gates.specs.Gates.{gate_edges, has_inner, output, inner, output_at, inners_before, inner_at, edges_before, vertex_from, net_of_first, gate_net, vertices_before, high, first_output}

pub few_edges : (o m : ℕ) (γ : Gate) → length (gate_edges o m γ) ≤ 4
unfolding gate_edges
few_edges o m (Inverter s) = omega arith
few_edges o m (Nand s t) = omega arith
few_edges o m (Nor s t) = omega arith

pub vertex-output : (G i : ℕ) → high ≤ i → i < high + G → vertex_from G i ≡ output
vertex-output G zero h k = absurd (omega arith)
vertex-output G (suc zero) h k = absurd (omega arith)
vertex-output G (suc (suc g)) h k = rw (lt-ltb g G (omega arith))

pub vertex-inner : (G i : ℕ) → high + G ≤ i → vertex_from G i ≡ inner
vertex-inner G zero h = absurd (omega arith)
vertex-inner G (suc zero) h = absurd (omega arith)
vertex-inner G (suc (suc g)) h = rw (le-ltb g G (omega arith))

module _ (G : ℕ) (gate : ℕ → Gate) where
  pub inners_few : (n : ℕ) → inners_before G gate n ≤ n
  unfolding inners_before count_below
  inners_few zero = omega arith
  inners_few (suc n) = let h = inners_few n in cond_by (λ (c : ℕ). c ≤ suc n) (has_inner (gate n)) (λ _. omega arith) (λ _. omega arith)

  pub inners_more : (n : ℕ) → has_inner (gate n) ≡ true → inners_before G gate (suc n) ≡ suc (inners_before G gate n)
  unfolding inners_before count_below
  inners_more n h = rw (count_below, h)

  pub inners_mono : (m n : ℕ) → m ≤ n → inners_before G gate m ≤ inners_before G gate n
  unfolding inners_before
  inners_mono m n h = count_mono (λ g. has_inner (gate g)) m n h

  pub edges_few : (n : ℕ) → length (edges_before G gate n) ≤ 4 * n
  unfolding edges_before
  edges_few zero = omega arith
  edges_few (suc n) = rw length-append (omega (arith, edges_few n, few_edges (output_at n) (inner_at G gate n) (gate n)))

  module _ (L : ℕ) (few : G ≤ most_gates) where
    abbrev pub N : Net
    N = gate_net G gate L

    abbrev pub count : ℕ
    count = vertices_before G gate G

    pub vertices_few : count ≤ high + G + G
    vertices_few = omega (arith, inners_few G)

    pub vertex_at_lem : (v : ℕ) → 1 ≤ v → v ≤ count → vertex_at N v ≡ vertex_from G (v - 1)
    unfolding vertex_at net_of_first
    vertex_at_lem v from to =
        placed_at most_vertices (vertex_from G) no_vertex count (v - 1) (omega (arith, vertices_few)) ∙ rw (lt-ltb (v - 1) count (omega arith))

    role_at : (v r : ℕ) → 1 ≤ v → v ≤ count → has_role N v r ≡ eqb (vertex_from G (v - 1)).role r
    unfolding has_role net_of_first
    role_at v r from to = rw (lt-ltb 0 v from, le-leb v count to, vertex_at_lem v from to)

    pub role_low : (r : ℕ) → has_role N 1 r ≡ eqb 0 r
    role_low r = role_at 1 r (omega arith) (omega arith)

    pub role_high : (r : ℕ) → has_role N 2 r ≡ eqb 0 r
    role_high r = role_at 2 r (omega arith) (omega arith)

    pub role_output : (v r : ℕ) → first_output ≤ v → v ≤ high + G → has_role N v r ≡ eqb 2 r
    role_output v r from to = role_at v r (omega arith) (omega arith) ∙ rw (vertex-output G (v - 1) (omega arith) (omega arith))

    pub role_inner : (v r : ℕ) → output_at G ≤ v → v ≤ count → has_role N v r ≡ eqb 1 r
    role_inner v r from to = role_at v r (omega arith) to ∙ rw (vertex-inner G (v - 1) (omega arith))

    pub role_zero : (r : ℕ) → has_role N 0 r ≡ false
    unfolding has_role
    role_zero r = refl

    pub role_outside : (v r : ℕ) → count < v → has_role N v r ≡ false
    unfolding has_role net_of_first
    role_outside v r h = rw (lt-ltb 0 v (omega arith), lt-leb v count h)

    pub input_low : (a q b : ℕ) → input_of N a q b 1 ≡ eqb 0 b
    unfolding input_of value symbol_value decode
    input_low a q b = rw (role_low 0, vertex_at_lem 1 (omega arith) (omega arith))

    pub input_high : (a q b : ℕ) → input_of N a q b 2 ≡ eqb 1 b
    unfolding input_of value symbol_value decode
    input_high a q b = rw (role_high 0, vertex_at_lem 2 (omega arith) (omega arith))

    pub input_other : (a q b v : ℕ) → is_input N v ≡ false → input_of N a q b v ≡ false
    unfolding input_of
    input_other a q b v h = rw h

    -- ---- what a number of a vertex is

    pub data VertexCase (v : ℕ) : Type 0 where
      not_a_vertex : ((r : ℕ) → has_role N v r ≡ false) → VertexCase v
      a_rail : (v ≡ 1) ⊎ (v ≡ 2) → ((r : ℕ) → has_role N v r ≡ eqb 0 r) → VertexCase v
      an_output : first_output ≤ v → v ≤ high + G → ((r : ℕ) → has_role N v r ≡ eqb 2 r) → VertexCase v
      an_inner : output_at G ≤ v → v ≤ count → ((r : ℕ) → has_role N v r ≡ eqb 1 r) → VertexCase v

    pub vertex_case : (v : ℕ) → VertexCase v
    vertex_case zero = not_a_vertex role_zero
    vertex_case (suc zero) = a_rail (inl refl) role_low
    vertex_case (suc (suc zero)) = a_rail (inr refl) role_high
    vertex_case (suc (suc (suc i))) =
        let v = suc (suc (suc i)) in
        by_test (ltb i G)
        (λ t. let h = ltb-true i G t in an_output (omega arith) (omega arith) (λ r. role_output v r (omega arith) (omega arith)))
        (λ t.
        let l = ltb-false i G t in
        by_test (leb v count)
        (λ s. let h = leb-true v count s in an_inner (omega arith) h (λ r. role_inner v r (omega arith) h))
        (λ s. not_a_vertex (λ r. role_outside v r (leb-false v count s))))
