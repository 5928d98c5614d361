-- Every edge of a gate net is an edge of one gate's pattern, and every edge of a pattern stands in the net.
use Prim.Native.Nat.{ℕ, zero, suc, ◌+◌, ◌-◌, ◌≤◌, ◌<◌}
use native.Mathlib.Nat.{not-suc-le-zero}
use native.Mathlib.Omega.{arith}
use mathlib.Core.Path.{◌≡◌, refl, sym, ap, ◌∙◌}
use mathlib.Core.Logic.{◌⊎◌, inl, inr}
use mathlib.Core.List.{List, ◌++◌}
use lib.Dec.{ltb}
use lib.ListN.{length, get_or, length-append, get_or-append}
use lib.Seq.{get_or-append-add}
use borrow.Author.Tests.{lt-ltb, ltb-true, ltb-false}
use Rattle.ternary.specs.Lists.{count_below}
use Rattle.ternary.proofs.Tests.{by_test}
use Rattle.ternary.proofs.ListLaws.{below_cases}
use Rattle.net.specs.declared.Edge.{Edge}
use Rattle.net.specs.Limits.{most_edges}
use Rattle.net.specs.Graph.{no_edge, edge_at}
use Rattle.sheet.proofs.PlacedLaws.{placed_at}
use Rattle.gates.specs.declared.Gate.{Gate}
use Rattle.gates.specs.Limits.{most_gates}
use Rattle.gates.specs.Gates.{gate_edges, output_at, inners_before, inner_at, edges_before, net_of_first, gate_net}
use Rattle.gates.proofs.Vertices.{edges_few}
use Rattle.gates.proofs.Patterns.{lettered, pattern, alone, place, image, pattern-length, edge-image}

module _ (G : ℕ) (gate : ℕ → Gate) where
  -- the edges of gate g
  abbrev own : ℕ → List Edge
  own g = gate_edges (output_at g) (inner_at G gate g) (gate g)

  abbrev pub place_at : ℕ → ℕ → ℕ
  place_at g u = place (output_at g) (inner_at G gate g) (gate g) u

  -- edge k of gate g, as the image of the pattern's
  abbrev pub image_at : ℕ → Edge → Edge
  image_at g e = image (output_at g) (inner_at G gate g) (gate g) e

  abbrev pub pattern_edge : ℕ → ℕ → Edge
  pattern_edge g k = get_or (pattern (gate g)) k no_edge

  located_in : (n i : ℕ) → i < length (edges_before G gate n)
      → (g : ℕ) × (g < n) × (k : ℕ) × (k < length (own g)) × (get_or (edges_before G gate n) i no_edge ≡ get_or (own g) k no_edge)
  unfolding edges_before
  located_in zero i h = absurd (not-suc-le-zero h)
  located_in (suc n) i h =
      by_test (ltb i (length (edges_before G gate n)))
      (λ t.
      let low = ltb-true i (length (edges_before G gate n)) t in
      let r = located_in n i low in
      (r.0, omega (arith, r.1), r.2, r.3, get_or-append (edges_before G gate n) (own n) no_edge i low ∙ r.4))
      (λ t.
      let from = ltb-false i (length (edges_before G gate n)) t in
      let rest = i - length (edges_before G gate n) in
      let split : length (edges_before G gate n) + rest ≡ i = omega arith in (
        n,
        omega arith,
        rest,
        omega (arith, length-append (edges_before G gate n) (own n)),
        ap (λ (j : ℕ). get_or (edges_before G gate n ++ own n) j no_edge) (sym split) ∙ get_or-append-add (edges_before G gate n) (own n) rest no_edge,
      ))

  indexed_in : (n g k : ℕ) → g < n → k < length (own g)
      → (i : ℕ) × (i < length (edges_before G gate n)) × (get_or (edges_before G gate n) i no_edge ≡ get_or (own g) k no_edge)
  unfolding edges_before
  indexed_in zero g k h l = absurd (not-suc-le-zero h)
  indexed_in (suc n) g k h l = go (indexed_in n g k) (below_cases h)
    where
      go : (g < n → k < length (own g) → (i : ℕ) × (i < length (edges_before G gate n)) × (get_or (edges_before G gate n) i no_edge ≡ get_or (own g) k no_edge))
          → (g < n) ⊎ (g ≡ n) → (i : ℕ) × (i < length (edges_before G gate n ++ own n)) × (get_or (edges_before G gate n ++ own n) i no_edge ≡ get_or (own g) k no_edge)
      go f (inl low) =
          let r = f low l in
          (r.0, rw length-append (omega (arith, r.1)), get_or-append (edges_before G gate n) (own n) no_edge r.0 r.1 ∙ r.2)
      go f (inr q) = (
        length (edges_before G gate n) + k,
        rw (length-append, ← q) (omega (arith, l)),
        get_or-append-add (edges_before G gate n) (own n) k no_edge ∙ ap (λ (j : ℕ). get_or (own j) k no_edge) (sym q),
      )

  module _ (L : ℕ) (few : G ≤ most_gates) where
    pub edge_at_lem : (i : ℕ) → i < (gate_net G gate L).edge_count → edge_at (gate_net G gate L) i ≡ get_or (edges_before G gate G) i no_edge
    unfolding edge_at net_of_first
    edge_at_lem i h =
        placed_at most_edges (λ i. get_or (edges_before G gate G) i no_edge) no_edge (length (edges_before G gate G)) i (omega (arith, edges_few G gate G))
        ∙ rw (lt-ltb i (length (edges_before G gate G)) h)

    -- edge i of the net is edge k of gate g
    abbrev pub EdgeOf : ℕ → ℕ → Type 0
    EdgeOf i g = (k : ℕ) × (k < length (pattern (gate g))) × (edge_at (gate_net G gate L) i ≡ image_at g (pattern_edge g k))

    pub located : (i : ℕ) → i < (gate_net G gate L).edge_count → (g : ℕ) × (g < G) × EdgeOf i g
    unfolding net_of_first
    located i h =
        let r = located_in G i h in
        let inside : r.2 < length (pattern (gate r.0)) = rw (← (pattern-length (output_at r.0) (inner_at G gate r.0) (gate r.0))) r.3 in
        (r.0, r.1, (r.2, inside, edge_at_lem i h ∙ r.4 ∙ edge-image (output_at r.0) (inner_at G gate r.0) (gate r.0) r.2 inside))

    pub indexed : (g k : ℕ) → g < G → k < length (pattern (gate g))
        → (i : ℕ) × (i < (gate_net G gate L).edge_count) × (edge_at (gate_net G gate L) i ≡ image_at g (pattern_edge g k))
    unfolding net_of_first
    indexed g k h l =
        let r = indexed_in G g k h (rw (pattern-length (output_at g) (inner_at G gate g) (gate g)) l) in
        (r.0, r.1, edge_at_lem r.0 r.1 ∙ r.2 ∙ edge-image (output_at g) (inner_at G gate g) (gate g) k l)

-- a gate alone has just the pattern
pub alone_edges : (γ : Gate) → (alone γ).edge_count ≡ length (pattern γ)
unfolding alone net_of_first edges_before pattern inners_before count_below
alone_edges γ = refl

pub alone-edge : (γ : Gate) (i : ℕ) → i < length (pattern γ) → edge_at (alone γ) i ≡ get_or (pattern γ) i no_edge
unfolding alone net_of_first edges_before pattern inners_before count_below
alone-edge γ i h = edge_at_lem 1 (λ _. lettered γ) 2 (omega arith) i h
