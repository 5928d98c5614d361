-- The net of gates whose symbols are allowed is well formed: C1, C2 and C3 hold, and no state at all has a fight.
use Prim.Native.Nat.{ℕ, ◌-◌, ◌<◌, ◌≤◌}
use native.Mathlib.Omega.{arith}
use mathlib.Core.Path.{◌≡◌, sym, ap, ◌∙◌}
use mathlib.Core.Logic.{◌⊎◌, inl, inr, ⊎_elim}
use mathlib.Core.Bool.{true}
use Rattle.ternary.proofs.Tests.{or_true, not_both}
use Rattle.ternary.proofs.ListLaws.{place_at_lem}
use Rattle.net.specs.declared.Edge.{Edge}
use Rattle.net.specs.declared.Net.{Net}
use Rattle.net.specs.Graph.{edge_at, has_role, is_input, is_storage, is_output}
use Rattle.net.specs.Walks.{Joins, Fight}
use Rattle.net.specs.Excitation.{vertex_fights}
use Rattle.net.proofs.Fights.{EdgeFight, VertexFight, fight_iff, fought_fights}
use Rattle.net.proofs.Values.{input_of_lem}
use Rattle.gates.specs.declared.Gate.{Gate}
use Rattle.gates.specs.Limits.{most_gates}
use Rattle.gates.specs.Gates.{has_inner, output_at, inners_before, gate_net}
use Rattle.gates.proofs.Vertices.{VertexCase, not_a_vertex, a_rail, an_output, an_inner, vertex_case}
use Rattle.gates.proofs.Patterns.{alone, pattern-fits, alone-output, alone-inner}
use Rattle.gates.proofs.Located.{place_at, image_at, pattern_edge, located}
use Rattle.gates.proofs.Placing.{storage_at}
use Rattle.gates.proofs.Excited.{no_vertex_fight}

module _ (G : ℕ) (gate : ℕ → Gate) (L : ℕ) (few : G ≤ most_gates) where
  abbrev N : Net
  N = gate_net G gate L

  -- ---- vertices by their roles

  -- a storage vertex has role 1 or 2
  two_roles : {R : Type 0} (v : ℕ) → is_storage N v ≡ true → (has_role N v 1 ≡ true → R) → (has_role N v 2 ≡ true → R) → R
  unfolding is_storage
  two_roles v s f g = ⊎_elim f g (or_true (has_role N v 1) _ s)

  pub no_input_storage : (v : ℕ) → is_input N v ≡ true → is_storage N v ≡ true → ⊥
  no_input_storage v i s = go (vertex_case G gate L few v)
    where
      go : VertexCase G gate L few v → ⊥
      go (not_a_vertex f) = not_both _ i (f 0)
      go (a_rail e f) = two_roles v s (λ h. not_both _ h (f 1)) (λ h. not_both _ h (f 2))
      go (an_output l h f) = not_both _ i (f 0)
      go (an_inner l h f) = not_both _ i (f 0)

  -- a storage vertex of gate g
  pub record Place (y : ℕ) : Type 0 where
    pub gate_of : ℕ
    pub below : gate_of < G
    pub vertex : ℕ
    pub storage : is_storage (alone (gate gate_of)) vertex ≡ true
    pub at : place_at G gate gate_of vertex ≡ y

  pub storage_place : (y : ℕ) → is_storage N y ≡ true → Place y
  unfolding inners_before
  storage_place y s = go (vertex_case G gate L few y)
    where
      go : VertexCase G gate L few y → Place y
      go (not_a_vertex f) = two_roles y s (λ h. absurd (not_both _ h (f 1))) (λ h. absurd (not_both _ h (f 2)))
      go (a_rail e f) = two_roles y s (λ h. absurd (not_both _ h (f 1))) (λ h. absurd (not_both _ h (f 2)))
      go (an_output l h f) = record { gate_of = y - 3; below = omega arith; vertex = 3; storage = alone-output (gate (y - 3)); at = omega arith }
      go (an_inner l h f) =
          let r = place_at_lem (λ g. has_inner (gate g)) G (y - 3 - G) (omega (arith, l, h)) in
          record {
            gate_of = r.0;
            below = r.1.below;
            vertex = 4;
            storage = alone-inner (gate r.0) r.1.passes;
            at = rw r.1.passes (omega (arith, r.1.place, l));
          }

  -- an output is that of a gate
  pub output_gate : (y : ℕ) → is_output N y ≡ true → (g : ℕ) × (g < G) × (output_at g ≡ y)
  output_gate y o = go (vertex_case G gate L few y)
    where
      go : VertexCase G gate L few y → (g : ℕ) × (g < G) × (output_at g ≡ y)
      go (not_a_vertex f) = absurd (not_both _ o (f 2))
      go (a_rail e f) = absurd (not_both _ o (f 2))
      go (an_output l h f) = (y - 3, omega arith, omega arith)
      go (an_inner l h f) = absurd (not_both _ o (f 2))

  -- ---- no fight

  pub no_fight : (a q : ℕ) → Fight N a q → ⊥
  no_fight a q f = ⊎_elim by_edge by_vertex ((fight_iff N a q).0 f)
    where
      by_edge : EdgeFight N a q → ⊥
      by_edge e =
          let r = located G gate L few e.link.index e.link.below in
          let k = r.2.0 in
          let d = pattern_edge G gate r.0 k in
          let is : edge_at N e.link.index ≡ image_at G gate r.0 d = r.2.2 in
          ends r.0 r.1 d (pattern-fits (gate r.0) k r.2.1).storage is e.link.joins
        where
          low_end : (v : ℕ) → v ≡ e.low → is_storage N v ≡ true → ⊥
          low_end v p s = no_input_storage e.low (input_of_lem N a q 0 e.low e.is_low) (rw p at s)

          high_end : (v : ℕ) → v ≡ e.high → is_storage N v ≡ true → ⊥
          high_end v p s = no_input_storage e.high (input_of_lem N a q 1 e.high e.is_high) (rw p at s)

          ends : (g : ℕ) → g < G → (d : Edge) → (is_storage (alone (gate g)) d.end1 ≡ true) ⊎ (is_storage (alone (gate g)) d.end2 ≡ true)
              → edge_at N e.link.index ≡ image_at G gate g d → Joins (edge_at N e.link.index) e.low e.high → ⊥
          ends g l d (inl s) is (inl j) = low_end _ (ap (λ (x : Edge). x.end1) (sym is) ∙ j.0) (storage_at G gate L few g l d.end1 ∙ s)
          ends g l d (inl s) is (inr j) = high_end _ (ap (λ (x : Edge). x.end1) (sym is) ∙ j.0) (storage_at G gate L few g l d.end1 ∙ s)
          ends g l d (inr s) is (inl j) = high_end _ (ap (λ (x : Edge). x.end2) (sym is) ∙ j.1) (storage_at G gate L few g l d.end2 ∙ s)
          ends g l d (inr s) is (inr j) = low_end _ (ap (λ (x : Edge). x.end2) (sym is) ∙ j.1) (storage_at G gate L few g l d.end2 ∙ s)

      by_vertex : VertexFight N a q → ⊥
      by_vertex v =
          let p = storage_place v.vertex v.storage in
          not_both (vertex_fights N a q v.vertex) (fought_fights N a q v.vertex v.storage v.fought)
          (rw p.at at (no_vertex_fight G gate L few p.gate_of p.below a q p.vertex p.storage))
