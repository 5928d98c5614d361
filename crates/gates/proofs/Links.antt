-- The links of a gate's vertices in the net are those of the gate alone.
use Prim.Native.Nat.{ℕ, ◌<◌, ◌≤◌}
use mathlib.Core.Path.{◌≡◌, refl, sym, ap, subst, ◌∙◌}
use mathlib.Core.Logic.{inl, inr}
use mathlib.Core.Bool.{Bool, true}
use lib.ListN.{length}
use Rattle.net.specs.declared.Edge.{Edge}
use Rattle.net.specs.declared.Net.{Net}
use Rattle.net.specs.Graph.{edge_at, is_storage}
use Rattle.net.specs.Walks.{Joins, Link}
use Rattle.gates.specs.declared.Gate.{Gate}
use Rattle.gates.specs.Limits.{most_gates}
use Rattle.gates.specs.Gates.{gate_net}
use Rattle.gates.proofs.Patterns.{alone, pattern}
use Rattle.gates.proofs.Located.{place_at, image_at, pattern_edge, EdgeOf, located, indexed, alone_edges, alone-edge}
use Rattle.net.proofs.Copies.{LinksKept}
use Rattle.gates.proofs.Placing.{apart}

module _ (G : ℕ) (gate : ℕ → Gate) (L : ℕ) (few : G ≤ most_gates) (g : ℕ) (l : g < G) where
  abbrev N : Net
  N = gate_net G gate L

  abbrev at : ℕ → ℕ
  at u = place_at G gate g u

  abbrev γ : Gate
  γ = gate g

  -- what touches a storage vertex of gate g is an edge of gate g
  pub touching : (i u w : ℕ) → i < N.edge_count → is_storage (alone γ) u ≡ true → Joins (edge_at N i) (at u) w → EdgeOf G gate L few i g
  touching i u w h su j = let r = located G gate L few i h in subst (EdgeOf G gate L few i) (sym (same r.0 r.1 r.2 j)) r.2
    where
      same : (m : ℕ) → m < G → EdgeOf G gate L few i m → Joins (edge_at N i) (at u) w → g ≡ m
      same m b (k, _, e) (inl j) = (apart G gate g m u (pattern_edge G gate m k).end1 l b su (sym j.0 ∙ ap (λ (x : Edge). x.end1) e)).0
      same m b (k, _, e) (inr j) = (apart G gate g m u (pattern_edge G gate m k).end2 l b su (sym j.1 ∙ ap (λ (x : Edge). x.end2) e)).0

  joins_there : (e d : Edge) {u v : ℕ} → e ≡ image_at G gate g d → Joins d u v → Joins e (at u) (at v)
  joins_there e d q (inl j) = inl (ap (λ (x : Edge). x.end1) q ∙ ap at j.0, ap (λ (x : Edge). x.end2) q ∙ ap at j.1)
  joins_there e d q (inr j) = inr (ap (λ (x : Edge). x.end1) q ∙ ap at j.0, ap (λ (x : Edge). x.end2) q ∙ ap at j.1)

  pub joins_back : (e d : Edge) {u w : ℕ} → is_storage (alone γ) u ≡ true → e ≡ image_at G gate g d → Joins e (at u) w → (v : ℕ) × (at v ≡ w) × Joins d u v
  joins_back e d {u} su q (inl j) = (
    d.end2,
    ap (λ (x : Edge). x.end2) (sym q) ∙ j.1,
    inl (sym (apart G gate g g u d.end1 l l su (sym j.0 ∙ ap (λ (x : Edge). x.end1) q)).1, refl),
  )
  joins_back e d {u} su q (inr j) = (
    d.end1,
    ap (λ (x : Edge). x.end1) (sym q) ∙ j.0,
    inr (refl, sym (apart G gate g g u d.end2 l l su (sym j.1 ∙ ap (λ (x : Edge). x.end2) q)).1),
  )

  -- for any test of edges that is the same of an edge and its image
  module _ (testM testN : Edge → Bool)
      (same : (k : ℕ) → k < length (pattern γ) → testN (image_at G gate g (pattern_edge G gate g k)) ≡ testM (pattern_edge G gate g k)) where
    pub kept : LinksKept (alone γ) N at (λ i. testM (edge_at (alone γ) i)) (λ i. testN (edge_at N i))
    kept = record { there = there; back = back }
      where
        there : {u v : ℕ} → Link (alone γ) (λ i. testM (edge_at (alone γ) i)) u v → Link N (λ i. testN (edge_at N i)) (at u) (at v)
        there link =
            let k = link.index in
            let b : k < length (pattern γ) = rw (← (alone_edges γ)) link.below in
            let r = indexed G gate L few g k l b in
            record {
              index = r.0;
              below = r.1;
              passes = ap testN r.2 ∙ same k b ∙ ap testM (sym (alone-edge γ k b)) ∙ link.passes;
              joins = joins_there (edge_at N r.0) (edge_at (alone γ) k) (r.2 ∙ ap (image_at G gate g) (sym (alone-edge γ k b))) link.joins;
            }

        back : {u w : ℕ} → is_storage (alone γ) u ≡ true → Link N (λ i. testN (edge_at N i)) (at u) w
            → (v : ℕ) × (at v ≡ w) × Link (alone γ) (λ i. testM (edge_at (alone γ) i)) u v
        back {u} {w} su link =
            let t = touching link.index u w link.below su link.joins in
            let k = t.0 in
            let r = joins_back (edge_at N link.index) (edge_at (alone γ) k) su (t.2 ∙ ap (image_at G gate g) (sym (alone-edge γ k t.1))) link.joins in (
              r.0,
              r.1,
              record {
                index = k;
                below = rw (alone_edges γ) t.1;
                passes = ap testM (alone-edge γ k t.1) ∙ sym (same k t.1) ∙ ap testN (sym t.2) ∙ link.passes;
                joins = r.2;
              },
            )
