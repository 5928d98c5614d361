-- A component of a gate net is the storage vertices of one gate, and its signals are among the gate's two symbols.
use Prim.Native.Nat.{ℕ, ◌<◌, ◌≤◌}
use native.Mathlib.Omega.{arith}
use mathlib.Core.Path.{◌≡◌, refl, sym, ◌∙◌}
use mathlib.Core.Logic.{◌⊎◌, inl, inr}
use mathlib.Core.Bool.{Bool, true, false}
use lib.Dec.{ltb}
use lib.ListN.{length, get_or}
use borrow.Author.Tests.{ltb-true, ltb-false}
use Rattle.ternary.specs.Lists.{list_below}
use Rattle.ternary.proofs.Tests.{by_test, not_both}
use Rattle.ternary.proofs.ListLaws.{place_at_lem, length_list, list_rising}
use Rattle.net.specs.declared.Net.{Net}
use Rattle.net.specs.Symbols.{decode, is_variable, symbol_bound}
use Rattle.net.specs.Graph.{vertex_at, is_input, is_storage}
use Rattle.net.specs.Walks.{Walk}
use Rattle.net.specs.Component.{every_edge, SameComponent, Signal, on_edge, on_input, components, is_signal, signals}
use Rattle.net.specs.SignalTable.{signal_count}
use Rattle.net.proofs.Components.{is_signal_iff}
use Rattle.gates.specs.declared.Gate.{Gate}
use Rattle.gates.specs.Limits.{most_gates}
use Rattle.gates.specs.Gates.{gate_net}
use Rattle.gates.proofs.Vertices.{vertex_at_lem, VertexCase, not_a_vertex, a_rail, an_output, an_inner, vertex_case}
use Rattle.gates.proofs.Patterns.{alone, first_symbol, second_symbol, symbol_for, pattern-fits, letter1, letter2}
use Rattle.gates.proofs.Located.{place_at, pattern_edge}
use Rattle.net.proofs.Copies.{LinksKept, walk_back}
use Rattle.gates.proofs.Placing.{storage_at}
use Rattle.gates.proofs.Links.{touching, kept}
use Rattle.gates.proofs.WholeNet.{storage_place}

-- a rising list of numbers that are each one of two has at most two elements
two_at_most : (p : ℕ → Bool) (n s t : ℕ) → ((k : ℕ) → p k ≡ true → (k ≡ s) ⊎ (k ≡ t)) → length (list_below n p) ≤ 2
two_at_most p n s t f =
    by_test (ltb 2 (length (list_below n p)))
    (λ h.
    let more = ltb-true 2 (length (list_below n p)) h in
    absurd (clash (at 0 (omega arith)) (at 1 (omega arith)) (at 2 more) (list_rising p n 0 1 (omega arith) (omega arith)) (list_rising p n 1 2 (omega arith) more)))
    (ltb-false 2 (length (list_below n p)))
  where
    at : (i : ℕ) → i < length (list_below n p) → (get_or (list_below n p) i 0 ≡ s) ⊎ (get_or (list_below n p) i 0 ≡ t)
    at i h =
        let r = place_at_lem p n i (rw (length_list p n) at h) in
        rw r.1.reads (f r.0 r.1.passes)

    clash : {x y z : ℕ} → (x ≡ s) ⊎ (x ≡ t) → (y ≡ s) ⊎ (y ≡ t) → (z ≡ s) ⊎ (z ≡ t) → x < y → y < z → ⊥
    clash (inl a) (inl b) c l m = omega arith
    clash (inl a) (inr b) (inl c) l m = omega arith
    clash (inl a) (inr b) (inr c) l m = omega arith
    clash (inr a) (inl b) (inl c) l m = omega arith
    clash (inr a) (inl b) (inr c) l m = omega arith
    clash (inr a) (inr b) c l m = omega arith

module _ (G : ℕ) (gate : ℕ → Gate) (L : ℕ) (few : G ≤ most_gates) where
  abbrev N : Net
  N = gate_net G gate L

  -- an input vertex carries a constant
  input_fixed : (x : ℕ) → is_input N x ≡ true → is_variable (decode (vertex_at N x).label) ≡ false
  unfolding decode
  input_fixed x i = go (vertex_case G gate L few x)
    where
      go : VertexCase G gate L few x → is_variable (decode (vertex_at N x).label) ≡ false
      go (not_a_vertex f) = absurd (not_both _ i (f 0))
      go (a_rail (inl e) f) = rw (e, vertex_at_lem G gate L few 1 (omega arith) (omega arith))
      go (a_rail (inr e) f) = rw (e, vertex_at_lem G gate L few 2 (omega arith) (omega arith))
      go (an_output l h f) = absurd (not_both _ i (f 0))
      go (an_inner l h f) = absurd (not_both _ i (f 0))

  module _ (g : ℕ) (l : g < G) (u : ℕ) (su : is_storage (alone (gate g)) u ≡ true) where
    abbrev at : ℕ → ℕ
    at v = place_at G gate g v

    every : LinksKept (alone (gate g)) N at every_edge every_edge
    every = kept G gate L few g l (λ _. true) (λ _. true) (λ _ _. refl)

    -- the component is the gate's
    component : (z : ℕ) → SameComponent N (at u) z → (v : ℕ) × (is_storage (alone (gate g)) v ≡ true) × (at v ≡ z)
    component z c = go c.joined
      where
        go : (at u ≡ z) ⊎ Walk N every_edge (at u) z → (v : ℕ) × (is_storage (alone (gate g)) v ≡ true) × (at v ≡ z)
        go (inl e) = (u, su, e)
        go (inr p) =
            let r = walk_back (alone (gate g)) N at (storage_at G gate L few g l) every su refl p in
            (r.0, sym (storage_at G gate L few g l r.0) ∙ rw r.1 c.to, r.1)

    of_gate : (s : ℕ) → (s ≡ letter1) ⊎ (s ≡ letter2) → (symbol_for (gate g) s ≡ first_symbol (gate g)) ⊎ (symbol_for (gate g) s ≡ second_symbol (gate g))
    of_gate s (inl e) = inl (rw e)
    of_gate s (inr e) = inr (rw e)

    signal_symbol : {s : ℕ} → Signal N (at u) s → (s ≡ first_symbol (gate g)) ⊎ (s ≡ second_symbol (gate g))
    signal_symbol (on_edge {z = z} {w = w} c k v) =
        let r = component z c in
        let t = touching G gate L few g l k.index r.0 w k.below r.1 (rw r.2 k.joins) in
        rw t.2 (of_gate (pattern_edge G gate g t.0).symbol (pattern-fits (gate g) t.0 t.1).letter)
    signal_symbol (on_input {x = x} c k i v) = absurd (not_both _ v (input_fixed x i))

  pub few_signals : (y : ℕ) → is_storage N y ≡ true → signal_count N y ≤ 2
  unfolding signal_count signals
  few_signals y s =
      let p = storage_place G gate L few y s in
      let γ = gate p.gate_of in
      two_at_most (is_signal N (components N) y) symbol_bound (first_symbol γ) (second_symbol γ)
      (λ k t. signal_symbol p.gate_of p.below p.vertex p.storage (rw p.at ((is_signal_iff N y k).0 t)))
