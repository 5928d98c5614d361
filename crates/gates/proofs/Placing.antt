-- Each gate of a net is the gate alone, placed: vertices have the roles of the pattern's, no two places coincide but the rails, and what touches a place is
-- an edge of that gate.
use Prim.Native.Nat.{ℕ, zero, suc, ◌+◌, ◌≤◌, ◌<◌}
use native.Mathlib.Omega.{arith}
use mathlib.Core.Path.{◌≡◌, refl, sym, ap, ◌∙◌}
use mathlib.Core.Logic.{◌⊎◌, inl, inr, ⊎_elim}
use mathlib.Core.Bool.{Bool, true, false, cond}
use lib.Dec.{eqb, ltb}
use borrow.Author.Tests.{ltb-true, ltb-false}
use Rattle.ternary.proofs.Tests.{by_test}
use Rattle.net.specs.declared.Net.{Net}
use Rattle.net.specs.Graph.{has_role, is_input, is_storage}
use Rattle.net.specs.State.{input_of}
use Rattle.gates.specs.declared.Gate.{Gate}
use Rattle.gates.specs.Limits.{most_gates}
use Rattle.gates.specs.Gates.{has_inner, output_at, inners_before, inner_at, net_of_first, gate_net, vertices_before}
use Rattle.gates.proofs.Vertices.{inners_more, inners_mono, role_low, role_high, role_output, role_inner, role_zero, role_outside, input_low, input_high, input_other}
use Rattle.gates.proofs.Patterns.{lettered, alone, alone-count, alone_inners, storage_cases, input_cases}
use Rattle.gates.proofs.Located.{place_at}

module _ (G : ℕ) (gate : ℕ → Gate) where
  -- ---- places

  -- a place is a rail or no vertex, an output, or an inner vertex
  data View (g u : ℕ) : Type 0 where
    a_rail : place_at G gate g u ≤ 2 → View g u
    an_output : u ≡ 3 → place_at G gate g u ≡ output_at g → View g u
    an_inner : u ≡ 4 → has_inner (gate g) ≡ true → place_at G gate g u ≡ inner_at G gate g → View g u

  view : (g u : ℕ) → View g u
  view g zero = a_rail (omega arith)
  view g (suc zero) = a_rail (omega arith)
  view g (suc (suc zero)) = a_rail (omega arith)
  view g (suc (suc (suc zero))) = an_output refl refl
  view g (suc (suc (suc (suc zero)))) =
      by_test (has_inner (gate g)) (λ h. an_inner refl h (rw h)) (λ h. a_rail (rw h (omega arith)))
  view g (suc (suc (suc (suc (suc u))))) = a_rail (omega arith)

  -- inner vertices rise with the gates that have one
  inner_apart : (g h : ℕ) → has_inner (gate g) ≡ true → has_inner (gate h) ≡ true → inners_before G gate g ≡ inners_before G gate h → g ≡ h
  inner_apart g h i j e =
      by_test (ltb g h) (λ t. absurd (omega (arith, below g h i (ltb-true g h t))))
      (λ t. by_test (ltb h g) (λ s. absurd (omega (arith, below h g j (ltb-true h g s)))) (λ s. omega (arith, ltb-false g h t, ltb-false h g s)))
    where
      below : (g h : ℕ) → has_inner (gate g) ≡ true → g < h → inners_before G gate g < inners_before G gate h
      below g h i l = omega (arith, inners_more G gate g i, inners_mono G gate (suc g) h l)

  -- a storage vertex's place is no other's
  pub apart : (g h u v : ℕ) → g < G → h < G → is_storage (alone (gate g)) u ≡ true → place_at G gate g u ≡ place_at G gate h v → (g ≡ h) × (u ≡ v)
  apart g h u v l m su e = go (storage_cases (gate g) u su) (view g u) (view h v)
    where
      go : (u ≡ 3) ⊎ ((u ≡ 4) × (has_inner (gate g) ≡ true)) → View g u → View h v → (g ≡ h) × (u ≡ v)
      go c (an_output p q) (a_rail r) = absurd (omega arith)
      go c (an_output p q) (an_output r s) = (omega arith, omega arith)
      go c (an_output p q) (an_inner r i s) = absurd (omega arith)
      go c (an_inner p i q) (a_rail r) = absurd (omega arith)
      go c (an_inner p i q) (an_output r s) = absurd (omega arith)
      go c (an_inner p i q) (an_inner r j s) = (inner_apart g h i j (omega arith), omega arith)
      go (inl c) (a_rail p) w = absurd (omega (arith, ap (place_at G gate g) c))
      go (inr c) (a_rail p) w = absurd (omega (arith, ap (place_at G gate g) c.0 ∙ at_inner c.1))
        where
          at_inner : has_inner (gate g) ≡ true → place_at G gate g 4 ≡ inner_at G gate g
          at_inner i = rw i

  module _ (L : ℕ) (few : G ≤ most_gates) where
    abbrev N : Net
    N = gate_net G gate L

    module _ (g : ℕ) (l : g < G) where
      abbrev at : ℕ → ℕ
      at u = place_at G gate g u

      abbrev γ : Gate
      γ = gate g

      inner-high : has_inner γ ≡ true → inner_at G gate g ≤ vertices_before G gate G
      inner-high i = omega (arith, inners_more G gate g i, inners_mono G gate (suc g) G l)

      -- ---- roles

      -- those of a gate alone
      lone_inners : (b : Bool) → has_inner γ ≡ b → 2 + 1 + inners_before 1 (λ _. lettered γ) 1 ≡ cond b 4 3
      unfolding alone net_of_first
      lone_inners b e = alone_inners γ ∙ rw e

      pub roles : (u r : ℕ) → has_role N (at u) r ≡ has_role (alone γ) u r
      unfolding alone
      roles zero r = role_zero G gate L few r ∙ sym (role_zero 1 (λ _. lettered γ) 2 (omega arith) r)
      roles (suc zero) r = role_low G gate L few r ∙ sym (role_low 1 (λ _. lettered γ) 2 (omega arith) r)
      roles (suc (suc zero)) r = role_high G gate L few r ∙ sym (role_high 1 (λ _. lettered γ) 2 (omega arith) r)
      roles (suc (suc (suc zero))) r =
          role_output G gate L few (output_at g) r (omega arith) (omega arith) ∙ sym (role_output 1 (λ _. lettered γ) 2 (omega arith) 3 r (omega arith) (omega arith))
      roles (suc (suc (suc (suc zero)))) r =
          by_test (has_inner γ)
          (λ i. rw i (role_inner G gate L few (inner_at G gate g) r (omega arith) (inner-high i)
          ∙ sym (role_inner 1 (λ _. lettered γ) 2 (omega arith) 4 r (omega arith) (omega (arith, lone_inners true i)))))
          (λ i. rw i (role_zero G gate L few r ∙ sym (role_outside 1 (λ _. lettered γ) 2 (omega arith) 4 r (omega (arith, lone_inners false i)))))
      roles (suc (suc (suc (suc (suc u))))) r =
          role_zero G gate L few r
          ∙ sym (role_outside 1 (λ _. lettered γ) 2 (omega arith) (suc (suc (suc (suc (suc u))))) r
          (by_test (has_inner γ) (λ i. omega (arith, lone_inners true i)) (λ i. omega (arith, lone_inners false i))))

      pub storage_at : (u : ℕ) → is_storage N (at u) ≡ is_storage (alone γ) u
      unfolding is_storage
      storage_at u = rw (roles u 1, roles u 2)

      lone_low : (x b : ℕ) → input_of (alone γ) x 0 b 1 ≡ eqb 0 b
      unfolding alone
      lone_low x b = input_low 1 (λ _. lettered γ) 2 (omega arith) x 0 b

      lone_high : (x b : ℕ) → input_of (alone γ) x 0 b 2 ≡ eqb 1 b
      unfolding alone
      lone_high x b = input_high 1 (λ _. lettered γ) 2 (omega arith) x 0 b

      pub input_at : (a q x b u : ℕ) → input_of N a q b (at u) ≡ input_of (alone γ) x 0 b u
      unfolding input_of
      input_at a q x b u =
          by_test (is_input (alone γ) u)
          (λ i. ⊎_elim (λ e. rw e (lower)) (λ e. rw e (higher)) (input_cases γ u i))
          (λ i. input_other G gate L few a q b (at u) (roles u 0 ∙ i) ∙ sym (lone_other i))
        where
          lower : input_of N a q b 1 ≡ input_of (alone γ) x 0 b 1
          lower = input_low G gate L few a q b ∙ sym (lone_low x b)

          higher : input_of N a q b 2 ≡ input_of (alone γ) x 0 b 2
          higher = input_high G gate L few a q b ∙ sym (lone_high x b)

          lone_other : is_input (alone γ) u ≡ false → input_of (alone γ) x 0 b u ≡ false
          lone_other i = rw i

      -- a vertex of the gate alone stands at a vertex
      pub place_range : (u : ℕ) → 1 ≤ u → u ≤ (alone γ).vertex_count → (1 ≤ at u) × (at u ≤ vertices_before G gate G)
      place_range zero from to = absurd (omega arith)
      place_range (suc zero) from to = (omega arith, omega arith)
      place_range (suc (suc zero)) from to = (omega arith, omega arith)
      place_range (suc (suc (suc zero))) from to = (omega arith, omega arith)
      place_range (suc (suc (suc (suc zero)))) from to =
          by_test (has_inner γ)
          (λ i. rw i (omega arith, inner-high i))
          (λ i. absurd (omega (arith, to, alone_inners γ ∙ ap (λ (b : Bool). cond b 4 3) i)))
      place_range (suc (suc (suc (suc (suc u))))) from to = absurd (omega (arith, to, alone-count γ))
