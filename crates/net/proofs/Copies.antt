-- A net M that stands in a net N: vertex u of M stands at φ u, and each storage vertex of M has at its place the links that it has in M, and no others. Then
-- connections to input vertices, excitations and fights are those of M.
use Prim.Native.Nat.{ℕ}
use mathlib.Core.Path.{◌≡◌, refl, sym, subst, ◌∙◌}
use mathlib.Core.Bool.{Bool, true}
use Rattle.ternary.proofs.Tests.{same_test}
use Rattle.net.specs.declared.Kind.{Kind}
use Rattle.net.specs.declared.Kind.TheVariants.{Any, NType, PType}
use Rattle.net.specs.declared.Net.{Net}
use Rattle.net.specs.Graph.{is_storage}
use Rattle.net.specs.State.{usable, input_of}
use Rattle.net.specs.Walks.{Link, Walk, edge, via, Connects}
use Rattle.net.specs.Excitation.{connected, excitation, vertex_fights}
use Rattle.net.proofs.Connected.{connected_iff}

module _ (M N : Net) (φ : ℕ → ℕ) where
  -- every link of M is one of N, and a storage vertex of M has no other link in N
  pub record LinksKept (onM onN : ℕ → Bool) : Type 0 where
    pub there : {u v : ℕ} → Link M onM u v → Link N onN (φ u) (φ v)
    pub back : {u w : ℕ} → is_storage M u ≡ true → Link N onN (φ u) w → (v : ℕ) × (φ v ≡ w) × Link M onM u v

  module _ (storage : (u : ℕ) → is_storage N (φ u) ≡ is_storage M u) where
    module _ {onM onN : ℕ → Bool} (kept : LinksKept onM onN) where
      walk_there : {u v : ℕ} → Walk M onM u v → Walk N onN (φ u) (φ v)
      walk_there (edge l) = edge (kept.there l)
      walk_there (via {w = w} l s p) = via (kept.there l) (storage w ∙ s) (walk_there p)

      pub walk_back : {u y x : ℕ} → is_storage M u ≡ true → φ u ≡ y → Walk N onN y x → (v : ℕ) × (φ v ≡ x) × Walk M onM u v
      walk_back {x = x} su e (edge l) =
          let r = kept.back su (subst (λ (z : ℕ). Link N onN z x) (sym e) l) in
          (r.0, r.1, edge r.2)
      walk_back {u = u} su e (via {w = w} l s p) =
          let r = kept.back su (subst (λ (z : ℕ). Link N onN z w) (sym e) l) in
          let sv : is_storage M r.0 ≡ true = sym (storage r.0) ∙ rw r.1 s in
          let t = walk_back {u = r.0} sv r.1 p in
          (t.0, t.1, via r.2 sv t.2)

    -- a state of each under which the same edges may be used and input vertices have the same values
    module _ (aM qM aN qN : ℕ) (input : (b u : ℕ) → input_of N aN qN b (φ u) ≡ input_of M aM qM b u)
        (kept : (k : Kind) → LinksKept (usable M aM qM k) (usable N aN qN k)) where
      connected_copy : (k : Kind) (b u : ℕ) → is_storage M u ≡ true → connected N aN qN k (φ u) b ≡ connected M aM qM k u b
      connected_copy k b u su =
          let sN : is_storage N (φ u) ≡ true = storage u ∙ su in
          same_test _ _ (λ e. (connected_iff M aM qM u su k b).1 (back ((connected_iff N aN qN (φ u) sN k b).0 e)))
          (λ e. (connected_iff N aN qN (φ u) sN k b).1 (there ((connected_iff M aM qM u su k b).0 e)))
        where
          there : Connects M aM qM k u b → Connects N aN qN k (φ u) b
          there (x, i, p) = (φ x, input b x ∙ i, walk_there (kept k) p)

          back : Connects N aN qN k (φ u) b → Connects M aM qM k u b
          back (x, i, p) = let r = walk_back (kept k) su refl p in (r.0, sym (input b r.0) ∙ rw r.1 i, r.2)

      pub excitation_copy : (u : ℕ) → is_storage M u ≡ true → excitation N aN qN (φ u) ≡ excitation M aM qM u
      unfolding excitation connected
      excitation_copy u su = rw (connected_copy NType 0 u su, connected_copy Any 0 u su, connected_copy PType 1 u su, connected_copy Any 1 u su)

      pub fights_copy : (u : ℕ) → is_storage M u ≡ true → vertex_fights N aN qN (φ u) ≡ vertex_fights M aM qM u
      unfolding vertex_fights
      fights_copy u su = rw (storage u, excitation_copy u su)
