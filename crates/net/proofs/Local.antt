-- Locality: the excitation of a storage vertex depends only on the signals of its component.
use mathlib.Core.Path.{◌≡◌, refl, sym}
use mathlib.Core.Bool.{Bool, true, false}
use mathlib.Core.Logic.{◌⊎◌, inl, inr}
use Prim.Native.Nat.{ℕ}
use Rattle.net.specs.declared.Net.{Net}
use Rattle.net.specs.Symbols.{decode, is_variable}
use Rattle.net.specs.Graph.{vertex_at, is_storage}
use Rattle.net.specs.declared.Kind.{Kind}
use Rattle.net.specs.declared.Kind.TheVariants.{Any, NType, PType}
use Rattle.net.specs.State.{value, condition, usable, input_of}
use Rattle.net.specs.Walks.{Link, Walk, edge, via, Connects}
use Rattle.net.specs.Excitation.{connected, excitation}
use Rattle.net.specs.Component.{every_edge, SameComponent, Signal, on_edge, on_input, Agree}
use Rattle.ternary.proofs.Tests.{same_test, test}
use Rattle.net.proofs.Values.{fixed_value, input_of_lem}
use Rattle.net.proofs.Connected.{connected_iff}

-- a walk to a storage vertex goes on over one more link
snoc : {N : Net} {on : ℕ → Bool} {y u w : ℕ} → Walk N on y u → is_storage N u ≡ true → Link N on u w → Walk N on y w
snoc (edge l) su k = via l su (edge k)
snoc (via l s p) su k = via l s (snoc p su k)

-- the component of y reaches over a link to a storage vertex
next : {N : Net} {y u w : ℕ} → SameComponent N y u → Link N every_edge u w → is_storage N w ≡ true → SameComponent N y w
next {N} {y} {u} {w} c l sw = record { from = c.from; to = sw; joined = inr (go c.joined) }
  where
    go : (y ≡ u) ⊎ Walk N every_edge y u → Walk N every_edge y w
    go (inl e) = rw e (edge l)
    go (inr p) = snoc p c.to l

abbrev forget : {N : Net} {on : ℕ → Bool} {u v : ℕ} → Link N on u v → Link N every_edge u v
forget l = record { index = l.index; below = l.below; passes = refl; joins = l.joins }

module _ (N : Net) (y a q a' q' : ℕ) (agree : Agree N y a q a' q') where
  -- a symbol that is a signal if it is a variable has one value under both states
  same-value : (s : ℕ) → (is_variable (decode s) ≡ true → Signal N y s) → value N a q s ≡ value N a' q' s
  same-value s f = go (test (is_variable (decode s)))
    where
      go : (is_variable (decode s) ≡ true) ⊎ (is_variable (decode s) ≡ false) → value N a q s ≡ value N a' q' s
      go (inl v) = agree s (f v)
      go (inr v) = fixed_value N a q a' q' s v

  -- an edge that touches the component has one condition under both
  link_local : (k : Kind) {u v : ℕ} → SameComponent N y u → Link N (usable N a q k) u v → Link N (usable N a' q' k) u v
  unfolding usable condition
  link_local k c l = record { index = l.index; below = l.below; passes = rw (same-value _ (on_edge c (forget l))) at l.passes; joins = l.joins }

  input_local : (b : ℕ) {u x : ℕ} → SameComponent N y u → Link N every_edge u x → input_of N a q b x ≡ true → input_of N a' q' b x ≡ true
  unfolding input_of
  input_local b {u} {x} c l i = rw (same-value (vertex_at N x).label (on_input c l (input_of_lem N a q b x i))) at i

  walk_local : (k : Kind) (b : ℕ) {u x : ℕ} → SameComponent N y u → input_of N a q b x ≡ true → Walk N (usable N a q k) u x → (input_of N a' q' b x ≡ true) × Walk N (usable N a' q' k) u x
  walk_local k b c i (edge l) = (input_local b c (forget l) i, edge (link_local k c l))
  walk_local k b c i (via l s p) = let r = walk_local k b (next c (forget l) s) i p in (r.0, via (link_local k c l) s r.1)

  connects_local : is_storage N y ≡ true → (k : Kind) (b : ℕ) → Connects N a q k y b → Connects N a' q' k y b
  connects_local sy k b (x, i, p) = let r = walk_local k b (record { from = sy; to = sy; joined = inl refl }) i p in (x, r.0, r.1)

module _ (N : Net) (y a q a' q' : ℕ) (sy : is_storage N y ≡ true) (agree : Agree N y a q a' q') where
  pub connected_local : (k : Kind) (b : ℕ) → connected N a q k y b ≡ connected N a' q' k y b
  connected_local k b =
      same_test _ _
      (λ e. (connected_iff N a' q' y sy k b).1 (connects_local N y a q a' q' agree sy k b ((connected_iff N a q y sy k b).0 e)))
      (λ e. (connected_iff N a q y sy k b).1 (connects_local N y a' q' a q (λ s g. sym (agree s g)) sy k b ((connected_iff N a' q' y sy k b).0 e)))

  pub excitation_local : excitation N a q y ≡ excitation N a' q' y
  unfolding excitation connected
  excitation_local = rw (connected_local NType 0, connected_local Any 0, connected_local PType 1, connected_local Any 1)
