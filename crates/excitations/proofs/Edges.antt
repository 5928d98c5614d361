-- Edges in lanes: the ends of an edge, and that an edge is on in a lane exactly if it is usable in the state of either storage vertex that it touches.
use Prim.Native.Nat.{ℕ, ◌<◌}
use mathlib.Core.Path.{◌≡◌, refl, sym, subst, ◌∙◌}
use mathlib.Core.Bool.{true, false, ◌&&◌}
use mathlib.Core.Logic.{inl, inr, ◌↔◌}
use native.Mathlib.Omega.{arith}
use lib.Dec.{ltb}
use borrow.Author.Tests.{lt-ltb}
use Rattle.ternary.specs.Bits.{digit}
use Rattle.ternary.proofs.Tests.{by_test}
use Rattle.ternary.proofs.BitLaws.{digit_iff}
use Rattle.net.specs.declared.Edge.{Edge}
use Rattle.net.specs.declared.Net.{Net}
use Rattle.net.specs.declared.Kind.{Kind}
use Rattle.net.specs.Limits.{most_edges}
use Rattle.net.specs.Graph.{edge_at, is_storage}
use Rattle.net.specs.State.{usable}
use Rattle.net.specs.Walks.{Joins, edge}
use Rattle.net.specs.Component.{SameComponent}
use Rattle.net.specs.SignalTable.{spread_input, spread_keys}
use Rattle.net.specs.Tables.{Readable}
use Rattle.lanes.specs.Lanes.{assignments, lane}
use Rattle.lanes.proofs.GridLaws.{grid-cell}
use Rattle.excitations.specs.Conditions.{owner, other, usable_at, usable_lanes}
use Rattle.excitations.proofs.SameState.{input_same, keys-same}

module _ (N : Net) where
  -- ---- the two ends

  owner-first : (e : Edge) → is_storage N e.end1 ≡ true → (owner N e ≡ e.end1) × (other N e ≡ e.end2)
  unfolding owner other
  owner-first e s = (rw s, rw s)

  owner-second : (e : Edge) → is_storage N e.end1 ≡ false → (owner N e ≡ e.end2) × (other N e ≡ e.end1)
  unfolding owner other
  owner-second e s = (rw s, rw s)

  pub owner_joins : (e : Edge) → Joins e (owner N e) (other N e)
  owner_joins e = by_test (is_storage N e.end1)
      (λ s. let o = owner-first e s in inl (sym o.0, sym o.1))
      (λ s. let o = owner-second e s in inr (sym o.1, sym o.0))

  -- a storage vertex joined to a vertex that is none is the owner
  pub owner_of : (e : Edge) (u x : ℕ) → Joins e u x → is_storage N u ≡ true → is_storage N x ≡ false → (owner N e ≡ u) × (other N e ≡ x)
  owner_of e u x (inl h) su sx = let o = owner-first e (rw h.0 su) in (o.0 ∙ h.0, o.1 ∙ h.1)
  owner_of e u x (inr h) su sx = let o = owner-second e (rw h.0 sx) in (o.0 ∙ h.1, o.1 ∙ h.0)

  pub itself : (y : ℕ) → is_storage N y ≡ true → SameComponent N y y
  itself y s = record { from = s; to = s; joined = inl refl }

  -- the storage vertices that an edge joins are of one component
  pub joined_component : (i u v : ℕ) → i < N.edge_count → Joins (edge_at N i) u v → is_storage N u ≡ true → is_storage N v ≡ true → SameComponent N u v
  joined_component i u v h j su sv = record { from = su; to = sv; joined = inr (edge (record { index = i; below = h; passes = refl; joins = j })) }

  module _ (i u v : ℕ) (h : i < N.edge_count) (j : Joins (edge_at N i) u v) (su : is_storage N u ≡ true) where
    pub owner_component : SameComponent N u (owner N (edge_at N i))
    owner_component = go j
      where
        go : Joins (edge_at N i) u v → SameComponent N u (owner N (edge_at N i))
        go (inl e) = subst (SameComponent N u) (sym ((owner-first (edge_at N i) (rw e.0 su)).0 ∙ e.0)) (itself u su)
        go (inr e) = by_test (is_storage N v)
            (λ sv. subst (SameComponent N u) (sym ((owner-first (edge_at N i) (rw e.0 sv)).0 ∙ e.0)) (joined_component i u v h j su sv))
            (λ sv. subst (SameComponent N u) (sym ((owner-second (edge_at N i) (rw e.0 sv)).0 ∙ e.1)) (itself u su))

    -- the edge is usable at an assignment as it is in the state of u
    pub usable-from : (k : Kind) (w : ℕ) → usable_at N k i w ≡ usable N (spread_input N u w) (spread_keys N u w) k i
    unfolding usable_at
    usable-from k w = let c = owner_component in rw (c.to, input_same c w, keys-same c w)

  -- ---- lanes

  pub on_read : Readable N → (k : Kind) (i w : ℕ) → i < N.edge_count → w < assignments → lane (usable_lanes N k) i w ≡ digit (usable_at N k i w)
  unfolding usable_lanes
  on_read readable k i w h l =
      grid-cell assignments most_edges (λ i w. digit (ltb i N.edge_count && usable_at N k i w)) i w (omega (arith, readable.edges)) l
      ∙ rw (lt-ltb i N.edge_count h)

  pub on_iff : Readable N → (k : Kind) (i w u v : ℕ) → i < N.edge_count → w < assignments → Joins (edge_at N i) u v → is_storage N u ≡ true
      → (lane (usable_lanes N k) i w ≡ 1) ↔ (usable N (spread_input N u w) (spread_keys N u w) k i ≡ true)
  on_iff readable k i w u v h l j su =
      rw (on_read readable k i w h l, usable-from i u v h j su k w) (digit_iff (usable N (spread_input N u w) (spread_keys N u w) k i))
