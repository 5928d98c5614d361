-- A fight is a closed edge between opposite inputs, or a storage vertex connected to both values; `fights` tests for these.
use mathlib.Core.Path.{◌≡◌, refl}
use mathlib.Core.Bool.{Bool, true, ◌&&◌, ◌||◌}
use mathlib.Core.Logic.{◌⊎◌, inl, inr, ⊎_elim, ◌↔◌}
use Prim.Native.Nat.{ℕ, suc, ◌<◌}
use borrow.Author.Tests.{eqb-true, eq-eqb}
use Rattle.net.specs.declared.Edge.{Edge}
use Rattle.net.specs.declared.Net.{Net}
use Rattle.ternary.specs.Lists.{any_below}
use Rattle.net.specs.Graph.{edge_at, is_storage}
use Rattle.net.specs.declared.Kind.TheVariants.{Any}
use Rattle.net.specs.State.{usable, input_of}
use Rattle.net.specs.Walks.{Joins, Link, Walk, edge, via, Connection, Fought, Fight}
use Rattle.net.specs.Excitation.{excitation, edge_fights, vertex_fights, fights}
use Rattle.ternary.proofs.Tests.{ands, and_left, and_right, both, or_true, or_left, or_right}
use Rattle.ternary.proofs.ListLaws.{any_found, any_of}
use Rattle.net.proofs.Classes.{storage_range}
use Rattle.net.proofs.Reach.{flip}
use Rattle.net.proofs.Connected.{excitation_5}

-- from u to y backwards, then on from y
backwards : {N : Net} {on : ℕ → Bool} {y u v : ℕ} → Walk N on y u → is_storage N y ≡ true → Walk N on y v → Walk N on u v
backwards (edge l) sy p = via (flip l) sy p
backwards (via l sw r) sy p = backwards r sw (via (flip l) sy p)

module _ (N : Net) (a q : ℕ) where
  pub record EdgeFight : Type 0 where
    pub low : ℕ
    pub high : ℕ
    pub is_low : input_of N a q 0 low ≡ true
    pub is_high : input_of N a q 1 high ≡ true
    pub link : Link N (usable N a q Any) low high

  pub record VertexFight : Type 0 where
    pub vertex : ℕ
    pub storage : is_storage N vertex ≡ true
    pub fought : Fought N a q vertex

  pub fight_iff : Fight N a q ↔ (EdgeFight ⊎ VertexFight)
  fight_iff = (λ f. out f.is_low f.is_high f.joined, back)
    where
      out : {u v : ℕ} → input_of N a q 0 u ≡ true → input_of N a q 1 v ≡ true → Connection N a q Any u v → EdgeFight ⊎ VertexFight
      out {u} {v} i j (edge l) = inl (record { low = u; high = v; is_low = i; is_high = j; link = l })
      out {u} {v} i j (via {w = w} l s p) = inr (record { vertex = w; storage = s; fought = ((u, i, edge (flip l)), (v, j, p)) })

      back : EdgeFight ⊎ VertexFight → Fight N a q
      back (inl e) = record { low = e.low; high = e.high; is_low = e.is_low; is_high = e.is_high; joined = edge e.link }
      back (inr e) =
          let low = e.fought.0 in
          let high = e.fought.1 in
          record { low = low.0; high = high.0; is_low = low.1; is_high = high.1; joined = backwards low.2 e.storage high.2 }

  -- the ends of an edge, in one order
  abbrev opposite : ℕ → ℕ → Bool
  opposite u v = input_of N a q 0 u && input_of N a q 1 v

  edge-found : any_below N.edge_count (edge_fights N a q) ≡ true → EdgeFight
  unfolding edge_fights
  edge-found e = go (any_found _ N.edge_count e)
    where
      make : (i u v : ℕ) → i < N.edge_count → usable N a q Any i ≡ true → Joins (edge_at N i) u v → opposite u v ≡ true → EdgeFight
      make i u v h p j o = record { low = u; high = v; is_low = search ands; is_high = search ands; link = record { index = i; below = h; passes = p; joins = j } }

      go : (i : ℕ) × (i < N.edge_count) × (edge_fights N a q i ≡ true) → EdgeFight
      go (i, h, f) =
          let u = (edge_at N i).end1 in
          let v = (edge_at N i).end2 in
          let p = and_left (usable N a q Any i) _ f in
          ⊎_elim (make i u v h p (inl (refl, refl))) (make i v u h p (inr (refl, refl))) (or_true (opposite u v) (opposite v u) (and_right (usable N a q Any i) _ f))

  edge_test : EdgeFight → any_below N.edge_count (edge_fights N a q) ≡ true
  unfolding edge_fights
  edge_test f = any_of _ N.edge_count f.link.index f.link.below (both f.link.passes (go f.link.joins))
    where
      e : Edge
      e = edge_at N f.link.index

      go : Joins e f.low f.high → (opposite e.end1 e.end2 || opposite e.end2 e.end1) ≡ true
      go (inl h) = rw (h.0, h.1) (or_left (opposite f.low f.high) _ (both f.is_low f.is_high))
      go (inr h) = rw (h.0, h.1) (or_right (opposite f.high f.low) _ (both f.is_low f.is_high))

  vertex-found : any_below (suc N.vertex_count) (vertex_fights N a q) ≡ true → VertexFight
  unfolding vertex_fights
  vertex-found e = go (any_found (vertex_fights N a q) (suc N.vertex_count) e)
    where
      go : (y : ℕ) × (y < suc N.vertex_count) × (vertex_fights N a q y ≡ true) → VertexFight
      go (y, h, f) =
          let s : is_storage N y ≡ true = search ands in
          record { vertex = y; storage = s; fought = (excitation_5 N a q y s).0 (eqb-true (excitation N a q y) 5 (search ands)) }

  pub fought_fights : (y : ℕ) → is_storage N y ≡ true → Fought N a q y → vertex_fights N a q y ≡ true
  unfolding vertex_fights
  fought_fights y s f = both s (eq-eqb (excitation N a q y) 5 ((excitation_5 N a q y s).1 f))

  vertex_test : VertexFight → any_below (suc N.vertex_count) (vertex_fights N a q) ≡ true
  vertex_test f =
      any_of (vertex_fights N a q) (suc N.vertex_count) f.vertex (storage_range N f.vertex f.storage) (fought_fights f.vertex f.storage f.fought)

  pub fights_iff : (fights N a q ≡ true) ↔ Fight N a q
  unfolding fights
  fights_iff = (λ e. fight_iff.1 (⊎_elim (λ h. inl (edge-found h)) (λ h. inr (vertex-found h)) (or_true (any_below N.edge_count _) (any_below (suc N.vertex_count) _) e)), λ f. back (fight_iff.0 f))
    where
      back : EdgeFight ⊎ VertexFight → fights N a q ≡ true
      back (inl h) = or_left (any_below N.edge_count _) _ (edge_test h)
      back (inr h) = or_right (any_below N.edge_count _) _ (vertex_test h)
