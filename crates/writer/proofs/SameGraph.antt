-- A connection does not depend on the order of the edges, nor on the order of an edge's ends: records of the same net have the same key nodes,
-- excitations and fights.
use Prim.Native.Nat.{ℕ, suc, ◌+◌, ◌<◌}
use mathlib.Core.Path.{◌≡◌, refl, sym, ap, ap₂, subst, ◌∙◌}
use mathlib.Core.Bool.{Bool, true}
use mathlib.Core.Logic.{inl, inr}
use lib.Dec.{eqb}
use lib.ListN.{get_or}
use borrow.Author.Tests.{eqb-true, eq-eqb}
use Rattle.net.specs.declared.Edge.{Edge}
use Rattle.net.specs.declared.Net.{Net}
use Rattle.net.specs.declared.Symbol.{Symbol}
use Rattle.net.specs.declared.Symbol.TheVariants.{Constant, Letter, Vertex, Unknown}
use Rattle.net.specs.declared.Kind.{Kind}
use Rattle.net.specs.declared.Kind.TheVariants.{Any, NType, PType}
use Rattle.net.specs.Limits.{vertex_base}
use Rattle.net.specs.Symbols.{decode}
use Rattle.net.specs.Graph.{no_edge, vertex_at, edge_at, has_role, is_storage, is_key, key_index, keys, key_count, key_vertex}
use Rattle.net.specs.State.{symbol_value, value, admits, condition_of, condition, usable, input_of}
use Rattle.net.specs.Walks.{Joins, Link, Walk, edge, via, Connects, Fight}
use Rattle.net.specs.Excitation.{connected, excitation, fights}
use Rattle.net.proofs.Connected.{connected_iff}
use Rattle.net.proofs.Fights.{fights_iff}
use Rattle.ternary.specs.Bits.{bit}
use Rattle.ternary.specs.Lists.{count_below, list_below}
use Rattle.ternary.proofs.Tests.{and_left, and_right, both, same_test}
use Rattle.ternary.proofs.ListLaws.{any_found, any_of, length-table, get_or-table}
use Rattle.writer.specs.SameNet.{edges_of, turned, SameEdge, SameNet}
use Rattle.writer.proofs.SameNetLaws.{edge_onward, redrawn_at, net-back}

-- ---- edges that differ at most in the order of their ends

pub same_form : {e f : Edge} → SameEdge e f → e.form ≡ f.form
same_form (inl q) = ap (λ (g : Edge). g.form) q
same_form (inr q) = ap (λ (g : Edge). g.form) q

pub same-symbol : {e f : Edge} → SameEdge e f → e.symbol ≡ f.symbol
same-symbol (inl q) = ap (λ (g : Edge). g.symbol) q
same-symbol (inr q) = ap (λ (g : Edge). g.symbol) q

turned_joins : (e : Edge) {u v : ℕ} → Joins (turned e) u v → Joins e u v
turned_joins e (inl h) = inr (h.1, h.0)
turned_joins e (inr h) = inl (h.1, h.0)

pub same_joins : {e f : Edge} → SameEdge e f → {u v : ℕ} → Joins e u v → Joins f u v
same_joins (inl q) {u} {v} j = subst (λ (g : Edge). Joins g u v) q j
same_joins {f = f} (inr q) {u} {v} j = turned_joins f (subst (λ (g : Edge). Joins g u v) q j)

-- ---- every edge of M is one of N, and the vertices are the same

pub record Among (M N : Net) : Type 0 where
  pub vertices : M.vertices ≡ N.vertices
  pub vertex_count : M.vertex_count ≡ N.vertex_count
  pub letter_count : M.letter_count ≡ N.letter_count
  pub edges : (i : ℕ) → i < M.edge_count → (j : ℕ) × (j < N.edge_count) × SameEdge (edge_at M i) (edge_at N j)

pub same_among : {M N : Net} → SameNet M N → Among M N
unfolding edges_of
same_among {M} {N} s =
    record {
      vertices = s.vertices;
      vertex_count = s.vertex_count;
      letter_count = s.letter_count;
      edges = λ i h.
          let m = M.edge_count in
          let n = N.edge_count in
          let r = redrawn_at no_edge s.edges i (rw (length-table m (edge_at M)) h) in
          let below : r.0 < n = rw (length-table n (edge_at N)) at r.1 in
          let here : get_or (edges_of M) i no_edge ≡ edge_at M i = get_or-table m (edge_at M) i no_edge h in
          let there : get_or (edges_of N) r.0 no_edge ≡ edge_at N r.0 = get_or-table n (edge_at N) r.0 no_edge below in
          (r.0, below, edge_onward (inl (sym here)) (edge_onward r.2 (inl there)));
    }

module _ {M N : Net} (s : Among M N) where
  pub same-vertex : (v : ℕ) → vertex_at M v ≡ vertex_at N v
  unfolding vertex_at
  same-vertex v = rw s.vertices

  pub same_role : (v r : ℕ) → has_role M v r ≡ has_role N v r
  unfolding has_role vertex_at
  same_role v r = rw (s.vertices, s.vertex_count)

  pub same_storage : (v : ℕ) → is_storage M v ≡ is_storage N v
  unfolding is_storage
  same_storage v = rw (same_role v 1, same_role v 2)

  key_among_lem : (v : ℕ) → is_key M v ≡ true → is_key N v ≡ true
  unfolding is_key
  key_among_lem v e =
      let symbol : (i : ℕ) → Bool = λ i. eqb (edge_at M i).symbol (vertex_base + v) in
      let r = any_found symbol M.edge_count (and_right (is_storage M v) _ e) in
      let t = s.edges r.0 r.1 in
      both (rw (same_storage v) at (and_left (is_storage M v) _ e))
      (any_of _ N.edge_count t.0 t.1
      (eq-eqb _ _ (sym (same-symbol t.2) ∙ eqb-true _ _ r.2)))

  -- a walk of M is one of N, if edges that pass in M pass in N
  module _ {on on' : ℕ → Bool} (keep : (i j : ℕ) → SameEdge (edge_at M i) (edge_at N j) → on i ≡ true → on' j ≡ true) where
    abbrev pub link_among : {u v : ℕ} → Link M on u v → Link N on' u v
    link_among l =
        let t = s.edges l.index l.below in
        record { index = t.0; below = t.1; passes = keep l.index t.0 t.2 l.passes; joins = same_joins t.2 l.joins }

    pub walk_among : {u v : ℕ} → Walk M on u v → Walk N on' u v
    walk_among (edge l) = edge (link_among l)
    walk_among (via {w = w} l h p) = via (link_among l) (rw (same_storage w) at h) (walk_among p)

-- ---- both ways

module _ {M N : Net} (s : SameNet M N) where
  abbrev to : Among M N
  to = same_among s

  abbrev back : Among N M
  back = same_among (net-back s)

  pub same_key : (v : ℕ) → is_key M v ≡ is_key N v
  same_key v = same_test (is_key M v) (is_key N v) (key_among_lem to v) (key_among_lem back v)

  pub same_index : (v : ℕ) → key_index M v ≡ key_index N v
  unfolding key_index
  same_index v = ap (count_below v) (λ i k. same_key k i)

  pub same_keys : keys M ≡ keys N
  unfolding keys
  same_keys = ap₂ list_below (ap suc s.vertex_count) (λ i k. same_key k i)

  pub same-key_count : key_count M ≡ key_count N
  unfolding key_count
  same-key_count = rw same_keys

  pub same-key_vertex : (k : ℕ) → key_vertex M k ≡ key_vertex N k
  unfolding key_vertex
  same-key_vertex k = rw same_keys

  module _ (a q : ℕ) where
    pub same-value : (n : ℕ) → value M a q n ≡ value N a q n
    unfolding value symbol_value
    same-value n = go (decode n)
      where
        go : (x : Symbol) → symbol_value M a q x ≡ symbol_value N a q x
        go (Constant c) = refl
        go (Letter j) = refl
        go (Vertex v) = ap (bit q) (same_index v)
        go Unknown = refl

    pub same_input : (b x : ℕ) → input_of M a q b x ≡ input_of N a q b x
    unfolding input_of
    same_input b x = rw (same_role to x 0, same-vertex to x, same-value (vertex_at N x).label)

    same-condition : (e f : Edge) → SameEdge e f → condition M a q e ≡ condition N a q f
    unfolding condition
    same-condition e f h = ap₂ condition_of (same_form h) (same-value e.symbol ∙ ap (value N a q) (same-symbol h))

    same-usable : (k : Kind) (i j : ℕ) → SameEdge (edge_at M i) (edge_at N j) → usable M a q k i ≡ usable N a q k j
    unfolding usable
    same-usable k i j h = ap (admits k) (same-condition (edge_at M i) (edge_at N j) h)

module _ {M N : Net} (s : SameNet M N) (a q : ℕ) where
  pub connects_among : (k : Kind) (y b : ℕ) → Connects M a q k y b → Connects N a q k y b
  connects_among k y b (x, i, p) = (x, sym (same_input s a q b x) ∙ i, walk_among (to s) (λ i j h t. sym (same-usable s a q k i j h) ∙ t) p)

  pub fight_among : Fight M a q → Fight N a q
  fight_among f =
      record {
        low = f.low;
        high = f.high;
        is_low = sym (same_input s a q 0 f.low) ∙ f.is_low;
        is_high = sym (same_input s a q 1 f.high) ∙ f.is_high;
        joined = walk_among (to s) (λ i j h t. sym (same-usable s a q Any i j h) ∙ t) f.joined;
      }

module _ {M N : Net} (s : SameNet M N) (a q : ℕ) where
  abbrev r : SameNet N M
  r = net-back s

  module _ (y : ℕ) (sy : is_storage M y ≡ true) where
    same-connected : (k : Kind) (b : ℕ) → connected M a q k y b ≡ connected N a q k y b
    same-connected k b =
        let sn : is_storage N y ≡ true = sym (same_storage (to s) y) ∙ sy in
        same_test _ _
        (λ e. (connected_iff N a q y sn k b).1 (connects_among s a q k y b ((connected_iff M a q y sy k b).0 e)))
        (λ e. (connected_iff M a q y sy k b).1 (connects_among r a q k y b ((connected_iff N a q y sn k b).0 e)))

    -- every vertex keeps its excitation in every state
    pub same-excitation : excitation M a q y ≡ excitation N a q y
    unfolding excitation connected
    same-excitation = rw (same-connected NType 0, same-connected Any 0, same-connected PType 1, same-connected Any 1)

  pub same-fights : fights M a q ≡ fights N a q
  same-fights =
      same_test _ _
      (λ e. (fights_iff N a q).1 (fight_among s a q ((fights_iff M a q).0 e)))
      (λ e. (fights_iff M a q).1 (fight_among r a q ((fights_iff N a q).0 e)))
