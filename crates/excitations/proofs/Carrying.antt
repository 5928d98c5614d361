-- Connections in lanes: a vertex that an edge drives has one, and an edge that is on carries one from either end to the other.
use Prim.Native.Nat.{ℕ, ◌<◌}
use mathlib.Core.Path.{◌≡◌, subst}
use mathlib.Core.Bool.{Bool, true, false, ◌&&◌}
use lib.Dec.{eqb}
use borrow.Author.Tests.{eqb-true, eq-eqb}
use Rattle.ternary.proofs.Tests.{and_left, and_right, both, fails, not_both}
use Rattle.ternary.proofs.ListLaws.{any_found, any_of}
use Rattle.net.specs.declared.Net.{Net}
use Rattle.net.specs.declared.Kind.{Kind}
use Rattle.net.specs.Graph.{edge_at, is_input, is_storage}
use Rattle.net.specs.State.{usable, input_of}
use Rattle.net.specs.Walks.{Joins, Link, edge, via, Connects}
use Rattle.net.specs.SignalTable.{spread_input, spread_keys}
use Rattle.net.specs.Tables.{Readable}
use Rattle.net.proofs.Values.{input_of_lem}
use Rattle.net.proofs.Connected.{connected_iff}
use Rattle.net.proofs.SignalLists.{component_sym}
use Rattle.lanes.specs.Lanes.{assignments, lane}
use Rattle.excitations.specs.Conditions.{owner, other, usable_lanes}
use Rattle.excitations.specs.Connections.{connected_at}
use Rattle.excitations.specs.Sweeps.{drives, driven_at}
use Rattle.excitations.proofs.OwnerLaws.{storage_no_input}
use Rattle.excitations.proofs.SameState.{input_same, keys-same}
use Rattle.excitations.proofs.Edges.{owner_joins, owner_of, joined_component, on_iff}

module _ (N : Net) (k : Kind) (b w : ℕ) where
  -- y has a connection in its own state
  abbrev pub Reaches : ℕ → Type 0
  Reaches y = Connects N (spread_input N y w) (spread_keys N y w) k y b

  pub connected_storage : (y : ℕ) → connected_at N k b y w ≡ true → is_storage N y ≡ true
  unfolding connected_at
  connected_storage y e = and_left (is_storage N y) _ e

  pub connected-reaches : (y : ℕ) → connected_at N k b y w ≡ true → Reaches y
  unfolding connected_at
  connected-reaches y e = (connected_iff N _ _ y (connected_storage y e) k b).0 (and_right (is_storage N y) _ e)

  pub reaches-connected : (y : ℕ) → is_storage N y ≡ true → Reaches y → connected_at N k b y w ≡ true
  unfolding connected_at
  reaches-connected y sy c = both sy ((connected_iff N _ _ y sy k b).1 c)

  module _ (readable : Readable N) (l : w < assignments) where
    -- edge i is on
    abbrev On : ℕ → Type 0
    On i = lane (usable_lanes N k) i w ≡ 1

    -- an edge that is on is a link in the state of its storage end
    link : {i u v : ℕ} → i < N.edge_count → Joins (edge_at N i) u v → is_storage N u ≡ true → On i → Link N (usable N (spread_input N u w) (spread_keys N u w) k) u v
    link {i} {u} {v} h j su o = record { index = i; below = h; passes = (on_iff N readable k i w u v h l j su).0 o; joins = j }

    pub driven_connected : (y : ℕ) → driven_at N (usable_lanes N k) b N.edge_count y w ≡ true → connected_at N k b y w ≡ true
    unfolding driven_at drives
    driven_connected y e = go (any_found found N.edge_count (and_right (is_storage N y) _ e))
      where
        found : ℕ → Bool
        found i = eqb (lane (usable_lanes N k) i w) 1 && drives N b y w i

        go : (i : ℕ) × (i < N.edge_count) × (found i ≡ true) → connected_at N k b y w ≡ true
        go (i, h, f) =
            let x : ℕ = other N (edge_at N i) in
            let sy : is_storage N y ≡ true = and_left (is_storage N y) _ e in
            let o : On i = eqb-true (lane (usable_lanes N k) i w) 1 (and_left (eqb (lane (usable_lanes N k) i w) 1) _ f) in
            let d : (eqb (owner N (edge_at N i)) y && input_of N (spread_input N y w) (spread_keys N y w) b x) ≡ true = and_right (eqb (lane (usable_lanes N k) i w) 1) _ f in
            let j : Joins (edge_at N i) y x = subst (λ (u : ℕ). Joins (edge_at N i) u x) (eqb-true _ y (and_left (eqb (owner N (edge_at N i)) y) _ d)) (owner_joins N (edge_at N i)) in
            reaches-connected y sy (x, and_right (eqb (owner N (edge_at N i)) y) _ d, edge (link h j sy o))

    -- an edge that is on joins u to an input vertex of the value
    pub link-drives : (i u x : ℕ) → i < N.edge_count → Joins (edge_at N i) u x → is_storage N u ≡ true → On i → input_of N (spread_input N u w) (spread_keys N u w) b x ≡ true
        → driven_at N (usable_lanes N k) b N.edge_count u w ≡ true
    unfolding driven_at drives
    link-drives i u x h j su o e =
        let n : is_storage N x ≡ false = fails (is_storage N x) (λ s. not_both (is_input N x) (input_of_lem N _ _ b x e) (storage_no_input N x s)) in
        let p = owner_of N (edge_at N i) u x j su n in
        both su (any_of _ N.edge_count i h (both (eq-eqb (lane (usable_lanes N k) i w) 1 o) (both (eq-eqb _ u p.0) (rw p.1 e))))

    pub connected-carried : (i u v : ℕ) → i < N.edge_count → Joins (edge_at N i) u v → is_storage N u ≡ true → On i → connected_at N k b v w ≡ true → connected_at N k b u w ≡ true
    connected-carried i u v h j su o e =
        let sv : is_storage N v ≡ true = connected_storage v e in
        let c = component_sym N (joined_component N i u v h j su sv) in
        let (x, p, q) : Connects N (spread_input N u w) (spread_keys N u w) k v b = rw (input_same c w, keys-same c w) at (connected-reaches v e) in
        reaches-connected u su (x, p, via (link h j su o) sv q)
