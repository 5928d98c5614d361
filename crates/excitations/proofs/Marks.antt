-- Marks on the way from the vertices that an edge drives to all that have a connection: every mark stands for a connection, and once no edge has a
-- mark left to carry, every connection has its mark.
use Prim.Native.Nat.{ℕ, suc, ◌*◌, ◌<◌, ◌≤◌}
use mathlib.Core.Path.{◌≡◌, refl, sym, subst, ◌∙◌}
use mathlib.Core.Bool.{Bool, true, false}
use mathlib.Core.Logic.{inl, inr, ◌≢◌}
use mathlib.Core.List.{List}
use native.Mathlib.Omega.{arith}
use lib.Dec.{lit<}
use lib.ListN.{length}
use Rattle.ternary.specs.Bits.{digit}
use Rattle.ternary.proofs.Tests.{and_left, and_right, both, by_test, not_both}
use Rattle.ternary.proofs.BitLaws.{digit_lt, digit_iff}
use Rattle.net.specs.declared.Net.{Net}
use Rattle.net.specs.declared.Kind.{Kind}
use Rattle.net.specs.Limits.{most_vertices}
use Rattle.net.specs.Graph.{edge_at, is_storage}
use Rattle.net.specs.State.{usable, input_of}
use Rattle.net.specs.Walks.{Joins, Walk, edge, via}
use Rattle.net.specs.Classes.{inner}
use Rattle.net.specs.SignalTable.{spread_input, spread_keys}
use Rattle.net.specs.Tables.{Readable}
use Rattle.net.proofs.TableLaws.{storage_row}
use Rattle.net.proofs.SignalLists.{component_sym}
use Rattle.lanes.specs.Lanes.{assignments, lane, raise_row}
use Rattle.lanes.proofs.GridLaws.{length-grid, grid-cell, grid_list}
use Rattle.lanes.proofs.LaneLaws.{length-raise_row, level_read}
use Rattle.excitations.specs.Conditions.{usable_lanes}
use Rattle.excitations.specs.Connections.{connected_at, connected_lanes}
use Rattle.excitations.specs.Sweeps.{driven_at, driven_lanes, sweep, is_closed}
use Rattle.excitations.proofs.SameState.{input_same, keys-same}
use Rattle.excitations.proofs.Edges.{joined_component, on_iff}
use Rattle.excitations.proofs.Carrying.{connected_storage, connected-reaches, driven_connected, link-drives, connected-carried}
use Rattle.excitations.proofs.Sweeps.{raise_by, carry_at, sweep_keeps, closed_level, unset, unset_falls}

pub record Marks (N : Net) (k : Kind) (b : ℕ) (r : List ℕ) : Type 0 where
  pub size : length r ≡ suc most_vertices * assignments
  pub binary : (v w : ℕ) → v ≤ most_vertices → w < assignments → lane r v w < 2
  -- a mark stands for a connection
  pub sound : (v w : ℕ) → v ≤ most_vertices → w < assignments → lane r v w ≡ 1 → connected_at N k b v w ≡ true
  -- the marks that the start sets
  pub started : (v w : ℕ) → v ≤ most_vertices → w < assignments → driven_at N (usable_lanes N k) b N.edge_count v w ≡ true → lane r v w ≡ 1

module _ (N : Net) (readable : Readable N) (k : Kind) (b : ℕ) where
  abbrev on : List ℕ
  on = usable_lanes N k

  -- ---- the start

  abbrev starts : ℕ → ℕ → Bool
  starts v w = driven_at N on b N.edge_count v w

  start_read : (v w : ℕ) → v ≤ most_vertices → w < assignments → lane (driven_lanes N on b) v w ≡ digit (starts v w)
  unfolding driven_lanes
  start_read v w h l = grid-cell assignments (suc most_vertices) (λ v w. digit (starts v w)) v w (omega arith) l

  pub marks_start : Marks N k b (driven_lanes N on b)
  unfolding driven_lanes
  marks_start =
      record {
        size = length-grid assignments (suc most_vertices) _;
        binary = λ v w h l. rw (start_read v w h l) (digit_lt (starts v w));
        sound = λ v w h l e. driven_connected N k b w readable l v ((digit_iff (starts v w)).0 (sym (start_read v w h l) ∙ e));
        started = λ v w h l e. start_read v w h l ∙ (digit_iff (starts v w)).1 e;
      }

  -- ---- a sweep

  -- an edge carries the marks of u to v
  marks_raise : {r : List ℕ} (i u v : ℕ) → i < N.edge_count → Joins (edge_at N i) v u → is_storage N u ≡ true → is_storage N v ≡ true → Marks N k b r → Marks N k b (raise_row on i u v r)
  marks_raise {r} i u v h j su sv m =
      record {
        size = length-raise_row on i u v r ∙ m.size;
        binary = λ x w hx l. raise_by on i u v r w m.size (storage_row N readable v sv) l x (λ y. y < 2) (m.binary x w hx l) (λ _ _ _. lit< tt);
        sound = λ x w hx l. raise_by on i u v r w m.size (storage_row N readable v sv) l x (λ y. y ≡ 1 → connected_at N k b x w ≡ true) (m.sound x w hx l)
            (λ e o f _. subst (λ (y : ℕ). connected_at N k b y w ≡ true) (sym e) (connected-carried N k b w readable l i v u h j sv o (m.sound u w (storage_row N readable u su) l f)));
        started = λ x w hx l e. raise_by on i u v r w m.size (storage_row N readable v sv) l x (λ y. y ≡ 1) (m.started x w hx l e) (λ _ _ _. refl);
      }

  marks_carry : (i : ℕ) → i < N.edge_count → inner N (edge_at N i) ≡ true → (r : List ℕ) → Marks N k b r → Marks N k b (carry_at N on i r)
  unfolding inner
  marks_carry i h t r m =
      let s1 : is_storage N (edge_at N i).end1 ≡ true = and_left (is_storage N (edge_at N i).end1) _ t in
      let s2 : is_storage N (edge_at N i).end2 ≡ true = and_right (is_storage N (edge_at N i).end1) _ t in
      marks_raise i _ _ h (inl (refl, refl)) s2 s1 (marks_raise i _ _ h (inr (refl, refl)) s1 s2 m)

  pub marks_sweep : (back : Bool) {r : List ℕ} → Marks N k b r → Marks N k b (sweep N on back N.edge_count r)
  marks_sweep back {r} m = sweep_keeps N on back (Marks N k b) marks_carry N.edge_count (omega arith) r m

  pub sweep_falls : (back : Bool) {r : List ℕ} → Marks N k b r → is_closed N on r ≡ false → unset (sweep N on back N.edge_count r) < unset r
  sweep_falls back {r} m e = unset_falls N on back r readable m.size m.binary e

  -- ---- no mark left to carry

  module _ {r : List ℕ} (m : Marks N k b r) (closed : is_closed N on r ≡ true) where
    -- the ends of an edge that is on have the same mark
    level-link : (i u v w : ℕ) → i < N.edge_count → w < assignments → Joins (edge_at N i) u v → is_storage N u ≡ true → is_storage N v ≡ true → lane on i w ≡ 1 → lane r u w ≡ lane r v w
    unfolding inner
    level-link i u v w h l (inl e) su sv o = rw (e.0, e.1) at (level_read on i r _ _ w (closed_level N on r closed i h (rw (e.0, e.1) (both su sv))) l o)
    level-link i u v w h l (inr e) su sv o = sym (rw (e.0, e.1) at (level_read on i r _ _ w (closed_level N on r closed i h (rw (e.0, e.1) (both sv su))) l o))

    -- a connection has its mark: the last edge drives, and each edge before it carries
    walk_marked : {a q w u x : ℕ} → w < assignments → is_storage N u ≡ true → spread_input N u w ≡ a → spread_keys N u w ≡ q → input_of N a q b x ≡ true → Walk N (usable N a q k) u x → lane r u w ≡ 1
    walk_marked {w = w} {u = u} {x = x} l su ea eq e (edge p) =
        m.started u w (storage_row N readable u su) l
        (link-drives N k b w readable l p.index u x p.below p.joins su
        ((on_iff N readable k p.index w u x p.below l p.joins su).1 (rw (ea, eq) p.passes)) (rw (ea, eq) e))
    walk_marked {w = w} {u = u} {x = x} l su ea eq e (via {w = v} p sv t) =
        let c = component_sym N (joined_component N p.index u v p.below p.joins su sv) in
        level-link p.index u v w p.below l p.joins su sv ((on_iff N readable k p.index w u v p.below l p.joins su).1 (rw (ea, eq) p.passes))
        ∙ walk_marked l sv (input_same c w ∙ ea) (keys-same c w ∙ eq) e t

    marked : (v w : ℕ) → w < assignments → connected_at N k b v w ≡ true → lane r v w ≡ 1
    marked v w l e = let (x, i, p) = connected-reaches N k b w v e in walk_marked l (connected_storage N k b w v e) refl refl i p

    pub marks_closed : r ≡ connected_lanes N k b
    unfolding connected_lanes
    marks_closed = grid_list assignments (suc most_vertices) (λ y w. digit (connected_at N k b y w)) r m.size entry
      where
        entry : (v w : ℕ) → v < suc most_vertices → w < assignments → lane r v w ≡ digit (connected_at N k b v w)
        entry v w h l = by_test (connected_at N k b v w)
            (λ t. rw t (marked v w l t))
            (λ t. rw t (omega (arith, m.binary v w (omega arith) l, unmarked t)))
          where
            unmarked : connected_at N k b v w ≡ false → lane r v w ≢ 1
            unmarked t e = not_both _ (m.sound v w (omega arith) l e) t
