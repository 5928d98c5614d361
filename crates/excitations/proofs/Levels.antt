-- An edge whose ends are level carries nothing. So a sweep over level edges leaves the marks, and whether it carries anything tells whether there was
-- a mark left to carry.
use Prim.Native.Nat.{ℕ, zero, suc}
use mathlib.Core.Path.{◌≡◌, refl, sym, ap, ◌∙◌}
use mathlib.Core.Bool.{Bool, true}
use mathlib.Core.List.{List}
use native.Mathlib.Omega.{arith}
use Rattle.ternary.specs.Lists.{all_below}
use Rattle.ternary.proofs.Tests.{and_left, and_right, cond_by, same_test}
use Rattle.ternary.proofs.ListLaws.{all_at, all_of_lem}
use Rattle.net.specs.declared.Net.{Net}
use Rattle.net.specs.Graph.{edge_at}
use Rattle.net.specs.Classes.{inner}
use Rattle.lanes.specs.Lanes.{lane, raise_row, level}
use Rattle.lanes.proofs.GridLaws.{row_end}
use Rattle.lanes.proofs.LaneLaws.{level_read, level_of}
use Rattle.excitations.specs.Sweeps.{carry, turned, sweep, is_closed}
use Rattle.excitations.proofs.Sweeps.{raised_by, turned_below, turned-back, carry_at, edge_level, level-inner}

-- ---- one edge

module _ (on : List ℕ) (i : ℕ) (r : List ℕ) where
  raise_level : (u v : ℕ) → level on i r u v ≡ true → raise_row on i u v r ≡ r
  unfolding raise_row
  raise_level u v e =
      sym (row_end
      (record {
        size = refl;
        stored = λ w l. raised_by (λ x. lane r v w ≡ x) (lane on i w) (lane r u w) (lane r v w) refl (λ o m. sym (level_read on i r u v w e l o) ∙ m);
        below = λ _ _. refl;
        above = λ _ _. refl;
      })
      (omega arith) refl)

  pub carry-level : (u v : ℕ) → level on i r u v ≡ true → carry on i u v r ≡ r
  carry-level u v e =
      rw (raise_level u v e) (raise_level v u (level_of on i r v u (λ w l o. sym (level_read on i r u v w e l o))))

-- ---- all edges in turn

module _ (N : Net) (on : List ℕ) (back : Bool) (r : List ℕ) where
  -- the edge that comes as number j is level
  abbrev level_turned : ℕ → Bool
  level_turned j = edge_level N on r (turned back N.edge_count j)

  -- so are the first n
  abbrev pub level_first : ℕ → Bool
  level_first n = all_below n level_turned

  pub sweep_still : (n : ℕ) → level_first n ≡ true → sweep N on back n r ≡ r
  unfolding sweep all_below
  sweep_still zero e = refl
  sweep_still (suc n) e =
      let i : ℕ = turned back N.edge_count n in
      let still : sweep N on back n r ≡ r = sweep_still n (and_left _ _ e) in
      cond_by (λ s. s ≡ r) (inner N (edge_at N i))
      (λ t. ap (carry_at N on i) still ∙ carry-level on i r _ _ (level-inner N on r i (and_right (level_first n) _ e) t))
      (λ _. still)

  pub level_all : level_first N.edge_count ≡ is_closed N on r
  unfolding is_closed
  level_all =
      same_test _ _
      (λ e. all_of_lem (edge_level N on r) _ (λ i h. rw (turned-back back _ i h) at (all_at level_turned N.edge_count e (turned back N.edge_count i) (turned_below back _ i h))))
      (λ e. all_of_lem level_turned _ (λ j h. all_at (edge_level N on r) _ e (turned back N.edge_count j) (turned_below back _ j h)))

  -- nothing is left to carry: a sweep changes nothing
  pub closed_still : is_closed N on r ≡ true → sweep N on back N.edge_count r ≡ r
  closed_still e = sweep_still N.edge_count (level_all ∙ e)
