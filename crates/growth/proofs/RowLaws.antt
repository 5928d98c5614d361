-- Ternary tables row by row: the rows of the key nodes before k are stored, the rest is zero.
use Prim.Native.Nat.{ℕ, suc, ◌+◌, ◌-◌, ◌*◌, ◌<◌, ◌≤◌}
use mathlib.Core.Path.{◌≡◌, refl, ap, ◌∙◌}
use mathlib.Core.Bool.{Bool, true, cond}
use mathlib.Core.List.{List}
use native.Mathlib.Omega.{arith}
use lib.Dec.{ltb, lit<}
use lib.ListN.{length, get_or, take, drop}
use borrow.Author.Tests.{ltb-true}
use borrow.Rule.Slice.PartMut.{put_mid, mid_len}
use Rattle.ternary.specs.Lists.{table}
use Rattle.ternary.specs.TruthTable.{grow}
use Rattle.ternary.proofs.ListLaws.{table_ext}
use Rattle.ternary.proofs.Tests.{by_test}
use Rattle.net.specs.declared.Net.{Net}
use Rattle.net.specs.Limits.{most_vertices, most_key_nodes, most_signals}
use Rattle.net.specs.Graph.{is_storage, key_count, key_vertex}
use Rattle.net.specs.SignalTable.{excitation_at}
use Rattle.net.proofs.Filling.{zeros}
use Rattle.lanes.specs.Grid.{set_row}
use Rattle.lanes.specs.Lanes.{assignments}
use Rattle.lanes.proofs.GridLaws.{length-grid, grid_ext}
use Rattle.excitations.specs.Fit.{Fit}
use Rattle.excitations.specs.Excitations.{excitation_lanes}
use Rattle.excitations.proofs.FirstRows.{first_rows, length-rows, rows_none, rows_step}
use Rattle.states.specs.Weights.{key_vertices}
use Rattle.states.proofs.KeyRowLaws.{key_vertex_read, key_vertex_storage, key_vertex_small}
use Rattle.lookups.specs.TernaryTables.{ternary_assignments, ternary_table, ternary_tables}
use Rattle.lanes.proofs.PartLaws.{grid-row, put-row}

-- the table grown from row y of the excitations
abbrev grown_row : List ℕ → ℕ → List ℕ
grown_row lanes y = grow most_signals (take assignments (drop (y * assignments) lanes))

-- those of the key nodes before k
unfoldable pub first_tables : List ℕ → List ℕ → ℕ → List ℕ
first_tables keys lanes k = first_rows ternary_assignments most_key_nodes (λ j i. get_or (grown_row lanes (get_or keys j 0)) i 0) k

module _ (keys lanes : List ℕ) where
  pub tables_none : zeros (most_key_nodes * ternary_assignments) ≡ first_tables keys lanes 0
  unfolding first_tables
  tables_none = rows_none ternary_assignments most_key_nodes _

  pub length_tables : (k : ℕ) → length (first_tables keys lanes k) ≡ most_key_nodes * ternary_assignments
  unfolding first_tables
  length_tables k = length-rows ternary_assignments most_key_nodes _ k

  -- a turn stores the row of key node k
  pub tables_step : {k y : ℕ} {p r : List ℕ} → k < most_key_nodes → y ≡ get_or keys k 0
      → length p ≡ length (take (k * ternary_assignments + ternary_assignments - k * ternary_assignments) (drop (k * ternary_assignments) r))
      → p ≡ grow most_signals (take (y * assignments + assignments - y * assignments) (drop (y * assignments) lanes))
      → r ≡ first_tables keys lanes k → put_mid (k * ternary_assignments) (k * ternary_assignments + ternary_assignments - k * ternary_assignments) r p ≡ first_tables keys lanes (k + 1)
  unfolding first_tables
  tables_step {k} {y} {p} {r} h ey lp ep er =
      put-row ternary_assignments k r p (lit< tt) inside (lp ∙ mid_len (k * ternary_assignments) _ r inside ∙ omega arith)
      ∙ ap (set_row ternary_assignments k (λ i. get_or p i 0)) er
      ∙ rows_step ternary_assignments most_key_nodes _ k (λ i. get_or p i 0) h (λ i _. ap (λ (l : List ℕ). get_or l i 0) grown)
    where
      inside : k * ternary_assignments + ternary_assignments ≤ length r
      inside = omega (arith, ap length er, length_tables k)

      grown : p ≡ grown_row lanes (get_or keys k 0)
      grown =
          let width : y * assignments + assignments - y * assignments ≡ assignments = omega arith in
          ep ∙ ap (λ (n : ℕ). grow most_signals (take n (drop (y * assignments) lanes))) width ∙ ap (grown_row lanes) ey

-- ---- of a net

module _ (N : Net) (fit : Fit N) where
  -- the row of a storage vertex is its excitations
  excitation-row : (y : ℕ) → is_storage N y ≡ true → y ≤ most_vertices → take assignments (drop (y * assignments) (excitation_lanes N)) ≡ table assignments (excitation_at N y)
  unfolding excitation_lanes
  excitation-row y s h =
      grid-row assignments (suc most_vertices) y _ (omega arith)
      ∙ table_ext assignments _ (excitation_at N y) (λ w _. ap (λ (b : Bool). cond b (excitation_at N y w) 3) s)

  module _ {keys lanes : List ℕ} (listed : keys ≡ key_vertices N) (excited : lanes ≡ excitation_lanes N) where
    pub row_inside : {k y : ℕ} → k < key_count N → y ≡ get_or keys k 0 → y * assignments + assignments ≤ length lanes
    unfolding excitation_lanes
    row_inside {k} h e =
        omega (
          arith,
          e ∙ key_vertex_read N fit k listed h,
          key_vertex_small N fit k h,
          ap length excited ∙ length-grid assignments (suc most_vertices) (λ y w. cond (is_storage N y) (excitation_at N y w) 3),
        )

    key_table : (k : ℕ) → k < key_count N → grown_row lanes (get_or keys k 0) ≡ ternary_table N (key_vertex N k)
    unfolding ternary_table
    key_table k h =
        ap (grown_row lanes) (key_vertex_read N fit k listed h)
        ∙ ap (λ (l : List ℕ). grown_row l (key_vertex N k)) excited
        ∙ ap (grow most_signals) (excitation-row (key_vertex N k) (key_vertex_storage N fit k h) (key_vertex_small N fit k h))

    pub tables_all : first_tables keys lanes (key_count N) ≡ ternary_tables N
    unfolding first_tables first_rows ternary_tables
    tables_all = grid_ext ternary_assignments most_key_nodes _ _ (λ k i _ _. by_test (ltb k (key_count N))
        (λ t. rw t (ap (λ (l : List ℕ). get_or l i 0) (key_table k (ltb-true k _ t))))
        (λ t. rw t refl))
