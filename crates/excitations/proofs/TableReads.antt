-- What the rows of the table hold. Each state has its entry in the row of a storage vertex, that of the values of the vertex's signals, and the row begins with
-- the vertex's truth table.
use Prim.Native.Nat.{ℕ, suc, ◌^◌, ◌<◌, ◌≤◌}
use mathlib.Core.Path.{◌≡◌, sym, ap, ◌∙◌}
use mathlib.Core.Bool.{Bool, true, cond}
use native.Mathlib.Nat.{pow-le-pow_right}
use native.Mathlib.Omega.{arith}
use lib.ListN.{get_or}
use Rattle.ternary.proofs.ListLaws.{get_or-table}
use Rattle.net.specs.declared.Net.{Net}
use Rattle.net.specs.Limits.{most_vertices}
use Rattle.net.specs.Graph.{is_storage}
use Rattle.net.specs.Excitation.{excitation}
use Rattle.net.specs.SignalTable.{signal_count, gather, excitation_at, truth_table}
use Rattle.net.proofs.SignalTable.{gather_lt, excitation-gather}
use Rattle.net.proofs.TableLaws.{storage_row}
use Rattle.lanes.specs.Lanes.{assignments, lane}
use Rattle.lanes.proofs.GridLaws.{grid-cell}
use Rattle.lanes.proofs.LaneLaws.{assignments_power}
use Rattle.excitations.specs.Excitations.{excitation_lanes}
use Rattle.excitations.specs.Fit.{Fit}

-- ---- entries

module _ (N : Net) (y w : ℕ) (h : y ≤ most_vertices) (l : w < assignments) where
  pub excitation_read : is_storage N y ≡ true → lane (excitation_lanes N) y w ≡ excitation_at N y w
  unfolding excitation_lanes
  excitation_read s =
      grid-cell assignments (suc most_vertices) (λ v a. cond (is_storage N v) (excitation_at N v a) 3) y w (omega arith) l
      ∙ ap (λ (b : Bool). cond b (excitation_at N y w) 3) s

-- ---- a storage vertex

module _ (N : Net) (fit : Fit N) (y : ℕ) (s : is_storage N y ≡ true) where
  row : y ≤ most_vertices
  row = storage_row N fit.readable y s

  -- a row has room for the truth table
  pub truth_room : 2 ^ signal_count N y ≤ assignments
  truth_room = omega (arith, assignments_power, pow-le-pow_right {n = 2} (omega arith) (fit.signals y s))

  pub truth_read : (w : ℕ) → w < 2 ^ signal_count N y → lane (excitation_lanes N) y w ≡ get_or (truth_table N y) w 0
  unfolding truth_table
  truth_read w l = excitation_read N y w row (omega (arith, l, truth_room)) s ∙ sym (get_or-table (2 ^ signal_count N y) (excitation_at N y) w 0 l)

  -- the entry of a state
  module _ (a q : ℕ) where
    pub gather_below : gather N y a q < assignments
    gather_below = omega (arith, gather_lt N y a q, truth_room)

    pub excitation-entry : lane (excitation_lanes N) y (gather N y a q) ≡ excitation N a q y
    excitation-entry = excitation_read N y _ row gather_below s ∙ sym (excitation-gather N y fit.known s a q)
