-- The ternary tables hold the ternary excitations: under C1 the entry of a vector of signals is the value that the excitation has at all its completions.
use Prim.Native.Nat.{ℕ, ◌^◌, ◌<◌, ◌≤◌}
use mathlib.Core.Path.{◌≡◌, refl, ap, ◌∙◌}
use mathlib.Core.Bool.{Bool, cond}
use mathlib.Core.Logic.{inl, inr, ⊎_elim}
use mathlib.Core.List.{List}
use native.Mathlib.Omega.{arith}
use native.Mathlib.Nat.{pow-le-pow_right}
use lib.Dec.{lit<}
use lib.ListN.{length, get_or}
use borrow.Author.Tests.{lt-ltb}
use Rattle.ternary.specs.Signal.{Signal}
use Rattle.ternary.specs.Excitation.{common_of}
use Rattle.ternary.specs.TruthTable.{signal_kinds, ternary_index}
use Rattle.ternary.proofs.TruthTableLaws.{ternary_index_lt}
use Rattle.ternary.proofs.PaddingLaws.{grow-padded}
use Rattle.net.specs.declared.Net.{Net}
use Rattle.net.specs.Limits.{most_key_nodes, most_signals}
use Rattle.net.specs.Graph.{key_count, key_vertex}
use Rattle.net.specs.SignalTable.{signal_count, spread_input, spread_keys, excitation_at}
use Rattle.net.specs.WellFormed.{C1}
use Rattle.net.proofs.Keys.{key_at, key_storage}
use Rattle.net.proofs.SignalTable.{spread_clean}
use Rattle.lanes.specs.Grid.{cell}
use Rattle.lanes.proofs.GridLaws.{grid-cell}
use Rattle.excitations.specs.Fit.{Fit}
use Rattle.lookups.specs.TernaryTables.{ternary_assignments, ternary_table, ternary_tables}

pub ternary_assignments_power : ternary_assignments ≡ signal_kinds ^ most_signals
ternary_assignments_power = refl

module _ (N : Net) where
  -- a key node's excitation is 0 or 1, whatever values its signals have
  excitation_signal : C1 N → (k : ℕ) → k < key_count N → (w : ℕ) → Signal (excitation_at N (key_vertex N k) w)
  unfolding excitation_at
  excitation_signal c1 k h w =
      let clean = spread_clean N (key_vertex N k) w in
      ⊎_elim inl (λ e. inr (inl e)) (c1 (spread_input N (key_vertex N k) w) (spread_keys N (key_vertex N k) w) k clean.input clean.key h)

  module _ (fit : Fit N) (c1 : C1 N) (k : ℕ) (h : k < key_count N) (v : List ℕ) (l : length v ≡ signal_count N (key_vertex N k)) where
    few : length v ≤ most_signals
    few = omega (arith, fit.signals (key_vertex N k) (key_storage N (key_vertex N k) (key_at N k h).key))

    index_inside : ternary_index v < ternary_assignments
    index_inside = omega (arith, ternary_index_lt v, pow-le-pow_right {n = signal_kinds} (lit< tt) few, ternary_assignments_power)

    entry : get_or (ternary_table N (key_vertex N k)) (ternary_index v) 0 ≡ common_of (excitation_at N (key_vertex N k)) v
    unfolding ternary_table
    entry = grow-padded most_signals (excitation_at N (key_vertex N k)) v 0 few (λ w _. excitation_signal c1 k h w)

    pub table_at : cell ternary_assignments (ternary_tables N) k (ternary_index v) ≡ common_of (excitation_at N (key_vertex N k)) v
    unfolding ternary_tables
    table_at =
        grid-cell ternary_assignments most_key_nodes _ k (ternary_index v) (omega (arith, fit.keys)) index_inside
        ∙ ap (λ (b : Bool). cond b (get_or (ternary_table N (key_vertex N k)) (ternary_index v) 0) 0) (lt-ltb k (key_count N) h)
        ∙ entry
