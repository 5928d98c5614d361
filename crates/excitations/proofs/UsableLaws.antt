-- The edges that a connection may use, in lanes: how the code fills the table, one edge after the other.
use Prim.Native.Nat.{ℕ, ◌+◌, ◌*◌, ◌<◌}
use mathlib.Core.Path.{◌≡◌, sym, ap, ◌∙◌}
use mathlib.Core.Bool.{true, false, ◌&&◌}
use mathlib.Core.List.{List}
use native.Mathlib.Omega.{arith}
use lib.Dec.{ltb}
use lib.ListN.{length}
use borrow.Author.Tests.{lt-ltb, le-ltb}
use Rattle.ternary.specs.Bits.{digit}
use Rattle.net.specs.declared.Net.{Net}
use Rattle.net.specs.declared.Kind.{Kind}
use Rattle.net.specs.Limits.{most_edges}
use Rattle.net.specs.Symbols.{decode}
use Rattle.net.specs.Graph.{edge_at, is_storage}
use Rattle.net.specs.State.{admits, condition_of}
use Rattle.net.specs.SignalTable.{signal_index}
use Rattle.net.proofs.Filling.{zeros}
use Rattle.net.proofs.Flags.{and_false_right}
use Rattle.lanes.specs.Lanes.{assignments, chosen, choose_row}
use Rattle.lanes.proofs.LaneLaws.{column_read}
use Rattle.excitations.specs.Fit.{Fit}
use Rattle.excitations.specs.Conditions.{symbol_at, owner, usable_at, usable_lanes}
use Rattle.excitations.proofs.FirstRows.{first_rows, length-rows, rows_none, rows_step, rows_skip, rows_end}
use Rattle.excitations.proofs.PlaceLaws.{place_small}
use Rattle.excitations.proofs.StateValues.{chosen-bit, symbol_bound_lem, usable_at_lem}

module _ (N : Net) (k : Kind) where
  abbrev entry : ℕ → ℕ → ℕ
  entry i w = digit (ltb i N.edge_count && usable_at N k i w)

  -- the rows of the first n edges
  abbrev pub first_usable : ℕ → List ℕ
  first_usable = first_rows assignments most_edges entry

  pub length-usable : (n : ℕ) → length (first_usable n) ≡ most_edges * assignments
  length-usable = length-rows assignments most_edges entry

  pub usable_none : zeros (most_edges * assignments) ≡ first_usable 0
  usable_none = rows_none assignments most_edges entry

  -- what the code asks of edge i where its symbol's signal has the value b
  abbrev pub usable_where : ℕ → ℕ → ℕ
  usable_where i b = digit (admits k (condition_of (edge_at N i).form (symbol_at (decode (edge_at N i).symbol) b)))

  -- an edge that touches a component: the bits of its symbol's signal choose
  pub usable-step : (fit : Fit N) (i : ℕ) {p low high : ℕ} {r r' : List ℕ} → i < N.edge_count → is_storage N (owner N (edge_at N i)) ≡ true
      → p ≡ signal_index N (owner N (edge_at N i)) (edge_at N i).symbol → low ≡ usable_where i 0 → high ≡ usable_where i 1
      → r ≡ first_usable i → r' ≡ choose_row i p low high r → r' ≡ first_usable (i + 1)
  unfolding choose_row
  usable-step fit i h sy ep el eh q q' =
      rw (q', ep, el, eh, q)
      (rows_step assignments most_edges entry i _ (omega (arith, fit.readable.edges))
      (λ w l.
      ap (chosen (usable_where i 0) (usable_where i 1)) (column_read place w (place_small N y s fit sy (omega (arith, symbol_bound_lem N fit.known i h))) l)
      ∙ chosen-bit (usable_where i) w place
      ∙ sym (rw (lt-ltb i N.edge_count h, usable_at_lem N fit.known i h sy k w))))
    where
      y : ℕ
      y = owner N (edge_at N i)

      s : ℕ
      s = (edge_at N i).symbol

      place : ℕ
      place = signal_index N y s

  -- an edge between input vertices
  pub usable_skip : (i : ℕ) {r : List ℕ} → is_storage N (owner N (edge_at N i)) ≡ false → r ≡ first_usable i → r ≡ first_usable (i + 1)
  unfolding usable_at
  usable_skip i e q = q ∙ rows_skip assignments most_edges entry i (λ w _. rw (e, and_false_right))

  pub usable_all : first_usable N.edge_count ≡ usable_lanes N k
  unfolding usable_lanes
  usable_all = rows_end assignments most_edges entry N.edge_count (λ i w h _ _. rw (le-ltb i N.edge_count h))
