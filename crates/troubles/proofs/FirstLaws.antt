-- C1 by the table of excitations: a key node breaks it exactly if its row has an entry of 2, 3 or 5.
use Prim.Native.Nat.{ℕ, suc, ◌<◌}
use mathlib.Core.Path.{◌≡◌}
use mathlib.Core.Bool.{Bool, true, ◌&&◌}
use native.Mathlib.Omega.{arith}
use lib.Dec.{leb}
use borrow.Author.Tests.{leb-true, le-leb}
use Rattle.ternary.specs.Lists.{any_below, least_below}
use Rattle.ternary.proofs.ListLaws.{any_found, any_of, least_ext}
use Rattle.ternary.proofs.Tests.{and_left, and_right, both, same_test}
use Rattle.net.specs.declared.Net.{Net}
use Rattle.net.specs.Graph.{is_key}
use Rattle.net.specs.Excitation.{excitation}
use Rattle.net.specs.SignalTable.{gather, spread_input, spread_keys, excitation_at}
use Rattle.net.specs.WellFormed.{BreaksC1, breaks_c1, place_c1}
use Rattle.net.proofs.Keys.{key_storage}
use Rattle.net.proofs.SignalTable.{spread_clean}
use Rattle.net.proofs.TableLaws.{storage_row}
use Rattle.net.proofs.WellFormed.{breaks_c1_iff}
use Rattle.lanes.specs.Lanes.{assignments, lane}
use Rattle.excitations.specs.Excitations.{excitation_lanes}
use Rattle.excitations.specs.Fit.{Fit}
use Rattle.excitations.proofs.TableReads.{excitation_read, gather_below, excitation-entry}

-- the entry of row v at assignment w is 2, 3 or 5
abbrev pub unsettled : Net → ℕ → ℕ → Bool
unsettled N v w = leb 2 (lane (excitation_lanes N) v w)

module _ (N : Net) (fit : Fit N) where
  -- a state that excites v to 2, 3 or 5 has an entry in the row
  there : (v : ℕ) → BreaksC1 N v → (is_key N v && any_below assignments (unsettled N v)) ≡ true
  there v b =
      let s = key_storage N v b.key in
      let w = gather N v b.input b.state in
      both b.key (any_of (unsettled N v) assignments w (gather_below N fit v s b.input b.state)
      (le-leb 2 (lane (excitation_lanes N) v w) (omega (arith, excitation-entry N fit v s b.input b.state, b.excited))))

  -- an entry is the excitation in the state that gives the signals its values
  back : (v : ℕ) → is_key N v ≡ true → (w : ℕ) × (w < assignments) × (unsettled N v w ≡ true) → BreaksC1 N v
  unfolding excitation_at
  back v k (w, l, e) =
      let s = key_storage N v k in
      let r : lane (excitation_lanes N) v w ≡ excitation N (spread_input N v w) (spread_keys N v w) v = excitation_read N v w (storage_row N fit.readable v s) l s in
      let h = leb-true 2 (lane (excitation_lanes N) v w) e in
      record { key = k; input = spread_input N v w; state = spread_keys N v w; clean = spread_clean N v w; excited = λ b. omega (arith, r, h, b) }

  pub breaks_c1_lem : (v : ℕ) → breaks_c1 N v ≡ (is_key N v && any_below assignments (unsettled N v))
  breaks_c1_lem v = same_test (breaks_c1 N v) (is_key N v && any_below assignments (unsettled N v))
      (λ e. there v ((breaks_c1_iff N v).0 e))
      (λ e. (breaks_c1_iff N v).1 (back v (and_left (is_key N v) _ e) (any_found (unsettled N v) assignments (and_right (is_key N v) _ e))))

  pub place_c1_lem : place_c1 N ≡ least_below (suc N.vertex_count) (λ v. is_key N v && any_below assignments (unsettled N v))
  unfolding place_c1
  place_c1_lem = least_ext (suc N.vertex_count) (breaks_c1 N) _ (λ v _. breaks_c1_lem v)
