-- The excitation of a storage vertex in one state, as the code looks it up.
use Prim.Native.Nat.{ℕ, ◌+◌, ◌<◌}
use mathlib.Core.Path.{◌≡◌, sym}
use mathlib.Core.Bool.{true}
use mathlib.Core.List.{List}
use Rattle.net.specs.declared.Net.{Net}
use Rattle.net.specs.Graph.{is_storage}
use Rattle.net.specs.Excitation.{excitation}
use Rattle.net.specs.SignalTable.{gather}
use Rattle.lanes.specs.Lanes.{assignments, lane}
use Rattle.excitations.specs.Fit.{Fit}
use Rattle.excitations.specs.Excitations.{excitation_lanes}
use Rattle.excitations.proofs.TableReads.{gather_below, excitation-entry}
use Rattle.states.specs.Weights.{weights, letter_part, key_part}
use Rattle.states.proofs.GatherLaws.{gather_parts}

module _ (N : Net) (fit : Fit N) (y : ℕ) (s : is_storage N y ≡ true) (a q : ℕ)
    {list : List ℕ} {l k : ℕ} (w : list ≡ weights N y) (el : l ≡ letter_part list a) (ek : k ≡ key_part list q) where
  index : l + k ≡ gather N y a q
  index = rw (el, ek, w) (sym (gather_parts N y fit s a q))

  pub index_below : l + k < assignments
  index_below = rw index (gather_below N fit y s a q)

  pub value_read : {ex : List ℕ} → ex ≡ excitation_lanes N → lane ex y (l + k) ≡ excitation N a q y
  value_read e = rw (e, index) (excitation-entry N fit y s a q)
