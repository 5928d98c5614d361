-- Records of the same net have the same components, the same signals and the same truth tables.
use Prim.Native.Nat.{ℕ, suc, ◌+◌, ◌^◌}
use mathlib.Core.Path.{◌≡◌, refl, sym, ap, ap₂, subst, ◌∙◌}
use mathlib.Core.Bool.{Bool, true, cond}
use mathlib.Core.Logic.{◌⊎◌, inl, inr}
use lib.ListN.{length}
use Rattle.net.specs.declared.Net.{Net}
use Rattle.net.specs.Limits.{letter_base, vertex_base}
use Rattle.net.specs.Symbols.{decode, is_variable, symbol_bound}
use Rattle.net.specs.Graph.{vertex_at, edge_at, is_storage, key_vertex}
use Rattle.net.specs.Walks.{Link, Walk}
use Rattle.net.specs.Component.{every_edge, SameComponent, Signal, on_edge, on_input, components, is_signal, signals}
use Rattle.net.specs.SignalTable.{signal_count, signal_index, setting, spread_input, spread_keys, excitation_at, truth_table}
use Rattle.net.proofs.Components.{is_signal_iff}
use Rattle.ternary.specs.Lists.{table, list_below, count_below}
use Rattle.ternary.specs.Bits.{bit, number}
use Rattle.ternary.proofs.Tests.{same_test}
use Rattle.writer.specs.SameNet.{SameNet}
use Rattle.writer.proofs.SameNetLaws.{net-back}
use Rattle.writer.proofs.SameGraph.{same-symbol, same-vertex, same_role, same_storage, Among, same_among, link_among, walk_among, same-key_count, same-key_vertex, same-excitation}

module _ {M N : Net} (s : Among M N) where
  joined_among : {y z : ℕ} → (y ≡ z) ⊎ Walk M every_edge y z → (y ≡ z) ⊎ Walk N every_edge y z
  joined_among (inl e) = inl e
  joined_among (inr p) = inr (walk_among s (λ i j h t. refl) p)

  component_among : {y z : ℕ} → SameComponent M y z → SameComponent N y z
  component_among {y} {z} c = record { from = sym (same_storage s y) ∙ c.from; to = sym (same_storage s z) ∙ c.to; joined = joined_among c.joined }

  abbrev everywhere : {u v : ℕ} → Link M every_edge u v → Link N every_edge u v
  everywhere l = link_among s (λ i j h t. refl) l

  signal_among_lem : {y n : ℕ} → Signal M y n → Signal N y n
  signal_among_lem {y} (on_edge c l v) =
      let t = s.edges l.index l.below in
      let e : (edge_at M l.index).symbol ≡ (edge_at N t.0).symbol = same-symbol t.2 in
      subst (Signal N y) (sym e) (on_edge (component_among c) (everywhere l) (sym (ap (λ (n : ℕ). is_variable (decode n)) e) ∙ v))
  signal_among_lem {y} (on_input {x = x} c l i v) =
      let e : (vertex_at M x).label ≡ (vertex_at N x).label = rw (same-vertex s x) in
      subst (Signal N y) (sym e) (on_input (component_among c) (everywhere l) (sym (same_role s x 0) ∙ i) (sym (ap (λ (n : ℕ). is_variable (decode n)) e) ∙ v))

module _ {M N : Net} (s : SameNet M N) (y : ℕ) where
  pub same_signal : (n : ℕ) → is_signal M (components M) y n ≡ is_signal N (components N) y n
  same_signal n =
      same_test _ _
      (λ e. (is_signal_iff N y n).1 (signal_among_lem (same_among s) ((is_signal_iff M y n).0 e)))
      (λ e. (is_signal_iff M y n).1 (signal_among_lem (same_among (net-back s)) ((is_signal_iff N y n).0 e)))

  pub same-signals : signals M y ≡ signals N y
  unfolding signals
  same-signals = ap (list_below symbol_bound) (λ i n. same_signal n i)

  pub same-signal_count : signal_count M y ≡ signal_count N y
  unfolding signal_count
  same-signal_count = ap length same-signals

  same-setting : (w n : ℕ) → setting M y w n ≡ setting N y w n
  unfolding setting signal_index
  same-setting w n = ap₂ (λ (b : Bool) (k : ℕ). cond b (bit w k) 0) (same_signal n) (ap (count_below n) (λ i m. same_signal m i))

  same-spread_input : (w : ℕ) → spread_input M y w ≡ spread_input N y w
  unfolding spread_input
  same-spread_input w = ap₂ number s.letter_count (λ i j. same-setting w (letter_base + suc j) i)

  same-spread_keys : (w : ℕ) → spread_keys M y w ≡ spread_keys N y w
  unfolding spread_keys
  same-spread_keys w = ap₂ number (same-key_count s) (λ i k. (same-setting w (vertex_base + key_vertex M k) ∙ ap (λ (v : ℕ). setting N y w (vertex_base + v)) (same-key_vertex s k)) i)

  module _ (sy : is_storage M y ≡ true) where
    pub same-excitation_at : (w : ℕ) → excitation_at M y w ≡ excitation_at N y w
    unfolding excitation_at
    same-excitation_at w = rw (same-spread_input w, same-spread_keys w) (same-excitation s _ _ y sy)

    -- a record's truth tables stay true when its edges are put in another order
    pub same-truth_table : truth_table M y ≡ truth_table N y
    unfolding truth_table
    same-truth_table = ap₂ table (ap (λ (n : ℕ). 2 ^ n) same-signal_count) (λ i w. same-excitation_at w i)
