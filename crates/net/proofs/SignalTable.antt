-- The excitation of a storage vertex, over all states, is that over the values of its signals.
use mathlib.Core.Path.{◌≡◌, sym, ap, ◌∙◌}
use mathlib.Core.Bool.{true, false≢true}
use mathlib.Core.Logic.{◌↔◌}
use Prim.Native.Nat.{ℕ, ◌+◌, ◌-◌, ◌^◌, ◌<◌, ◌≤◌}
use native.Mathlib.Omega.{arith}
use lib.Dec.{lit<}
use lib.ListN.{get_or}
use borrow.Author.Tests.{leb-true, eq-eqb}
use Rattle.ternary.specs.Bits.{bit}
use Rattle.net.specs.declared.Net.{Net}
use Rattle.net.specs.declared.Symbol.{Symbol}
use Rattle.net.specs.declared.Symbol.TheVariants.{Letter, Vertex}
use Rattle.net.specs.Limits.{letter_base, vertex_base}
use Rattle.net.specs.Symbols.{decode, is_variable, symbol_bound}
use Rattle.net.specs.Graph.{vertex_at, edge_at, is_storage, is_key, key_index, key_count, key_vertex}
use Rattle.net.specs.State.{symbol_value, value}
use Rattle.net.specs.Excitation.{excitation}
use Rattle.net.specs.Component.{Signal, on_edge, on_input, Agree, components, is_signal, signals}
use Rattle.net.specs.SignalTable.{signal_count, gather, signal_index, setting, spread_input, spread_keys, excitation_at}
use Rattle.net.specs.Known.{known_symbol, known_label, Known}
use Rattle.net.specs.Network.{Clean}
use Rattle.net.specs.WellFormed.{C1}
use Rattle.ternary.proofs.Tests.{cond_by, both}
use Rattle.ternary.proofs.ListLaws.{any_of, At, at_place, place_at_lem, length_list}
use Rattle.ternary.proofs.BitLaws.{binary_iff, bit_lt, number_lt, bit-number}
use Rattle.net.proofs.Values.{value_lt, decode_by}
use Rattle.net.proofs.Keys.{key_at, index_at, key_storage}
use Rattle.net.proofs.Components.{is_signal_iff, signal_range}
use Rattle.net.proofs.Local.{excitation_local}

module _ (N : Net) (y : ℕ) where
  pub at_signal : {s : ℕ} → Signal N y s → At (is_signal N (components N) y) symbol_bound (signal_index N y s) s
  unfolding signal_index
  at_signal {s} g = at_place (is_signal N (components N) y) symbol_bound s (signal_range N y g) ((is_signal_iff N y s).1 g)

  pub signal_at : (i : ℕ) → i < signal_count N y → Signal N y (get_or (signals N y) i 0)
  unfolding signal_count signals
  signal_at i h =
      let r = place_at_lem (is_signal N (components N) y) symbol_bound i (rw length_list at h) in
      (is_signal_iff N y _).0 (rw r.1.reads r.1.passes)

  setting_lt : (w s : ℕ) → setting N y w s < 2
  unfolding setting
  setting_lt w s = cond_by (λ (v : ℕ). v < 2) (is_signal N (components N) y s) (λ _. bit_lt w _) (λ _. lit< tt)

  setting_signal : (w s : ℕ) → Signal N y s → setting N y w s ≡ bit w (signal_index N y s)
  unfolding setting
  setting_signal w s g = rw ((is_signal_iff N y s).1 g)

  pub gather_lt : (a q : ℕ) → gather N y a q < 2 ^ signal_count N y
  unfolding gather
  gather_lt a q = number_lt (signal_count N y) _ (λ i _. value_lt N a q _)

  pub gather-place : (a q i : ℕ) → i < signal_count N y → bit (gather N y a q) i ≡ value N a q (get_or (signals N y) i 0)
  unfolding gather
  gather-place a q = bit-number (signal_count N y) _ (λ i _. value_lt N a q _)

  gather-bit : (a q : ℕ) {s : ℕ} → Signal N y s → bit (gather N y a q) (signal_index N y s) ≡ value N a q s
  unfolding signal_count signals
  gather-bit a q {s} g = let r = at_signal g in gather-place a q (signal_index N y s) r.inside ∙ ap (value N a q) r.reads

  pub spread_clean : (w : ℕ) → Clean N (spread_input N y w) (spread_keys N y w)
  unfolding spread_input spread_keys
  spread_clean w = record { input = number_lt _ _ (λ j _. setting_lt w _); key = number_lt _ _ (λ k _. setting_lt w _) }

  -- the symbol of an edge, if it is a storage vertex, is a key node
  edge_key : (i : ℕ) → i < N.edge_count → vertex_base < (edge_at N i).symbol → is_storage N ((edge_at N i).symbol - vertex_base) ≡ true → is_key N ((edge_at N i).symbol - vertex_base) ≡ true
  unfolding is_key
  edge_key i h l s = both s (any_of _ N.edge_count i h (eq-eqb (edge_at N i).symbol _ (omega arith)))

  key_by : (P : Symbol → Type 0) (v : ℕ) → is_key N v ≡ true → ((k : ℕ) → k < key_count N → v ≡ key_vertex N k → P (Vertex (key_vertex N k))) → P (Vertex v)
  key_by P v h key = let r = index_at N v h in rw r.vertex at (key (key_index N v) r.below (sym r.vertex))

  module _ (known : Known N) where
    -- a signal is a letter of the net or a key node
    pub signal_by : (P : Symbol → Type 0) {s : ℕ} → Signal N y s → ((j : ℕ) → 0 < j → j ≤ N.letter_count → s ≡ letter_base + j → P (Letter j))
        → ((k : ℕ) → k < key_count N → s ≡ vertex_base + key_vertex N k → P (Vertex (key_vertex N k))) → P (decode s)
    signal_by P (on_edge c l v) letter key =
        let s = (edge_at N l.index).symbol in
        decode_by (λ x. is_variable x ≡ true → known_symbol N x ≡ true → P x) s
        (λ _ e _. absurd (false≢true e))
        (λ h _ _ k. letter (s - letter_base) (omega arith) (leb-true (s - letter_base) N.letter_count k) (omega arith))
        (λ h _ _ k. key_by P (s - vertex_base) (edge_key l.index l.below h k) (λ i b e. key i b (omega arith)))
        (λ e _. absurd (false≢true e))
        v (known.symbols l.index l.below)
    signal_by P (on_input {x = x} c l i v) letter key =
        let s = (vertex_at N x).label in
        decode_by (λ x. is_variable x ≡ true → known_label N x ≡ true → P x) s
        (λ _ e _. absurd (false≢true e))
        (λ h _ _ k. letter (s - letter_base) (omega arith) (leb-true (s - letter_base) N.letter_count k) (omega arith))
        (λ _ _ _ k. absurd (false≢true k))
        (λ e _. absurd (false≢true e))
        v (known.labels x i)

    spread_value : (w : ℕ) {s : ℕ} → Signal N y s → value N (spread_input N y w) (spread_keys N y w) s ≡ setting N y w s
    unfolding value symbol_value spread_input spread_keys
    spread_value w {s} g = signal_by (λ x. symbol_value N (spread_input N y w) (spread_keys N y w) x ≡ setting N y w s) g
        (λ j h l e. bit-number _ _ (λ j _. setting_lt w _) (j - 1) (omega arith) ∙ ap (setting N y w) (omega arith))
        (λ k l e. rw (key_at N k l).index (bit-number _ _ (λ j _. setting_lt w _) k l ∙ ap (setting N y w) (sym e)))

    -- under the spread state, signal i has bit i
    pub spread_signal : (w : ℕ) {s : ℕ} → Signal N y s → value N (spread_input N y w) (spread_keys N y w) s ≡ bit w (signal_index N y s)
    spread_signal w {s} g = spread_value w g ∙ setting_signal w s g

    pub gather_agrees : (a q : ℕ) → Agree N y a q (spread_input N y (gather N y a q)) (spread_keys N y (gather N y a q))
    gather_agrees a q s g = sym (spread_signal (gather N y a q) g ∙ gather-bit a q g)

    -- the excitation under any state is that of its signals' values
    pub excitation-gather : is_storage N y ≡ true → (a q : ℕ) → excitation N a q y ≡ excitation_at N y (gather N y a q)
    unfolding excitation_at
    excitation-gather sy a q = excitation_local N y a q _ _ sy (gather_agrees a q)

-- C1 by signals: 2 ^ signals states for each key node
pub c1_by_signals : (N : Net) → Known N → C1 N ↔ ((k : ℕ) → k < key_count N → (w : ℕ) → w < 2 ^ signal_count N (key_vertex N k) →
    excitation_at N (key_vertex N k) w < 2)
unfolding excitation_at
c1_by_signals N known = (
  λ c k h w _. let s = spread_clean N (key_vertex N k) w in (binary_iff _).1 (c _ _ k s.input s.key h),
  λ f a q k _ _ h. (binary_iff _).0
      (rw (excitation-gather N (key_vertex N k) known (key_storage N _ (key_at N k h).key) a q) (f k h (gather N (key_vertex N k) a q) (gather_lt N (key_vertex N k) a q))),
)
