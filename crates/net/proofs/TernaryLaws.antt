-- The ternary excitation of a net's key node is the common value of its truth table over the signals of its component, in both passes.
use Prim.Native.Nat.{ℕ, ◌-◌, ◌^◌, ◌<◌}
use mathlib.Core.Path.{◌≡◌, sym, ap, subst, ◌∙◌}
use mathlib.Core.Logic.{◌⊎◌, ◌↔◌}
use mathlib.Core.List.{List, map}
use native.Mathlib.Omega.{arith}
use lib.ListN.{length, get_or}
use Rattle.ternary.specs.Lists.{table}
use Rattle.ternary.specs.Bits.{bit}
use Rattle.ternary.specs.Signal.{X, Covers, at, Completes}
use Rattle.ternary.specs.Excitation.{common_of, common, H}
use Rattle.ternary.specs.TruthTable.{signal_of, grow, ternary_index}
use Rattle.ternary.specs.Passes as passes
use Rattle.ternary.specs.Demand.{Premises}
use Rattle.ternary.proofs.BitLaws.{binary_iff}
use Rattle.ternary.proofs.ListLaws.{length-table}
use Rattle.ternary.proofs.SignalLaws.{at_table, nearest, nearest_completes, nearest_same}
use Rattle.ternary.proofs.ExcitationLaws.{length-H, at_H, common_of-same, common_of_unknown}
use Rattle.ternary.proofs.TruthTableLaws.{grow-table}
use Rattle.ternary.proofs.Passes.{length-mix, first_ends, second-ends}
use Rattle.net.specs.declared.Net.{Net}
use Rattle.net.specs.Symbols.{decode}
use Rattle.net.specs.Graph.{key_count, key_vertex}
use Rattle.net.specs.State.{symbol_value, value}
use Rattle.net.specs.Component.{Signal, Agree, signals}
use Rattle.net.specs.SignalTable.{signal_count, gather, signal_index, spread_input, spread_keys, excitation_at, truth_table}
use Rattle.net.specs.Known.{Known}
use Rattle.net.specs.Network.{network}
use Rattle.net.specs.WellFormed.{C1}
use Rattle.net.specs.Ternary.{symbol_signal, signal_vector, SignalsDisagree, settled}
use Rattle.net.proofs.Keys.{key_at, key_storage}
use Rattle.net.proofs.Local.{excitation_local}
use Rattle.net.proofs.SignalTable.{at_signal, signal_at, signal_by, gather_lt, gather-place, spread_signal, excitation-gather, c1_by_signals}

module _ (N : Net) (y : ℕ) (p r : List ℕ) where
  pub length-signal_vector : length (signal_vector N y p r) ≡ signal_count N y
  unfolding signal_vector
  length-signal_vector = length-table (signal_count N y) _

  pub at-signal_vector : (i : ℕ) → i < signal_count N y → at (signal_vector N y p r) i ≡ symbol_signal N p r (decode (get_or (signals N y) i 0))
  unfolding signal_vector
  at-signal_vector = at_table (signal_count N y) _

  module _ (known : Known N) (lp : length p ≡ N.letter_count) (lr : length r ≡ key_count N) where
    -- ---- completions of the letters and the key nodes complete the signals

    state_covered : (a q : ℕ) → Completes p a → Completes r q → {s : ℕ} → Signal N y s → Covers (symbol_signal N p r (decode s)) (value N a q s)
    unfolding value symbol_value symbol_signal
    state_covered a q ca cq g = signal_by N y known (λ x. Covers (symbol_signal N p r x) (symbol_value N a q x)) g
        (λ j h l e. ca.covered (j - 1) (omega arith))
        (λ k l e. rw (key_at N k l).index (cq.covered k (omega arith)))

    gather_completes : (a q : ℕ) → Completes p a → Completes r q → Completes (signal_vector N y p r) (gather N y a q)
    gather_completes a q ca cq = record {
      below = rw length-signal_vector (gather_lt N y a q);
      covered = λ i l.
          let b : i < signal_count N y = rw length-signal_vector at l in
          rw (at-signal_vector i b, gather-place N y a q i b) (state_covered a q ca cq (signal_at N y i b));
    }

    -- ---- each completion of the signals comes from such: from those nearest to the spread state, which has all other letters and key nodes 0

    module _ (w : ℕ) (cw : Completes (signal_vector N y p r) w) where
      abbrev a₀ : ℕ
      a₀ = spread_input N y w

      abbrev q₀ : ℕ
      q₀ = spread_keys N y w

      spread_covered : {s : ℕ} → Signal N y s → Covers (symbol_signal N p r (decode s)) (value N a₀ q₀ s)
      unfolding signal_count signals
      spread_covered {s} g =
          let i = at_signal N y g in
          let c = cw.covered (signal_index N y s) (rw length-signal_vector i.inside) in
          rw (spread_signal N y known w g) (rw (at-signal_vector (signal_index N y s) i.inside, i.reads) at c)

      nearest_agrees : Agree N y (nearest p a₀) (nearest r q₀) a₀ q₀
      unfolding value symbol_value symbol_signal
      nearest_agrees s g =
          signal_by N y known (λ x. Covers (symbol_signal N p r x) (symbol_value N a₀ q₀ x) → symbol_value N (nearest p a₀) (nearest r q₀) x ≡ symbol_value N a₀ q₀ x) g
          (λ j h l e. nearest_same p a₀ (j - 1) (omega arith))
          (λ k l e. rw (key_at N k l).index (nearest_same r q₀ k (omega arith)))
          (spread_covered g)

module _ (N : Net) (known : Known N) (p r : List ℕ) (lp : length p ≡ N.letter_count) (lr : length r ≡ key_count N) (k : ℕ) (l : k < key_count N) where
  -- the ternary excitation of key node k, by the signals of its component
  pub common-signals : common (network N) p r k ≡ common_of (excitation_at N (key_vertex N k)) (signal_vector N (key_vertex N k) p r)
  unfolding excitation_at
  common-signals =
      let y = key_vertex N k in
      let sy = key_storage N y (key_at N k l).key in
      common_of-same (network N) p r k (excitation_at N y) (signal_vector N y p r)
      (λ a q ca cq. (gather N y a q, gather_completes N y p r known lp lr a q ca cq, sym (excitation-gather N y known sy a q)))
      (λ w cw.
      let a = spread_input N y w in
      let q = spread_keys N y w in
      (nearest p a, nearest r q, nearest_completes p a, nearest_completes r q, excitation_local N y _ _ _ _ sy (nearest_agrees N y p r known lp lr w cw)))

  -- the same as an entry of the table grown from its truth table
  pub common-grown : common (network N) p r k
      ≡ get_or (grow (signal_count N (key_vertex N k)) (map signal_of (truth_table N (key_vertex N k)))) (ternary_index (signal_vector N (key_vertex N k) p r)) X
  unfolding truth_table
  common-grown =
      let y = key_vertex N k in
      common-signals ∙ sym (grow-table (signal_count N y) (excitation_at N y) (signal_vector N y p r) (length-signal_vector N y p r))

-- under C1, a key node is X at a fixed point exactly if two assignments of its component's signals disagree on it
pub unknown_signals : (N : Net) → Known N → C1 N → (p r : List ℕ) → length p ≡ N.letter_count → H (network N) (key_count N) p r ≡ r
    → (k : ℕ) → k < key_count N → (at r k ≡ X) ↔ SignalsDisagree N p r (key_vertex N k)
unknown_signals N known c1 p r lp fixed k l =
    subst (λ s. (s ≡ X) ↔ SignalsDisagree N p r y) value_of (common_of_unknown (excitation_at N y) signals_of binary)
  where
    y : ℕ
    y = key_vertex N k

    signals_of : List ℕ
    signals_of = signal_vector N y p r

    value_of : common_of (excitation_at N y) signals_of ≡ at r k
    value_of =
        sym (common-signals N known p r lp (sym (ap length fixed) ∙ length-H (network N) (key_count N) p r) k l)
        ∙ sym (at_H (network N) (key_count N) p r k l) ∙ ap (λ v. at v k) fixed

    binary : (w : ℕ) → w < 2 ^ length signals_of → (excitation_at N y w ≡ 0) ⊎ (excitation_at N y w ≡ 1)
    binary w b = (binary_iff (excitation_at N y w)).0 ((c1_by_signals N known).0 c1 k l w (rw (length-signal_vector N y p r) at b))

-- ---- the two passes of a net

module _ (N : Net) (known : Known N) (A B q : ℕ) (g : Premises N.letter_count (key_count N) (network N) A B q) (k : ℕ) (l : k < key_count N) where
  pub first_pass_unknown : (at (settled N A B q).r k ≡ X) ↔ SignalsDisagree N (passes.mix N.letter_count A B) (settled N A B q).r (key_vertex N k)
  unfolding passes.settled
  first_pass_unknown =
      unknown_signals N known g.c1 _ _ (length-mix N.letter_count A B)
      (first_ends N.letter_count (key_count N) (network N) A B q g).is_fixed k l

  pub second_pass_unknown : (at (settled N A B q).t k ≡ X) ↔ SignalsDisagree N (table N.letter_count (bit B)) (settled N A B q).t (key_vertex N k)
  unfolding passes.settled
  second_pass_unknown =
      unknown_signals N known g.c1 _ _ (length-table N.letter_count (bit B))
      (second-ends N.letter_count (key_count N) (network N) A B q g).is_fixed k l
