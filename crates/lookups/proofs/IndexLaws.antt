-- The index that the look-ups add up for a key node is the index of its component's signals in a grown table.
use Prim.Native.Nat.{ℕ, zero, suc, ◌+◌, ◌*◌, ◌^◌, ◌/◌, ◌%◌, ◌<◌, ◌≤◌}
use mathlib.Core.Path.{◌≡◌, refl, sym, ap, ap₂, ◌∙◌}
use mathlib.Core.List.{List}
use native.Mathlib.Nat.{zero-add, zero-mul, mul_comm, pow-le-pow_right}
use native.Mathlib.Omega.{arith}
use lib.Dec.{ltb}
use lib.ListN.{get_or}
use borrow.Author.Tests.{ltb-true, ltb-false}
use Rattle.ternary.specs.Signal.{at}
use Rattle.ternary.specs.TruthTable.{signal_kinds, ternary_digit, ternary_index}
use Rattle.ternary.proofs.BitLaws.{quotient_rest}
use Rattle.ternary.proofs.Tests.{by_test}
use Rattle.ternary.proofs.SignalLaws.{at_table}
use Rattle.ternary.proofs.TruthTableLaws.{ternary_digit_lt, ternary_index_lt}
use Rattle.net.specs.declared.Net.{Net}
use Rattle.net.specs.Limits.{most_letters, most_key_nodes}
use Rattle.net.specs.Symbols.{decode}
use Rattle.net.specs.Graph.{key_count, key_vertex}
use Rattle.net.specs.SignalTable.{signal_count}
use Rattle.net.specs.Component.{signals}
use Rattle.net.specs.Ternary.{symbol_signal, signal_vector}
use Rattle.net.proofs.Keys.{key_at, key_storage}
use Rattle.net.proofs.TernaryLaws.{length-signal_vector}
use Rattle.lanes.specs.Grid.{cell}
use Rattle.lanes.proofs.GridLaws.{cell_inside, grid-cell}
use Rattle.excitations.specs.Fit.{Fit}
use Rattle.states.specs.Weights.{variables, weight_in}
use Rattle.states.proofs.Variables.{letter_signal, key_signal}
use Rattle.states.proofs.Sums.{sum_below, sum_ext, sum_none, ternary_index-sum}
use Rattle.states.proofs.WeightSums.{signals-sum, no_component_weight}
use Rattle.lookups.specs.TernaryTables.{ternary_assignments}
use Rattle.lookups.specs.Additions.{additions}
use Rattle.lookups.specs.LookUps.{added, index_by, Indexed}
use Rattle.lookups.specs.Passing.{padded}
use Rattle.lookups.proofs.TableLaws.{ternary_assignments_power}

-- ---- sums of entries

added-sum : (A : List ℕ) (from : ℕ) (s : List ℕ) (n k : ℕ) → added A from s n k ≡ sum_below n (λ i. cell most_key_nodes A ((from + i) * signal_kinds + ternary_digit (at s i)) k)
unfolding added sum_below
added-sum A from s zero k = refl
added-sum A from s (suc n) k = ap (λ (x : ℕ). x + cell most_key_nodes A ((from + n) * signal_kinds + ternary_digit (at s n)) k) (added-sum A from s n k)

-- signals beyond the n that are added do not matter
added-padded : (A : List ℕ) (from : ℕ) (s : List ℕ) (n k : ℕ) → added A from (padded n s) n k ≡ added A from s n k
added-padded A from s n k =
    added-sum A from (padded n s) n k
    ∙ sum_ext n _ _ (λ i l. ap (λ (x : ℕ). cell most_key_nodes A ((from + i) * signal_kinds + ternary_digit x) k) (at_table n (at s) i l))
    ∙ sym (added-sum A from s n k)

module _ (N : Net) (k : ℕ) (h : k < most_key_nodes) where
  -- what digit x of variable i adds
  addition : (i x : ℕ) → i < variables → x < signal_kinds → cell most_key_nodes (additions N) (i * signal_kinds + x) k ≡ weight_in signal_kinds N (key_vertex N k) i * x
  unfolding additions
  addition i x l b =
      let c = quotient_rest signal_kinds i x b in
      grid-cell most_key_nodes (variables * signal_kinds) (λ r k. r % signal_kinds * weight_in signal_kinds N (key_vertex N k) (r / signal_kinds)) (i * signal_kinds + x) k (cell_inside signal_kinds variables i x b l) h
      ∙ ap₂ (λ d j. d * weight_in signal_kinds N (key_vertex N k) j) c.1 c.0
      ∙ mul_comm x _

  additions-sum : (from : ℕ) (s : List ℕ) (n : ℕ) → from + n ≤ variables → added (additions N) from s n k ≡ sum_below n (λ i. weight_in signal_kinds N (key_vertex N k) (from + i) * ternary_digit (at s i))
  additions-sum from s n l = added-sum (additions N) from s n k ∙ sum_ext n _ _ (λ i b. addition (from + i) (ternary_digit (at s i)) (omega arith) (ternary_digit_lt (at s i)))

  -- beyond the last key node
  additions_none : (from : ℕ) (s : List ℕ) (n : ℕ) → from + n ≤ variables → key_count N ≤ k → added (additions N) from s n k ≡ 0
  additions_none from s n l e = additions-sum from s n l ∙ sum_none n _ (λ i _. rw (no_component_weight N signal_kinds k (from + i) e) (zero-mul _))

  -- ---- the index of a vector

  module _ (fit : Fit N) (p v : List ℕ) where
    index_signals : index_by (additions N) p v k ≡ ternary_index (signal_vector N (key_vertex N k) p v)
    unfolding signal_vector
    index_signals =
        let y = key_vertex N k in
        ap₂ (λ x y. x + y)
        (additions-sum 0 p most_letters (omega arith) ∙ sum_ext most_letters _ _ (λ j _. ap (λ (i : ℕ). weight_in signal_kinds N y i * ternary_digit (at p j)) (zero-add j)))
        (additions-sum most_letters v most_key_nodes (omega arith))
        ∙ sym (signals-sum signal_kinds N y (λ s. ternary_digit (symbol_signal N p v (decode s))) fit (λ j. ternary_digit (at p j)) (λ i. ternary_digit (at v i))
        (λ j l. ap ternary_digit (letter_signal N p v j l))
        (λ i l. ap ternary_digit (key_signal N p v i fit.readable.vertices l)))
        ∙ sym (ternary_index-sum (signal_count N y) (λ i. symbol_signal N p v (decode (get_or (signals N y) i 0))))

    index_lt : index_by (additions N) p v k < ternary_assignments
    index_lt = by_test (ltb k (key_count N))
        (λ t.
        let y = key_vertex N k in
        let sy = key_storage N y (key_at N k (ltb-true k (key_count N) t)).key in
        omega (
          arith,
          index_signals,
          ternary_index_lt (signal_vector N y p v),
          ap (λ (n : ℕ). signal_kinds ^ n) (length-signal_vector N y p v),
          pow-le-pow_right {n = signal_kinds} (omega arith) (fit.signals y sy),
          ternary_assignments_power,
        ))
        (λ t.
        let e = ltb-false k (key_count N) t in
        omega (arith, additions_none 0 p most_letters (omega arith) e, additions_none most_letters v most_key_nodes (omega arith) e))

-- the vectors of the passes have a place for each letter and each key node that a net may have
pub index_at : (N : Net) → Fit N → (p v : List ℕ) (k : ℕ) → k < key_count N
    → index_by (additions N) (padded most_letters p) (padded most_key_nodes v) k ≡ ternary_index (signal_vector N (key_vertex N k) p v)
index_at N fit p v k l =
    ap₂ (λ x y. x + y) (added-padded (additions N) 0 p most_letters k) (added-padded (additions N) most_letters v most_key_nodes k)
    ∙ index_signals N k (omega (arith, fit.keys)) fit p v

pub additions_indexed : (N : Net) → Fit N → Indexed (additions N)
additions_indexed N fit p v k h = index_lt N k h fit p v
