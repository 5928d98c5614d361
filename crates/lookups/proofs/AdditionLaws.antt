-- The additions as a loop over the key nodes makes them: the columns before k are stored, the rest is zero.
use Prim.Native.Nat.{ℕ, ◌+◌, ◌*◌, ◌/◌, ◌%◌}
use mathlib.Core.Path.{◌≡◌, sym, ap, ◌∙◌}
use mathlib.Core.Bool.{Bool, cond}
use mathlib.Core.List.{List}
use native.Mathlib.Nat.{mul-zero}
use native.Mathlib.Omega.{arith}
use lib.Dec.{ltb}
use lib.ListN.{length, get_or}
use borrow.Author.Tests.{ltb-true, ltb-false, lt-ltb, le-ltb}
use Rattle.ternary.specs.TruthTable.{signal_kinds}
use Rattle.ternary.proofs.Tests.{by_test}
use Rattle.net.specs.declared.Net.{Net}
use Rattle.net.specs.Limits.{most_key_nodes}
use Rattle.net.specs.Graph.{key_count, key_vertex}
use Rattle.net.proofs.Filling.{zeros}
use Rattle.lanes.specs.Grid.{grid, set_column}
use Rattle.lanes.proofs.GridLaws.{length-grid, grid_ext}
use Rattle.lanes.proofs.ColumnLaws.{set_column-grid}
use Rattle.excitations.proofs.FirstRows.{zeros-grid}
use Rattle.states.specs.Weights.{variables, weight_in, weights_in}
use Rattle.states.proofs.WeightLaws.{weight_read}
use Rattle.states.proofs.WeightSums.{no_component_weight}
use Rattle.lookups.specs.Additions.{additions}

module _ (N : Net) where
  abbrev rows : ℕ
  rows = variables * signal_kinds

  -- what row r adds for key node k
  abbrev entry_of : ℕ → ℕ → ℕ
  entry_of r k = r % signal_kinds * weight_in signal_kinds N (key_vertex N k) (r / signal_kinds)

  unfoldable pub first_columns : ℕ → List ℕ
  first_columns n = grid most_key_nodes rows (λ r k. cond (ltb k n) (entry_of r k) 0)

  pub length-columns : (n : ℕ) → length (first_columns n) ≡ variables * signal_kinds * most_key_nodes
  unfolding first_columns
  length-columns n = length-grid most_key_nodes rows _

  -- before the first turn
  pub columns_none : zeros (variables * signal_kinds * most_key_nodes) ≡ first_columns 0
  unfolding first_columns
  columns_none = zeros-grid most_key_nodes rows _ (λ r k _ _. ap (λ (b : Bool). cond b (entry_of r k) 0) (le-ltb k 0 (omega arith)))

  -- a turn
  pub columns-step : (k : ℕ) {y : ℕ} {ws s t : List ℕ} → y ≡ key_vertex N k → ws ≡ weights_in signal_kinds N y → s ≡ first_columns k → t ≡ set_column most_key_nodes k (λ r. r % signal_kinds * get_or ws (r / signal_kinds) 0) s → t ≡ first_columns (k + 1)
  unfolding first_columns
  columns-step k ey ew es et =
      et ∙ rw (ew, ey, es)
      (set_column-grid most_key_nodes rows k _ _ _
      (λ r l. ap (λ (w : ℕ). r % signal_kinds * w) (weight_read signal_kinds N (key_vertex N k) (r / signal_kinds) (omega arith)) ∙ sym (ap (λ (b : Bool). cond b (entry_of r k) 0) (lt-ltb k (k + 1) (omega arith))))
      (λ r a _ _ o. by_test (ltb a k)
      (λ t. rw (t, lt-ltb a (k + 1) (omega (arith, ltb-true a k t))))
      (λ t. rw (t, le-ltb a (k + 1) (omega (arith, ltb-false a k t, o))))))

  -- after the last
  pub columns_all : first_columns (key_count N) ≡ additions N
  unfolding first_columns additions
  columns_all = grid_ext most_key_nodes rows _ _ (λ r k _ _. by_test (ltb k (key_count N))
      (λ t. rw t)
      (λ t. rw (t, no_component_weight N signal_kinds k (r / signal_kinds) (ltb-false k (key_count N) t)) (sym (mul-zero _))))
