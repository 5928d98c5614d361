-- A look_up for each key node gives the ternary excitation of a net.
use Prim.Native.Nat.{ℕ, ◌<◌}
use mathlib.Core.Path.{◌≡◌, sym, ap, ◌∙◌}
use mathlib.Core.List.{List}
use native.Mathlib.Omega.{arith}
use lib.Dec.{ltb}
use lib.ListN.{length, get_or-eq_default}
use borrow.Author.Tests.{ltb-true, ltb-false}
use Rattle.ternary.specs.Signal.{at}
use Rattle.ternary.specs.Excitation.{H}
use Rattle.ternary.proofs.Tests.{cond_by}
use Rattle.ternary.proofs.ListLaws.{table_ext}
use Rattle.ternary.proofs.ExcitationLaws.{length-H, at_H}
use Rattle.net.specs.declared.Net.{Net}
use Rattle.net.specs.Limits.{most_letters, most_key_nodes}
use Rattle.net.specs.Graph.{key_count, key_vertex}
use Rattle.net.specs.Network.{network}
use Rattle.net.specs.WellFormed.{C1}
use Rattle.net.specs.Ternary.{signal_vector}
use Rattle.net.proofs.TernaryLaws.{length-signal_vector, common-signals}
use Rattle.lanes.specs.Grid.{cell}
use Rattle.excitations.specs.Fit.{Fit}
use Rattle.lookups.specs.TernaryTables.{ternary_assignments, ternary_tables}
use Rattle.lookups.specs.Additions.{additions}
use Rattle.lookups.specs.LookUps.{index_by, looked_up}
use Rattle.lookups.specs.Passing.{padded}
use Rattle.lookups.proofs.TableLaws.{table_at}
use Rattle.lookups.proofs.IndexLaws.{index_at}

module _ (N : Net) (fit : Fit N) (c1 : C1 N) where
  pub look_up : (p v : List ℕ) → length p ≡ N.letter_count → length v ≡ key_count N
      → looked_up (ternary_tables N) (additions N) (key_count N) (padded most_letters p) (padded most_key_nodes v) ≡ padded most_key_nodes (H (network N) (key_count N) p v)
  unfolding looked_up
  look_up p v lp lv = table_ext most_key_nodes _ _ (λ k _. cond_by (λ (x : ℕ). x ≡ at (H (network N) (key_count N) p v) k) (ltb k (key_count N))
      (λ t. found k (ltb-true k (key_count N) t))
      (λ t. sym (get_or-eq_default (H (network N) (key_count N) p v) 0 (omega (arith, ltb-false k (key_count N) t, length-H (network N) (key_count N) p v)))))
    where
      found : (k : ℕ) → k < key_count N
          → cell ternary_assignments (ternary_tables N) k (index_by (additions N) (padded most_letters p) (padded most_key_nodes v) k) ≡ at (H (network N) (key_count N) p v) k
      found k l =
          let y = key_vertex N k in
          ap (cell ternary_assignments (ternary_tables N) k) (index_at N fit p v k l)
          ∙ table_at N fit c1 k l (signal_vector N y p v) (length-signal_vector N y p v)
          ∙ sym (common-signals N fit.known p v lp lv k l)
          ∙ sym (at_H (network N) (key_count N) p v k l)
