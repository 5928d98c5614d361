-- The call for the number of key nodes, by its row: for the code, and by what is declared of rows.
use Prim.Native.Nat.{ℕ, ◌≤◌}
use mathlib.Core.Path.{◌≡◌, refl}
use mathlib.Core.Bool.{true, false}
use mathlib.Core.Logic.{◌↔◌}
use Rattle.net.specs.declared.Net.{Net}
use Rattle.net.specs.Graph.{key_count}
use Rattle.sheet.specs.Rows.{answer, answered, first_row, by_rows, First, NoRow}
use Rattle.sheet.specs.Valid.{valid}
use Rattle.sheet.proofs.RowLaws.{positive, answered_zero, answered_some, by_rows-answer, by_rows_fit, by_rows-first}
use Rattle.soundness.specs.declared.KeyNodes.{KeyNodes}
use Rattle.soundness.specs.KeyNodes.{key_nodes, key_nodes_rows, key_nodes_of}

module _ (N : Net) where
  pub no_record : valid N ≡ false → key_nodes (answer 41 0) 0 ≡ key_nodes_of N
  unfolding key_nodes_of key_nodes_rows by_rows first_row
  no_record e = rw e

  pub counted : valid N ≡ true → {h : ℕ} → h ≡ key_count N → key_nodes (answer 0 0) h ≡ key_nodes_of N
  unfolding key_nodes_of key_nodes_rows by_rows first_row
  counted e same = rw (e, same)

  answer_by_row : (key_nodes_of N).answer ≡ answered (first_row (key_nodes_rows N))
  unfolding key_nodes_of
  answer_by_row = by_rows-answer (key_nodes_rows N) _ _ (λ (k : KeyNodes). k.answer) refl (λ a. refl)

  pub nodes_zero : ((key_nodes_of N).answer.number ≡ 0) ↔ NoRow (key_nodes_rows N)
  unfolding key_nodes_rows positive
  nodes_zero = rw answer_by_row (answered_zero (key_nodes_rows N) refl)

  pub nodes_number : (n p : ℕ) → 1 ≤ n → ((key_nodes_of N).answer ≡ answer n p) ↔ First (key_nodes_rows N) n p
  nodes_number = rw answer_by_row (answered_some (key_nodes_rows N))

  pub nodes_fit : NoRow (key_nodes_rows N) → key_nodes_of N ≡ key_nodes (answer 0 0) (key_count N)
  unfolding key_nodes_of
  nodes_fit f = by_rows_fit (key_nodes_rows N) _ _ f

  pub nodes_refused : (n p : ℕ) → First (key_nodes_rows N) n p → key_nodes_of N ≡ key_nodes (answer n p) 0
  unfolding key_nodes_of
  nodes_refused n p f = by_rows-first (key_nodes_rows N) _ _ n p f
