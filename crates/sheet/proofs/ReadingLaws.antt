-- Whatever reads a net by rows: 0 exactly if none holds, a number exactly if its row is the first that does, then the empty record; and what a call gives that
-- goes on with the net.
use Prim.Native.Nat.{ℕ, ◌≤◌}
use native.Mathlib.Omega.{arith}
use mathlib.Core.Path.{◌≡◌, refl, ap, ◌∙◌}
use mathlib.Core.Logic.{◌↔◌}
use mathlib.Core.Bool.{true, cond}
use mathlib.Core.List.{List}
use mathlib.Core.Option.{Option}
use lib.Dec.{eqb}
use borrow.Author.Tests.{ne_eqb}
use Rattle.net.specs.declared.Net.{Net}
use Rattle.sheet.specs.declared.Answer.{Answer}
use Rattle.sheet.specs.declared.Reading.{Reading}
use Rattle.sheet.specs.Rows.{Row, answer, first_row, by_rows, answered, First, NoRow}
use Rattle.sheet.specs.Record.{refused, accepted, read_by}
use Rattle.sheet.proofs.RowLaws.{RowsAnswer, nothing, found, rows-answer, positive, positive-first, by_rows_fit, by_rows-first, by_rows-answer, answered_zero, answered_some}

module _ (rows : List Row) (numbers : positive rows ≡ true) (N : Net) {r : Reading} (by : r ≡ read_by rows N) where
  answers : r.answer ≡ answered (first_row rows)
  answers = ap (λ (x : Reading). x.answer) by ∙ by_rows-answer rows (accepted N) refused (λ x. x.answer) refl (λ a. refl)

  pub read_zero : (r.answer.number ≡ 0) ↔ NoRow rows
  read_zero = rw answers (answered_zero rows numbers)

  pub read_number : (n p : ℕ) → 1 ≤ n → (r.answer ≡ answer n p) ↔ First rows n p
  read_number n p l = rw answers (answered_some rows n p l)

  pub read_refused : (n p : ℕ) → First rows n p → r ≡ refused (answer n p)
  read_refused n p f = by ∙ by_rows-first rows (accepted N) refused n p f

  pub read_accepted : NoRow rows → r ≡ accepted N
  read_accepted f = by ∙ by_rows_fit rows (accepted N) refused f

  pub read_then : {A : Type 0} (good : Net → A) (bad : Answer → A) → cond (eqb r.answer.number 0) (good r.net) (bad r.answer) ≡ by_rows rows (good N) bad
  read_then good bad = go (rows-answer rows)
    where
      go : {o : Option Answer} → RowsAnswer rows o → cond (eqb r.answer.number 0) (good r.net) (bad r.answer) ≡ by_rows rows (good N) bad
      go (nothing f) = rw (read_accepted f, by_rows_fit rows (good N) bad f)
      go (found {n = n} {p = p} f) = rw (read_refused n p f, ne_eqb n 0 (omega (arith, positive-first numbers f)), by_rows-first rows (good N) bad n p f)
