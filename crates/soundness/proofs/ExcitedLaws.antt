-- The call for one vertex: a value where no row's condition holds, else the number of the first that does.
use Prim.Native.Nat.{ℕ, ◌≤◌}
use native.Mathlib.Omega.{arith}
use mathlib.Core.Path.{◌≡◌, refl, sym, ap, subst, ◌∙◌}
use mathlib.Core.List.{List}
use mathlib.Core.Bool.{true, true≢false}
use mathlib.Core.Logic.{◌↔◌}
use mathlib.Core.Option.{Option, none}
use borrow.Author.Tests.{lt-ltb}
use Rattle.net.specs.declared.Net.{Net}
use Rattle.net.specs.Graph.{is_storage}
use Rattle.net.specs.Excitation.{excitation}
use Rattle.net.specs.Network.{Clean}
use Rattle.sheet.specs.declared.Answer.{Answer}
use Rattle.sheet.specs.Rows.{Row, first_row, First, NoRow}
use Rattle.sheet.specs.Valid.{valid}
use Rattle.sheet.proofs.RowLaws.{RowsAnswer, nothing, found, rows-answer, positive, positive-first, first_none, by_rows_fit, by_rows-first}
use Rattle.std.specs.Prelude.{Ok, Err}
use Rattle.soundness.specs.Excited.{excitation_rows, excited_of, excited_number}

module _ (N : Net) (a q y : ℕ) where
  abbrev rows : List Row
  rows = excitation_rows N a q y

  no_row : NoRow rows → excited_of N a q y ≡ Ok (excitation N a q y)
  unfolding excited_of
  no_row h = by_rows_fit rows _ _ h

  a_row : (n p : ℕ) → First rows n p → excited_of N a q y ≡ Err n
  unfolding excited_of
  a_row n p h = by_rows-first rows _ _ n p h

  pub excited_value_lem : (v : ℕ) → (excited_of N a q y ≡ Ok v) ↔ (NoRow rows × (excitation N a q y ≡ v))
  excited_value_lem v = (λ e. there e (rows-answer rows), λ h. no_row h.0 ∙ ap Ok h.1)
    where
      there : excited_of N a q y ≡ Ok v → {o : Option Answer} → RowsAnswer rows o → NoRow rows × (excitation N a q y ≡ v)
      there e (nothing h) = let f = no_row h in (h, cc)
      there e (found {n = n} {p = p} h) = let f = a_row n p h in absurd (true≢false (cc))

  pub excited_refused : (n : ℕ) → (excited_of N a q y ≡ Err n) ↔ ((p : ℕ) × First rows n p)
  excited_refused n = (λ e. there e (rows-answer rows), λ (p, h). a_row n p h)
    where
      there : excited_of N a q y ≡ Err n → {o : Option Answer} → RowsAnswer rows o → (p : ℕ) × First rows n p
      there e (nothing h) = let f = no_row h in absurd (true≢false (cc))
      there e (found {n = m} {p = p} h) =
          let f = a_row m p h in
          let same : m ≡ n = cc in
          (p, subst (λ (k : ℕ). First rows k p) same h)

  -- fit numbers give a value
  pub excited_accepts : valid N ≡ true → Clean N a q → is_storage N y ≡ true → excited_of N a q y ≡ Ok (excitation N a q y)
  unfolding excitation_rows first_row
  excited_accepts v c s = no_row ((first_none rows).0 (rows_pass v c s))
    where
      rows_pass : valid N ≡ true → Clean N a q → is_storage N y ≡ true → first_row rows ≡ none
      rows_pass v c s = rw (v, lt-ltb a _ c.input, lt-ltb q _ c.key, s)

  -- number 0 exactly if no row's condition holds, and number n exactly if row n is the first whose condition does
  pub excited_zero : (excited_number (excited_of N a q y) ≡ 0) ↔ NoRow rows
  unfolding positive excitation_rows
  excited_zero = (λ e. there e (rows-answer rows), λ h. ap excited_number (no_row h))
    where
      there : excited_number (excited_of N a q y) ≡ 0 → {o : Option Answer} → RowsAnswer rows o → NoRow rows
      there e (nothing h) = h
      there e (found {n = n} {p = p} h) = absurd (omega (arith, positive-first refl h, ap excited_number (a_row n p h)))

  pub excited_number_lem : (n : ℕ) → 1 ≤ n → (excited_number (excited_of N a q y) ≡ n) ↔ ((p : ℕ) × First rows n p)
  excited_number_lem n l = (λ e. there e (rows-answer rows), λ (p, h). ap excited_number (a_row n p h))
    where
      there : excited_number (excited_of N a q y) ≡ n → {o : Option Answer} → RowsAnswer rows o → (p : ℕ) × First rows n p
      there e (nothing h) = absurd (omega (arith, ap excited_number (no_row h)))
      there e (found {n = m} {p = p} h) =
          let same : m ≡ n = sym (ap excited_number (a_row m p h)) ∙ e in
          (p, subst (λ (k : ℕ). First rows k p) same h)
