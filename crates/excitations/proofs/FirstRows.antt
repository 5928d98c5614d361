-- A loop that stores a grid row by row from the front: the first n rows are stored, the others are zero. Assumes nothing.
use Prim.Native.Nat.{ℕ, ◌+◌, ◌*◌, ◌<◌, ◌≤◌}
use mathlib.Core.Path.{◌≡◌, sym, ap, ◌∙◌}
use mathlib.Core.Bool.{Bool, cond}
use mathlib.Core.List.{List}
use mathlib.Core.Logic.{◌≢◌}
use native.Mathlib.Omega.{arith}
use lib.Dec.{eqb, ltb}
use lib.ListN.{length, length-replicate}
use borrow.Author.Tests.{eqb-true, eqb-false, ltb-true, ltb-false, lt-ltb, le-ltb}
use Rattle.ternary.proofs.Tests.{by_test}
use Rattle.net.proofs.Filling.{zeros, zeros_read}
use Rattle.lanes.specs.Grid.{grid, cell, set_row}
use Rattle.lanes.proofs.GridLaws.{length-grid, grid-cell, grid_list, grid_ext, set_row-grid}

-- a grid of zeros
pub zeros-grid : (w m : ℕ) (f : ℕ → ℕ → ℕ) → ((v a : ℕ) → v < m → a < w → f v a ≡ 0) → zeros (m * w) ≡ grid w m f
zeros-grid w m f e = grid_list w m f (zeros (m * w)) (length-replicate (m * w) _) (λ v a l h. zeros_read (m * w) (v * w + a) ∙ sym (e v a l h))

module _ (w m : ℕ) (f : ℕ → ℕ → ℕ) where
  unfoldable pub first_rows : ℕ → List ℕ
  first_rows n = grid w m (λ v a. cond (ltb v n) (f v a) 0)

  pub length-rows : (n : ℕ) → length (first_rows n) ≡ m * w
  unfolding first_rows
  length-rows n = length-grid w m _

  -- a row that is stored
  pub rows_read : (n v a : ℕ) → v < n → v < m → a < w → cell w (first_rows n) v a ≡ f v a
  unfolding first_rows
  rows_read n v a h l b = grid-cell w m _ v a l b ∙ ap (λ (t : Bool). cond t (f v a) 0) (lt-ltb v n h)

  -- before the first turn
  pub rows_none : zeros (m * w) ≡ first_rows 0
  unfolding first_rows
  rows_none = zeros-grid w m _ (λ v a _ _. ap (λ (b : Bool). cond b (f v a) 0) (le-ltb v 0 (omega arith)))

  -- a row other than n is the same after n turns and after one more
  same_row : (n v a : ℕ) → v ≢ n → cond (ltb v n) (f v a) 0 ≡ cond (ltb v (n + 1)) (f v a) 0
  same_row n v a h = by_test (ltb v n)
      (λ t. rw (t, lt-ltb v (n + 1) (omega (arith, ltb-true v n t))))
      (λ t. rw (t, le-ltb v (n + 1) (omega (arith, ltb-false v n t, h))))

  -- a turn
  pub rows_step : (n : ℕ) (g : ℕ → ℕ) → n < m → ((a : ℕ) → a < w → g a ≡ f n a) → set_row w n g (first_rows n) ≡ first_rows (n + 1)
  unfolding first_rows
  rows_step n g l e =
      set_row-grid w m n g _ _ l
      (λ a h. e a h ∙ sym (ap (λ (b : Bool). cond b (f n a) 0) (lt-ltb n (n + 1) (omega arith))))
      (λ v a _ o _. same_row n v a o)

  -- a turn that leaves a row of zeros
  pub rows_skip : (n : ℕ) → ((a : ℕ) → a < w → f n a ≡ 0) → first_rows n ≡ first_rows (n + 1)
  unfolding first_rows
  rows_skip n e = grid_ext w m _ _ (λ v a _ h. by_test (eqb v n) (λ t. at_row v a h (eqb-true v n t)) (λ t. same_row n v a (eqb-false v n t)))
    where
      at_row : (v a : ℕ) → a < w → v ≡ n → cond (ltb v n) (f v a) 0 ≡ cond (ltb v (n + 1)) (f v a) 0
      at_row v a h q = rw (q, le-ltb n n (omega arith), lt-ltb n (n + 1) (omega arith)) (sym (e a h))

  -- after the last: the rows that were never stored are zero
  pub rows_end : (n : ℕ) → ((v a : ℕ) → n ≤ v → v < m → a < w → f v a ≡ 0) → first_rows n ≡ grid w m f
  unfolding first_rows
  rows_end n e = grid_ext w m _ _ (λ v a l h. by_test (ltb v n) (λ t. rw t) (λ t. rw t (sym (e v a (ltb-false v n t) l h))))
