-- Laws of grids: one column replaced, and a loop that stores a column from the top. Assumes nothing.
use Prim.Native.Nat.{ℕ, ◌+◌, ◌*◌, ◌/◌, ◌%◌, ◌<◌}
use mathlib.Core.Path.{◌≡◌, refl, sym, ap, subst, ◌∙◌}
use mathlib.Core.Bool.{cond}
use mathlib.Core.Logic.{◌⊎◌, inl, inr, ◌≢◌}
use mathlib.Core.List.{List}
use native.Mathlib.Nat.{div-add-mod', div-lt_iff_lt-mul}
use native.Mathlib.Omega.{arith}
use lib.Dec.{eqb}
use lib.ListN.{length, get_or, set, length-set}
use lib.Seq.{get_or-set_same, get_or-set_other, ext_get_or}
use borrow.Author.Tests.{eqb-true, eqb-false}
use Rattle.ternary.proofs.BitLaws.{quotient_rest}
use Rattle.ternary.proofs.ListLaws.{below_cases, length-table, get_or-table}
use Rattle.ternary.proofs.Tests.{cond_by}
use Rattle.lanes.specs.Grid.{grid, cell, set_column}
use Rattle.lanes.proofs.GridLaws.{cell_inside, length-grid, grid-cell, grid_list}

pub length-set_column : (w k : ℕ) (f : ℕ → ℕ) (r : List ℕ) → length (set_column w k f r) ≡ length r
unfolding set_column
length-set_column w k f r = length-table (length r) _

set_column_read : (w k : ℕ) (f : ℕ → ℕ) (r : List ℕ) (i : ℕ) → i < length r → get_or (set_column w k f r) i 0 ≡ cond (eqb (i % w) k) (f (i / w)) (get_or r i 0)
unfolding set_column
set_column_read w k f r i l = get_or-table (length r) (λ i. cond (eqb (i % w) k) (f (i / w)) (get_or r i 0)) i 0 l

-- a grid with one column replaced
pub set_column-grid : (w n k : ℕ) (f : ℕ → ℕ) (g h : ℕ → ℕ → ℕ) → ((v : ℕ) → v < n → f v ≡ h v k) → ((v a : ℕ) → v < n → a < w → a ≢ k → g v a ≡ h v a) → set_column w k f (grid w n g) ≡ grid w n h
set_column-grid w n k f g h same other =
    grid_list w n h (set_column w k f (grid w n g)) (length-set_column w k f _ ∙ length-grid w n g) entry
  where
    entry : (v a : ℕ) → v < n → a < w → cell w (set_column w k f (grid w n g)) v a ≡ h v a
    entry v a l b =
        let i = quotient_rest w v a b in
        set_column_read w k f (grid w n g) (v * w + a) (omega (arith, length-grid w n g, cell_inside w n v a b l))
        ∙ rw (i.0, i.1)
        (cond_by (λ (x : ℕ). x ≡ h v a) (eqb a k)
        (λ t. same v l ∙ ap (h v) (sym (eqb-true a k t)))
        (λ t. grid-cell w n g v a l b ∙ other v a l b (eqb-false a k t)))

-- ---- a loop that stores a column from the top

-- r is r₀ but for column k, whose entries before row v are those that f gives
pub record ColumnFilled (w k : ℕ) (f : ℕ → ℕ) (r₀ r : List ℕ) (v : ℕ) : Type 0 where
  pub size : length r ≡ length r₀
  pub stored : (u : ℕ) → u < v → cell w r u k ≡ f u
  pub kept : (i : ℕ) → i % w ≢ k → get_or r i 0 ≡ get_or r₀ i 0

-- before the first turn
pub column-start : {w k : ℕ} {f : ℕ → ℕ} {r : List ℕ} → ColumnFilled w k f r r 0
column-start = record { size = refl; stored = λ u l. absurd (omega arith); kept = λ i o. refl }

-- a turn
pub column-step : {w k : ℕ} {f : ℕ → ℕ} {r₀ r : List ℕ} {v x : ℕ} → ColumnFilled w k f r₀ r v → k < w → v * w + k < length r₀ → x ≡ f v → ColumnFilled w k f r₀ (set r (v * w + k) x) (v + 1)
column-step {w} {k} {f} {r₀} {r} {v} {x} m h l e =
    record {
      size = length-set r _ x ∙ m.size;
      stored = λ u i. go u (below_cases {i = u} {n = v} (omega arith));
      kept = λ i o. get_or-set_other r (v * w + k) i x 0 (λ q. o (ap (λ (j : ℕ). j % w) q ∙ (quotient_rest w v k h).1)) ∙ m.kept i o;
    }
  where
    go : (u : ℕ) → (u < v) ⊎ (u ≡ v) → cell w (set r (v * w + k) x) u k ≡ f u
    go u (inl i) = get_or-set_other r (v * w + k) (u * w + k) x 0 (omega (arith, cell_inside w v u k h i)) ∙ m.stored u i
    go u (inr i) = subst (λ (j : ℕ). cell w (set r (v * w + k) x) j k ≡ f j) (sym i) (get_or-set_same r (v * w + k) x 0 (omega (arith, m.size)) ∙ e)

-- after the last
pub column_end : {w k : ℕ} {f : ℕ → ℕ} {r₀ r : List ℕ} {v : ℕ} → ColumnFilled w k f r₀ r v → k < w → length r₀ ≡ v * w → r ≡ set_column w k f r₀
column_end {w} {k} {f} {r₀} {r} {v} m h q =
    ext_get_or 0 r (set_column w k f r₀) (m.size ∙ sym (length-set_column w k f r₀))
    (λ i l. let b : i < length r₀ = omega (arith, m.size) in entry i b ∙ sym (set_column_read w k f r₀ i b))
  where
    inside : (i : ℕ) → i < length r₀ → i % w ≡ k → get_or r i 0 ≡ f (i / w)
    inside i l e =
        ap (λ (j : ℕ). get_or r j 0) (sym (div-add-mod' i w) ∙ ap (λ (a : ℕ). i / w * w + a) e)
        ∙ m.stored (i / w) ((div-lt_iff_lt-mul {x = i} {y = v} (omega arith)).1 (omega arith))

    entry : (i : ℕ) → i < length r₀ → get_or r i 0 ≡ cond (eqb (i % w) k) (f (i / w)) (get_or r₀ i 0)
    entry i l = cond_by (λ (x : ℕ). get_or r i 0 ≡ x) (eqb (i % w) k)
        (λ t. inside i l (eqb-true (i % w) k t))
        (λ t. m.kept i (eqb-false (i % w) k t))
