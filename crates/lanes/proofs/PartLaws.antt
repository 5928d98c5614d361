-- A row of a grid as a part of its list, read or written. Assumes nothing.
use Prim.Native.Nat.{ℕ, ◌+◌, ◌-◌, ◌*◌, ◌<◌, ◌≤◌}
use mathlib.Core.Path.{◌≡◌, refl, sym, ap, ◌∙◌}
use mathlib.Core.List.{List}
use native.Mathlib.Nat.{suc-mul, mul-le-mul_right}
use native.Mathlib.Omega.{arith}
use lib.ListN.{length, get_or, take, drop, length-drop, get_or-append}
use lib.Seq.{length-take-le, get_or-take, get_or-drop, get_or-append-add, ext_get_or}
use borrow.Rule.Slice.PartMut.{put_mid, same_len_mid, mid_len, take_put, drop_put}
use Rattle.ternary.specs.Lists.{table}
use Rattle.ternary.proofs.ListLaws.{length-table, get_or-table}
use Rattle.lanes.specs.Grid.{grid, cell, set_row}
use Rattle.lanes.proofs.GridLaws.{length-grid, grid-cell, row_end}

pub grid-row : (w n v : ℕ) (f : ℕ → ℕ → ℕ) → v < n → take w (drop (v * w) (grid w n f)) ≡ table w (f v)
grid-row w n v f l = ext_get_or 0 _ (table w (f v)) (size ∙ sym (length-table w (f v))) (λ i h. entry i (omega (arith, size)))
  where
    size : length (take w (drop (v * w) (grid w n f))) ≡ w
    size = length-take-le w (drop (v * w) (grid w n f)) (rw (length-drop (v * w) (grid w n f), length-grid w n f) (omega (arith, suc-mul v w, mul-le-mul_right w l)))

    entry : (i : ℕ) → i < w → get_or (take w (drop (v * w) (grid w n f))) i 0 ≡ get_or (table w (f v)) i 0
    entry i h = get_or-take w _ i 0 h ∙ get_or-drop (v * w) (grid w n f) i 0 ∙ grid-cell w n f v i l h ∙ sym (get_or-table w (f v) i 0 h)

-- p in the place of row v
pub put-row : (w v : ℕ) (r p : List ℕ) → 0 < w → v * w + w ≤ length r → length p ≡ w → put_mid (v * w) (v * w + w - v * w) r p ≡ set_row w v (λ i. get_or p i 0) r
put-row w v r p h l e = row_end (record { size = size; stored = stored; below = below; above = above }) h refl
  where
    whole : List ℕ
    whole = put_mid (v * w) (v * w + w - v * w) r p

    size : length whole ≡ length r
    size = same_len_mid (v * w) (v * w + w - v * w) r p (e ∙ sym (mid_len (v * w) (v * w + w) r l ∙ omega arith))

    stored : (b : ℕ) → b < w → cell w whole v b ≡ get_or p b 0
    stored b k =
        let front : length (take (v * w) r) ≡ v * w = length-take-le (v * w) r (omega arith) in
        ap (λ (j : ℕ). get_or whole j 0) (omega (arith, front))
        ∙ get_or-append-add (take (v * w) r) _ b 0
        ∙ get_or-append p _ 0 b (omega arith)

    below : (i : ℕ) → i < v * w → get_or whole i 0 ≡ get_or r i 0
    below i k =
        sym (get_or-take (v * w) whole i 0 k)
        ∙ ap (λ (x : List ℕ). get_or x i 0) (take_put (v * w) (v * w + w - v * w) r p (omega arith))
        ∙ get_or-take (v * w) r i 0 k

    above : (i : ℕ) → v * w + w ≤ i → get_or whole i 0 ≡ get_or r i 0
    above i k =
        let q : i ≡ v * w + w + (i - (v * w + w)) = omega arith in
        ap (λ (j : ℕ). get_or whole j 0) q
        ∙ sym (get_or-drop (v * w + w) whole _ 0)
        ∙ ap (λ (x : List ℕ). get_or x (i - (v * w + w)) 0) (drop_put (v * w) (v * w + w) r p (omega arith) l (omega arith))
        ∙ get_or-drop (v * w + w) r _ 0
        ∙ ap (λ (j : ℕ). get_or r j 0) (sym q)
