-- Laws of grids: their entries, one row replaced, several rows replaced, and a loop that stores a row from the front. Assumes nothing.
use Prim.Native.Nat.{ℕ, zero, suc, ◌+◌, ◌-◌, ◌*◌, ◌/◌, ◌%◌, ◌<◌, ◌≤◌}
use mathlib.Core.Path.{◌≡◌, refl, sym, ap, ap₂, subst, ◌∙◌}
use mathlib.Core.Bool.{Bool, false, cond, ◌&&◌}
use mathlib.Core.Logic.{◌⊎◌, inl, inr, ◌≢◌}
use mathlib.Core.List.{List}
use native.Mathlib.Nat.{zero-add, mul-zero, suc-mul, mul-le-mul_right, mod-lt, div-add-mod', div-lt_iff_lt-mul, le-div_iff_mul-le}
use native.Mathlib.Omega.{arith}
use lib.Dec.{eqb, leb, ltb}
use lib.ListN.{length, get_or, set, length-set, get_or-eq_default}
use lib.Seq.{get_or-set_same, get_or-set_other, ext_get_or}
use borrow.Author.Tests.{eqb-true, eqb-false, eq-eqb, ne_eqb, le-leb, lt-leb, ltb-true, ltb-false, lt-ltb, le-ltb}
use Rattle.ternary.proofs.BitLaws.{quotient_rest}
use Rattle.ternary.proofs.ListLaws.{below_cases, length-table, get_or-table, table_ext}
use Rattle.ternary.proofs.Tests.{by_test, cond_by}
use Rattle.lanes.specs.Grid.{grid, cell, set_row, set_rows}

-- ---- places

pub cell_inside : (w n v a : ℕ) → a < w → v < n → v * w + a < n * w
cell_inside w n v a h l = omega (arith, suc-mul v w, mul-le-mul_right w l)

-- a grid that has a place has a width
width : (w n i : ℕ) → i < n * w → 0 < w
width zero n i l = absurd (omega (arith, mul-zero n))
width (suc w) n i l = omega arith

-- a fact of each entry holds at each place
pub every-place : (w n : ℕ) (P : ℕ → Type 0) → ((v a : ℕ) → v < n → a < w → P (v * w + a)) → (i : ℕ) → i < n * w → P i
every-place w n P h i l =
    let p : 0 < w = width w n i l in
    subst P (div-add-mod' i w) (h (i / w) (i % w) ((div-lt_iff_lt-mul p).1 l) (mod-lt i p))

-- ---- grids

pub length-grid : (w n : ℕ) (f : ℕ → ℕ → ℕ) → length (grid w n f) ≡ n * w
unfolding grid
length-grid w n f = length-table (n * w) _

pub grid-cell : (w n : ℕ) (f : ℕ → ℕ → ℕ) (v a : ℕ) → v < n → a < w → cell w (grid w n f) v a ≡ f v a
unfolding grid
grid-cell w n f v a l h =
    get_or-table (n * w) (λ i. f (i / w) (i % w)) (v * w + a) 0 (cell_inside w n v a h l) ∙ ap₂ f (quotient_rest w v a h).0 (quotient_rest w v a h).1

-- a list with the entries of a grid
pub grid_list : (w n : ℕ) (f : ℕ → ℕ → ℕ) (r : List ℕ) → length r ≡ n * w → ((v a : ℕ) → v < n → a < w → cell w r v a ≡ f v a) → r ≡ grid w n f
grid_list w n f r e h =
    ext_get_or 0 r (grid w n f) (e ∙ sym (length-grid w n f))
    (λ i l. every-place w n (λ (k : ℕ). get_or r k 0 ≡ get_or (grid w n f) k 0) (λ v a m b. h v a m b ∙ sym (grid-cell w n f v a m b)) i (omega arith))

pub grid_ext : (w n : ℕ) (f g : ℕ → ℕ → ℕ) → ((v a : ℕ) → v < n → a < w → f v a ≡ g v a) → grid w n f ≡ grid w n g
grid_ext w n f g h = grid_list w n g (grid w n f) (length-grid w n f) (λ v a l b. grid-cell w n f v a l b ∙ h v a l b)

-- ---- one row replaced

pub length-set_row : (w v : ℕ) (f : ℕ → ℕ) (r : List ℕ) → length (set_row w v f r) ≡ length r
unfolding set_row
length-set_row w v f r = length-table (length r) _

set_row_read : (w v : ℕ) (f : ℕ → ℕ) (r : List ℕ) (i : ℕ) → i < length r → get_or (set_row w v f r) i 0 ≡ cond (eqb (i / w) v) (f (i % w)) (get_or r i 0)
unfolding set_row
set_row_read w v f r i l = get_or-table (length r) (λ i. cond (eqb (i / w) v) (f (i % w)) (get_or r i 0)) i 0 l

pub set_row-same : (w v : ℕ) (f : ℕ → ℕ) (r : List ℕ) (a : ℕ) → a < w → v * w + a < length r → cell w (set_row w v f r) v a ≡ f a
set_row-same w v f r a h l =
    set_row_read w v f r (v * w + a) l
    ∙ ap (λ (b : Bool). cond b (f ((v * w + a) % w)) (cell w r v a)) (eq-eqb _ v (quotient_rest w v a h).0)
    ∙ ap f (quotient_rest w v a h).1

-- out of range both are 0
pub set_row-other : (w v : ℕ) (f : ℕ → ℕ) (r : List ℕ) (u a : ℕ) → a < w → u ≢ v → cell w (set_row w v f r) u a ≡ cell w r u a
set_row-other w v f r u a h n =
    by_test (ltb i (length r))
    (λ t. set_row_read w v f r i (ltb-true i _ t) ∙ ap (λ (b : Bool). cond b (f (i % w)) (get_or r i 0)) (ne_eqb _ v (λ e. n (sym (quotient_rest w u a h).0 ∙ e))))
    (λ t. get_or-eq_default (set_row w v f r) 0 (omega (arith, ltb-false i _ t, length-set_row w v f r)) ∙ sym (get_or-eq_default r 0 (ltb-false i _ t)))
  where
    i : ℕ
    i = u * w + a

pub set_row_ext : (w v : ℕ) (f g : ℕ → ℕ) (r : List ℕ) → 0 < w → ((a : ℕ) → a < w → f a ≡ g a) → set_row w v f r ≡ set_row w v g r
unfolding set_row
set_row_ext w v f g r p e =
    table_ext (length r) _ _ (λ i l. ap (λ (x : ℕ). cond (eqb (i / w) v) x (get_or r i 0)) (e (i % w) (mod-lt i p)))

-- a grid with one row replaced
pub set_row-grid : (w n v : ℕ) (f : ℕ → ℕ) (g h : ℕ → ℕ → ℕ) → v < n → ((a : ℕ) → a < w → f a ≡ h v a) → ((u a : ℕ) → u < n → u ≢ v → a < w → g u a ≡ h u a) → set_row w v f (grid w n g) ≡ grid w n h
set_row-grid w n v f g h l same other =
    grid_list w n h (set_row w v f (grid w n g)) (length-set_row w v f _ ∙ length-grid w n g) entry
  where
    entry : (u a : ℕ) → u < n → a < w → cell w (set_row w v f (grid w n g)) u a ≡ h u a
    entry u a k b = by_test (eqb u v)
        (λ t. subst (λ (x : ℕ). cell w (set_row w v f (grid w n g)) x a ≡ h x a) (sym (eqb-true u v t))
        (set_row-same w v f (grid w n g) a b (omega (arith, length-grid w n g, cell_inside w n v a b l)) ∙ same a b))
        (λ t. set_row-other w v f (grid w n g) u a b (eqb-false u v t) ∙ grid-cell w n g u a k b ∙ other u a k (eqb-false u v t) b)

-- ---- several rows replaced

pub length-set_rows : (w v n : ℕ) (f : ℕ → ℕ → ℕ) (r : List ℕ) → length (set_rows w v n f r) ≡ length r
unfolding set_rows
length-set_rows w v n f r = length-table (length r) _

-- row x is one of n rows from row v on, or none of them
abbrev Within : ℕ → ℕ → ℕ → Type 0
Within x v n = (v ≤ x) × (x < v + n)

abbrev pub Without : ℕ → ℕ → ℕ → Type 0
Without x v n = (x < v) ⊎ (v + n ≤ x)

where_row : (x v n : ℕ) → Within x v n ⊎ Without x v n
where_row x v n =
    by_test (ltb x v)
    (λ t. inr (inl (ltb-true x v t)))
    (λ t. by_test (ltb x (v + n)) (λ s. inl (ltb-false x v t, ltb-true x (v + n) s)) (λ s. inr (inr (ltb-false x (v + n) s))))

-- an entry by its place
set_rows_in : (w v n : ℕ) (f : ℕ → ℕ → ℕ) (r : List ℕ) (i : ℕ) → i < length r → Within (i / w) v n → get_or (set_rows w v n f r) i 0 ≡ f (i / w - v) (i % w)
unfolding set_rows
set_rows_in w v n f r i l k =
    get_or-table (length r) (λ i. cond (leb v (i / w) && ltb (i / w) (v + n)) (f (i / w - v) (i % w)) (get_or r i 0)) i 0 l
    ∙ simp (le-leb v (i / w) k.0, lt-ltb (i / w) (v + n) k.1)

without_test : (x v n : ℕ) → Without x v n → (leb v x && ltb x (v + n)) ≡ false
without_test x v n (inl k) = simp (lt-leb v x k)
without_test x v n (inr k) = by_test (leb v x) (λ t. simp (t, le-ltb x (v + n) k)) (λ t. simp t)

set_rows_out : (w v n : ℕ) (f : ℕ → ℕ → ℕ) (r : List ℕ) (i : ℕ) → Without (i / w) v n → get_or (set_rows w v n f r) i 0 ≡ get_or r i 0
unfolding set_rows
set_rows_out w v n f r i k =
    by_test (ltb i (length r))
    (λ t. get_or-table (length r) (λ i. cond (leb v (i / w) && ltb (i / w) (v + n)) (f (i / w - v) (i % w)) (get_or r i 0)) i 0 (ltb-true i _ t)
    ∙ ap (λ (b : Bool). cond b (f (i / w - v) (i % w)) (get_or r i 0)) (without_test (i / w) v n k))
    (λ t. get_or-eq_default (set_rows w v n f r) 0 (omega (arith, ltb-false i _ t, length-set_rows w v n f r)) ∙ sym (get_or-eq_default r 0 (ltb-false i _ t)))

-- no row, and one row more
pub set_rows_none : (w v : ℕ) (f : ℕ → ℕ → ℕ) (r : List ℕ) → set_rows w v 0 f r ≡ r
set_rows_none w v f r = ext_get_or 0 (set_rows w v 0 f r) r (length-set_rows w v 0 f r)
    (λ i l. set_rows_out w v 0 f r i (by_test (ltb (i / w) v) (λ t. inl (ltb-true _ v t)) (λ t. inr (omega (arith, ltb-false (i / w) v t)))))

pub set_rows_more : (w v n : ℕ) (f : ℕ → ℕ → ℕ) (r : List ℕ) → set_row w (v + n) (f n) (set_rows w v n f r) ≡ set_rows w v (n + 1) f r
set_rows_more w v n f r =
    ext_get_or 0 (set_row w (v + n) (f n) s) (set_rows w v (n + 1) f r) (length-set_row w (v + n) (f n) s ∙ size ∙ sym (length-set_rows w v (n + 1) f r))
    (λ i l. let k : i < length s = omega (arith, length-set_row w (v + n) (f n) s) in set_row_read w (v + n) (f n) s i k ∙ entry i (omega (arith, size)))
  where
    s : List ℕ
    s = set_rows w v n f r

    size : length s ≡ length r
    size = length-set_rows w v n f r

    new : (i : ℕ) → i < length r → i / w ≡ v + n → f n (i % w) ≡ get_or (set_rows w v (n + 1) f r) i 0
    new i l e = ap (λ (k : ℕ). f k (i % w)) (omega arith) ∙ sym (set_rows_in w v (n + 1) f r i l (omega arith, omega arith))

    old : (i : ℕ) → i < length r → i / w ≢ v + n → Within (i / w) v n ⊎ Without (i / w) v n → get_or s i 0 ≡ get_or (set_rows w v (n + 1) f r) i 0
    old i l d (inl k) = set_rows_in w v n f r i l k ∙ sym (set_rows_in w v (n + 1) f r i l (k.0, omega (arith, k.1)))
    old i l d (inr (inl k)) = set_rows_out w v n f r i (inl k) ∙ sym (set_rows_out w v (n + 1) f r i (inl k))
    old i l d (inr (inr k)) = set_rows_out w v n f r i (inr k) ∙ sym (set_rows_out w v (n + 1) f r i (inr (omega arith)))

    entry : (i : ℕ) → i < length r → cond (eqb (i / w) (v + n)) (f n (i % w)) (get_or s i 0) ≡ get_or (set_rows w v (n + 1) f r) i 0
    entry i l = cond_by (λ (x : ℕ). x ≡ get_or (set_rows w v (n + 1) f r) i 0) (eqb (i / w) (v + n))
        (λ t. new i l (eqb-true _ _ t))
        (λ t. old i l (eqb-false _ _ t) (where_row (i / w) v n))

-- a turn of a loop that replaces one row after the other
pub set_rows-step : (w v n : ℕ) (f : ℕ → ℕ → ℕ) (r₀ : List ℕ) {r s : List ℕ} → r ≡ set_rows w v n f r₀ → s ≡ set_row w (v + n) (f n) r → s ≡ set_rows w v (n + 1) f r₀
set_rows-step w v n f r₀ e d = d ∙ ap (set_row w (v + n) (f n)) e ∙ set_rows_more w v n f r₀

pub set_rows-same : (w v n : ℕ) (f : ℕ → ℕ → ℕ) (r : List ℕ) (k a : ℕ) → k < n → a < w → (v + k) * w + a < length r → cell w (set_rows w v n f r) (v + k) a ≡ f k a
set_rows-same w v n f r k a b h l =
    let i = quotient_rest w (v + k) a h in
    set_rows_in w v n f r ((v + k) * w + a) l (rw i.0 (omega arith), rw i.0 (omega arith))
    ∙ ap₂ f (ap (λ (x : ℕ). x - v) i.0 ∙ omega arith) i.1

pub set_rows-other : (w v n : ℕ) (f : ℕ → ℕ → ℕ) (r : List ℕ) (u a : ℕ) → a < w → Without u v n → cell w (set_rows w v n f r) u a ≡ cell w r u a
set_rows-other w v n f r u a h k = set_rows_out w v n f r (u * w + a) (rw (quotient_rest w u a h).0 k)

-- a grid with several rows replaced
pub set_rows-grid : (w n v m : ℕ) (f g h : ℕ → ℕ → ℕ) → v + m ≤ n → ((k a : ℕ) → k < m → a < w → f k a ≡ h (v + k) a) → ((u a : ℕ) → u < n → Without u v m → a < w → g u a ≡ h u a) → set_rows w v m f (grid w n g) ≡ grid w n h
set_rows-grid w n v m f g h l same other =
    grid_list w n h (set_rows w v m f (grid w n g)) (length-set_rows w v m f _ ∙ length-grid w n g) (λ u a k b. entry u a k b (where_row u v m))
  where
    entry : (u a : ℕ) → u < n → a < w → Within u v m ⊎ Without u v m → cell w (set_rows w v m f (grid w n g)) u a ≡ h u a
    entry u a k b (inl i) =
        let p : v + (u - v) ≡ u = omega (arith, i.0) in
        subst (λ (x : ℕ). cell w (set_rows w v m f (grid w n g)) x a ≡ h x a) p
        (set_rows-same w v m f (grid w n g) (u - v) a (omega (arith, i.0, i.1)) b (rw p (omega (arith, length-grid w n g, cell_inside w n u a b k)))
        ∙ same (u - v) a (omega (arith, i.0, i.1)) b)
    entry u a k b (inr i) = set_rows-other w v m f (grid w n g) u a b i ∙ grid-cell w n g u a k b ∙ other u a k i b

-- all rows
pub set_rows_all : (w n : ℕ) (f : ℕ → ℕ → ℕ) (r : List ℕ) → length r ≡ n * w → set_rows w 0 n f r ≡ grid w n f
set_rows_all w n f r e =
    grid_list w n f (set_rows w 0 n f r) (length-set_rows w 0 n f r ∙ e)
    (λ v a l b. ap (λ (u : ℕ). cell w (set_rows w 0 n f r) u a) (sym (zero-add v))
    ∙ set_rows-same w 0 n f r v a l b (rw zero-add (omega (arith, cell_inside w n v a b l))))

-- ---- a loop that stores a row from the front

-- r is r₀ but for the entries before a of row v, which f gives
pub record RowFilled (w v : ℕ) (f : ℕ → ℕ) (r₀ r : List ℕ) (a : ℕ) : Type 0 where
  pub size : length r ≡ length r₀
  pub stored : (b : ℕ) → b < a → cell w r v b ≡ f b
  pub below : (i : ℕ) → i < v * w → get_or r i 0 ≡ get_or r₀ i 0
  pub above : (i : ℕ) → v * w + a ≤ i → get_or r i 0 ≡ get_or r₀ i 0

-- before the first turn
pub row-start : {w v : ℕ} {f : ℕ → ℕ} {r : List ℕ} → RowFilled w v f r r 0
row-start = record { size = refl; stored = λ b l. absurd (omega arith); below = λ i l. refl; above = λ i l. refl }

-- in turn a, entry a of every row is still as it was, also in the row that is stored
pub row_kept : {w v : ℕ} {f : ℕ → ℕ} {r₀ r : List ℕ} {a : ℕ} → RowFilled w v f r₀ r a → a < w → (u : ℕ) → cell w r u a ≡ cell w r₀ u a
row_kept {w} {v} {a = a} m h u =
    by_test (ltb u v)
    (λ t. m.below (u * w + a) (cell_inside w v u a h (ltb-true u v t)))
    (λ t. m.above (u * w + a) (omega (arith, mul-le-mul_right w (ltb-false u v t))))

-- a turn
pub row_step : {w v : ℕ} {f : ℕ → ℕ} {r₀ r : List ℕ} {a x : ℕ} → RowFilled w v f r₀ r a → v * w + a < length r₀ → x ≡ f a → RowFilled w v f r₀ (set r (v * w + a) x) (a + 1)
row_step {w} {v} {f} {r₀} {r} {a} {x} m l e =
    record {
      size = length-set r _ x ∙ m.size;
      stored = λ b k. go b (below_cases {i = b} {n = a} (omega arith));
      below = λ i k. get_or-set_other r (v * w + a) i x 0 (omega arith) ∙ m.below i k;
      above = λ i k. get_or-set_other r (v * w + a) i x 0 (omega arith) ∙ m.above i (omega arith);
    }
  where
    go : (b : ℕ) → (b < a) ⊎ (b ≡ a) → cell w (set r (v * w + a) x) v b ≡ f b
    go b (inl k) = get_or-set_other r (v * w + a) (v * w + b) x 0 (omega arith) ∙ m.stored b k
    go b (inr k) = subst (λ (p : ℕ). cell w (set r (v * w + a) x) v p ≡ f p) (sym k) (get_or-set_same r (v * w + a) x 0 (omega (arith, m.size)) ∙ e)

-- after the last
pub row_end : {w v : ℕ} {f : ℕ → ℕ} {r₀ r : List ℕ} {a : ℕ} → RowFilled w v f r₀ r a → 0 < w → a ≡ w → r ≡ set_row w v f r₀
row_end {w} {v} {f} {r₀} {r} {a} m p q =
    ext_get_or 0 r (set_row w v f r₀) (m.size ∙ sym (length-set_row w v f r₀))
    (λ i l. entry i ∙ sym (set_row_read w v f r₀ i (omega (arith, m.size))))
  where
    -- the places before row v, and those after it
    outside : (i : ℕ) → i / w ≢ v → get_or r i 0 ≡ get_or r₀ i 0
    outside i n = by_test (ltb (i / w) v)
        (λ t. m.below i ((div-lt_iff_lt-mul p).0 (ltb-true _ v t)))
        (λ t. m.above i (omega (arith, (le-div_iff_mul-le {x = suc v} {y = i} p).0 (omega (arith, ltb-false (i / w) v t, n)), suc-mul v w)))

    inside : (i : ℕ) → i / w ≡ v → get_or r i 0 ≡ f (i % w)
    inside i e = ap (λ (k : ℕ). get_or r k 0) (sym (div-add-mod' i w) ∙ ap (λ (k : ℕ). k * w + i % w) e) ∙ m.stored (i % w) (omega (arith, mod-lt i p))

    entry : (i : ℕ) → get_or r i 0 ≡ cond (eqb (i / w) v) (f (i % w)) (get_or r₀ i 0)
    entry i = by_test (eqb (i / w) v)
        (λ t. inside i (eqb-true (i / w) v t) ∙ ap (λ (b : Bool). cond b (f (i % w)) (get_or r₀ i 0)) (sym t))
        (λ t. outside i (eqb-false (i / w) v t) ∙ ap (λ (b : Bool). cond b (f (i % w)) (get_or r₀ i 0)) (sym t))
