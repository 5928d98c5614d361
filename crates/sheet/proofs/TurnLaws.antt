-- Rows of many things in turn: what holds of them all holds of each.
use Prim.Native.Nat.{ℕ, zero, suc, ◌+◌, ◌<◌}
use native.Mathlib.Nat.{zero-add, add-zero, add-suc, suc-add}
use native.Mathlib.Omega.{arith}
use mathlib.Core.Path.{◌≡◌, refl}
use mathlib.Core.Logic.{◌⊎◌, inl, inr}
use mathlib.Core.Bool.{true}
use mathlib.Core.List.{List}
use Rattle.sheet.specs.Rows.{Row, First, NoRow}
use Rattle.sheet.specs.SheetRows.{in_turn}
use Rattle.sheet.proofs.RowLaws.{positive, positive-append, none_append, first-append}

pub turn_positive : (m i : ℕ) (f : ℕ → List Row) → ((k : ℕ) → positive (f k) ≡ true) → positive (in_turn m i f) ≡ true
unfolding in_turn positive
turn_positive zero i f h = refl
turn_positive (suc m) i f h = positive-append (f i) (in_turn m (suc i) f) (h i) (turn_positive m (suc i) f h)

-- none holds: none of any thing
turn_none : (m i : ℕ) (f : ℕ → List Row) → NoRow (in_turn m i f) → (k : ℕ) → k < m → NoRow (f (i + k))
unfolding in_turn
turn_none zero i f r k h = absurd (omega arith)
turn_none (suc m) i f r zero h = rw (add-zero i) (none_append (f i) (in_turn m (suc i) f) r).0
turn_none (suc m) i f r (suc k) h =
    rw (add-suc i k, ← (suc-add i k)) (turn_none m (suc i) f (none_append (f i) (in_turn m (suc i) f) r).1 k (omega arith))

pub each_turn : (m : ℕ) (f : ℕ → List Row) → NoRow (in_turn m 0 f) → (k : ℕ) → k < m → NoRow (f k)
each_turn m f r k h = rw (zero-add k) at (turn_none m 0 f r k h)

-- one holds: the first is some thing's
turn_first : (m i : ℕ) (f : ℕ → List Row) {n p : ℕ} → First (in_turn m i f) n p → (k : ℕ) × (k < m) × First (f (i + k)) n p
unfolding in_turn
turn_first zero i f r = elim r [ ]
turn_first (suc m) i f r = go (λ g. turn_first m (suc i) f g) (first-append (f i) (in_turn m (suc i) f) r)
  where
    go : {n p : ℕ} → (First (in_turn m (suc i) f) n p → (k : ℕ) × (k < m) × First (f (suc i + k)) n p)
        → First (f i) n p ⊎ First (in_turn m (suc i) f) n p → (k : ℕ) × (k < suc m) × First (f (i + k)) n p
    go later_ones (inl g) = (0, omega arith, rw (add-zero i) g)
    go later_ones (inr g) =
        let w = later_ones g in
        (suc w.0, omega (arith, w.1), rw (add-suc i w.0, ← (suc-add i w.0)) w.2)

pub some_turn : (m : ℕ) (f : ℕ → List Row) {n p : ℕ} → First (in_turn m 0 f) n p → (k : ℕ) × (k < m) × First (f k) n p
some_turn m f r = let w = turn_first m 0 f r in (w.0, w.1, rw (zero-add w.0) at w.2)
