-- Counting: one number more, numbers that do not count, as many at least, flags, and the elements of a list. Assumes nothing.
use mathlib.Core.Path.{◌≡◌, refl, ap, ◌∙◌}
use mathlib.Core.Bool.{Bool, true, false, not, ◌&&◌}
use mathlib.Core.List.{List, [], ◌∷◌}
use Prim.Native.Nat.{ℕ, zero, suc, ◌+◌, ◌≤◌, ◌<◌}
use native.Mathlib.Decide.{le_ind}
use native.Mathlib.Omega.{arith}
use native.Mathlib.Numerals.{add-one}
use lib.Dec.{eqb}
use lib.ListN.{length, get_or}
use borrow.Author.Tests.{eqb-true, eq-eqb}
use Rattle.ternary.specs.Bits.{digit}
use Rattle.ternary.specs.Lists.{table, count_below}
use Rattle.ternary.proofs.BitLaws.{eqb_digit}
use Rattle.ternary.proofs.Tests.{and_left, by_test, fails}
use Rattle.ternary.proofs.ListLaws.{length-table, get_or-table, count_ext, count_fewer}

module _ (p : ℕ → Bool) where
  pub count-on : (n : ℕ) → p n ≡ true → count_below n p + 1 ≡ count_below (n + 1) p
  unfolding count_below
  count-on n e = rw (add-one n, e, add-one)

  pub count_off : (n : ℕ) → p n ≡ false → count_below n p ≡ count_below (n + 1) p
  unfolding count_below
  count_off n e = rw (add-one n, e)

  -- no number from n on counts
  pub count_above : (n m : ℕ) → n ≤ m → ((j : ℕ) → n ≤ j → p j ≡ false) → count_below m p ≡ count_below n p
  unfolding count_below
  count_above n m h e = le_ind (λ (k : ℕ). count_below k p ≡ count_below n p) refl (λ k l ih. rw (e k l) ih) m h

-- each number that passes p has one that passes q, and no two have the same: then at least as many pass q
pub count_apart : (n m : ℕ) (p q : ℕ → Bool) (f : ℕ → ℕ) → ((i : ℕ) → i < n → p i ≡ true → (f i < m) × (q (f i) ≡ true))
    → ((i k : ℕ) → i < n → k < n → p i ≡ true → p k ≡ true → f i ≡ f k → i ≡ k) → count_below n p ≤ count_below m q
unfolding count_below
count_apart zero m p q f to apart = omega arith
count_apart (suc n) m p q f to apart =
    by_test (p n)
    (λ t.
    let rest : ℕ → Bool = λ j. q j && not (eqb j (f n)) in
    let last = to n (omega arith) t in
    let other : (i : ℕ) → i < n → p i ≡ true → eqb (f i) (f n) ≡ false =
    λ i h u. fails (eqb (f i) (f n)) (λ e. omega (arith, apart i n (omega arith) (omega arith) u t (eqb-true (f i) (f n) e))) in
    let fewer = count_fewer m q rest (λ j h u. and_left (q j) _ u) (f n) last.0 last.1 (rw (last.1, eq-eqb (f n) (f n) refl)) in
    let before =
    count_apart n m p rest f
    (λ i h u. let r = to i (omega arith) u in (r.0, rw (r.1, other i h u)))
    (λ i k h l. apart i k (omega arith) (omega arith)) in
    rw t (omega arith))
    (λ t. rw t (count_apart n m p q f (λ i h. to i (omega arith)) (λ i k h l. apart i k (omega arith) (omega arith))))

-- the flags of a table
pub count-table : (n : ℕ) (p : ℕ → Bool) (r : List ℕ) → r ≡ table n (λ j. digit (p j)) → count_below (length r) (λ i. eqb (get_or r i 0) 1) ≡ count_below n p
count-table n p r e =
    rw (e, length-table n (λ j. digit (p j)))
    (count_ext n _ p (λ j l. ap (λ (x : ℕ). eqb x 1) (get_or-table n (λ k. digit (p k)) j 0 l) ∙ eqb_digit (p j)))

-- how many elements pass
unfoldable pub count_of : {A : Type 0} → (A → Bool) → List A → ℕ
count_of p [] = 0
count_of p (x ∷ l) = digit (p x) + count_of p l

count-first : (n : ℕ) (q : ℕ → Bool) → count_below (suc n) q ≡ digit (q 0) + count_below n (λ k. q (suc k))
unfolding count_below
count-first zero q = by_test (q 0) (λ e. rw e) (λ e. rw e)
count-first (suc n) q =
    let ih = count-first n q in
    by_test (q (suc n)) (λ e. rw e (omega (arith, ih))) (λ e. rw e ih)

-- the elements of a table
pub count_listed : {A : Type 0} (p : A → Bool) (n : ℕ) (f : ℕ → A) → count_below n (λ k. p (f k)) ≡ count_of p (table n f)
unfolding count_of table count_below
count_listed p zero f = refl
count_listed p (suc n) f = count-first n (λ k. p (f k)) ∙ ap (λ (m : ℕ). digit (p (f 0)) + m) (count_listed p n (λ k. f (suc k)))
