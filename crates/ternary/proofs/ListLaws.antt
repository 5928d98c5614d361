-- Laws of the tests, lists and tables over the numbers below a bound, and of equal lists. Assumes nothing.
use Prim.Native.Nat.{ℕ, zero, suc, ◌+◌, ◌<◌, ◌≤◌}
use mathlib.Core.Path.{◌≡◌, refl, sym, ap, ap₂, subst, ◌∙◌}
use mathlib.Core.Bool.{Bool, true, false, cond, ◌||◌, true≢false, false≢true}
use mathlib.Core.Logic.{◌⊎◌, inl, inr, ⊎_elim, ◌↔◌, ◌≢◌}
use mathlib.Core.List.Memᴰ
use mathlib.Core.List.{List, [], ◌∷◌, ◌++◌, map, Memᴰ}
use mathlib.Core.Option.{Option, none, some}
use native.Mathlib.Nat.{not-suc-le-zero, le_of_suc-le-suc}
use native.Mathlib.Numerals.{add-one}
use native.Mathlib.Omega.{arith}
use native.Mathlib.Decide.{ℕ_discrete, le_ind}
use lib.Dec.{eqb, ltb}
use lib.ListN.{length, get_or, length-append, get_or-append}
use lib.Seq.{get_or-append_seam}
use borrow.Author.Tests.{eqb-true, eq-eqb, ltb-true, ltb-false}
use Rattle.ternary.specs.Bits.{digit}
use Rattle.ternary.specs.Lists.{table, same, any_below, all_below, count_below, list_below, least_below}
use Rattle.ternary.proofs.Tests.{and_left, and_right, and_false, both, or_true, or_left, or_right, test, by_test, cond_by, fails, not_both}

-- below suc n: below n, or n itself
pub below_cases : {i n : ℕ} → i < suc n → (i < n) ⊎ (i ≡ n)
below_cases {i} {n} h = go (ℕ_discrete i n)
  where
    go : Dec (i ≡ n) → (i < n) ⊎ (i ≡ n)
    go (yes e) = inr e
    go (no ne) = inl (omega arith)

-- ---- tables

pub length-table : {A : Type 0} (n : ℕ) (f : ℕ → A) → length (table n f) ≡ n
unfolding table
length-table zero f = refl
length-table (suc n) f = ap suc (length-table n (λ k. f (suc k)))

pub get_or-table : {A : Type 0} (n : ℕ) (f : ℕ → A) (k : ℕ) (d : A) → k < n → get_or (table n f) k d ≡ f k
unfolding table
get_or-table zero f k d l = absurd (not-suc-le-zero l)
get_or-table (suc n) f zero d l = refl
get_or-table (suc n) f (suc k) d l = get_or-table n (λ j. f (suc j)) k d (le_of_suc-le-suc l)

-- an entry is the same by any default
pub get_or_inside : {A : Type 0} (l : List A) (k : ℕ) (d e : A) → k < length l → get_or l k d ≡ get_or l k e
get_or_inside [] k d e h = absurd (not-suc-le-zero h)
get_or_inside (x ∷ l) zero d e h = refl
get_or_inside (x ∷ l) (suc k) d e h = get_or_inside l k d e (omega arith)

-- an entry of a mapped list is that of the list, mapped
pub get_or-map_lt : {A B : Type 0} (f : A → B) (l : List A) (i : ℕ) (d : A) (e : B) → i < length l → get_or (map f l) i e ≡ f (get_or l i d)
get_or-map_lt f [] i d e h = absurd (not-suc-le-zero h)
get_or-map_lt f (x ∷ l) zero d e h = refl
get_or-map_lt f (x ∷ l) (suc i) d e h = get_or-map_lt f l i d e (le_of_suc-le-suc h)

-- tables of functions that agree below the bound
pub table_ext : {A : Type 0} (n : ℕ) (f g : ℕ → A) → ((k : ℕ) → k < n → f k ≡ g k) → table n f ≡ table n g
unfolding table
table_ext zero f g e = refl
table_ext {A} (suc n) f g e =
    ap₂ {C = List A} (λ x l. x ∷ l) (e 0 (omega arith)) (table_ext n (λ k. f (suc k)) (λ k. g (suc k)) (λ k l. e (suc k) (omega arith)))

-- ---- equal lists

pub same_true : (l m : List ℕ) → same l m ≡ true → l ≡ m
unfolding same
same_true [] [] e = refl
same_true [] (y ∷ ys) e = absurd (false≢true e)
same_true (x ∷ xs) [] e = absurd (false≢true e)
same_true (x ∷ xs) (y ∷ ys) e =
    ap₂ {C = List ℕ} (λ a b. a ∷ b)
    (eqb-true x y (and_left (eqb x y) (same xs ys) e))
    (same_true xs ys (and_right (eqb x y) (same xs ys) e))

pub same_refl : (l : List ℕ) → same l l ≡ true
unfolding same
same_refl [] = refl
same_refl (x ∷ xs) = both (eq-eqb x x refl) (same_refl xs)

pub same_false : (l m : List ℕ) → same l m ≡ false → l ≢ m
same_false l m e p =
    let t : same l m ≡ true = rw p (same_refl m) in
    true≢false (sym t ∙ e)

module _ (p : ℕ → Bool) where
  -- ---- some and every number below a bound

  pub any_found : (n : ℕ) → any_below n p ≡ true → (i : ℕ) × (i < n) × (p i ≡ true)
  unfolding any_below
  any_found zero e = absurd (false≢true e)
  any_found (suc n) e = go (any_found n) (or_true (any_below n p) (p n) e)
    where
      go : (any_below n p ≡ true → (i : ℕ) × (i < n) × (p i ≡ true)) → (any_below n p ≡ true) ⊎ (p n ≡ true) → (i : ℕ) × (i < suc n) × (p i ≡ true)
      go f (inl h) = let r = f h in (r.0, omega (arith, r.1), r.2)
      go f (inr h) = (n, omega arith, h)

  pub any_of : (n i : ℕ) → i < n → p i ≡ true → any_below n p ≡ true
  unfolding any_below
  any_of zero i h e = absurd (not-suc-le-zero h)
  any_of (suc n) i h e = go (any_of n i) (below_cases h)
    where
      go : (i < n → p i ≡ true → any_below n p ≡ true) → (i < n) ⊎ (i ≡ n) → (any_below n p || p n) ≡ true
      go f (inl l) = or_left (any_below n p) (p n) (f l e)
      go f (inr q) = or_right (any_below n p) (p n) (subst (λ (j : ℕ). p j ≡ true) q e)

  pub any_none : (n : ℕ) → any_below n p ≡ false → (i : ℕ) → i < n → p i ≡ false
  any_none n e i h = fails (p i) (λ t. not_both (any_below n p) (any_of n i h t) e)

  -- one number more, for a loop that has found none so far
  pub any_more : (n : ℕ) → any_below n p ≡ false → p n ≡ false → any_below (n + 1) p ≡ false
  unfolding any_below
  any_more n e f = rw (add-one, any_below, e, f)

  pub all_at : (n : ℕ) → all_below n p ≡ true → (i : ℕ) → i < n → p i ≡ true
  unfolding all_below
  all_at zero e i h = absurd (not-suc-le-zero h)
  all_at (suc n) e i h = go (all_at n) (below_cases h)
    where
      go : (all_below n p ≡ true → (j : ℕ) → j < n → p j ≡ true) → (i < n) ⊎ (i ≡ n) → p i ≡ true
      go f (inl l) = f (and_left (all_below n p) (p n) e) i l
      go f (inr q) = subst (λ (j : ℕ). p j ≡ true) (sym q) (and_right (all_below n p) (p n) e)

  pub all_of_lem : (n : ℕ) → ((i : ℕ) → i < n → p i ≡ true) → all_below n p ≡ true
  unfolding all_below
  all_of_lem zero f = refl
  all_of_lem (suc n) f = both (all_of_lem n (λ i h. f i (omega arith))) (f n (omega arith))

  pub all_false : (n : ℕ) → all_below n p ≡ false → (i : ℕ) × (i < n) × (p i ≡ false)
  unfolding all_below
  all_false zero e = absurd (true≢false e)
  all_false (suc n) e = go (all_false n) (and_false (all_below n p) (p n) e)
    where
      go : (all_below n p ≡ false → (i : ℕ) × (i < n) × (p i ≡ false)) → (all_below n p ≡ false) ⊎ (p n ≡ false) → (i : ℕ) × (i < suc n) × (p i ≡ false)
      go f (inl h) = let r = f h in (r.0, omega (arith, r.1), r.2)
      go f (inr h) = (n, omega arith, h)

  -- one number more, and a failure, for a loop in which all have passed so far
  pub all_more : (n : ℕ) → all_below n p ≡ true → p n ≡ true → all_below (n + 1) p ≡ true
  unfolding all_below
  all_more n e f = rw (add-one, all_below, e, f)

  pub all_fails : (n i : ℕ) → i < n → p i ≡ false → all_below n p ≡ false
  all_fails n i h f = fails (all_below n p) (λ t. not_both (p i) (all_at n t i h) f)

  -- ---- the least number that passes

  pub record Least (n k : ℕ) : Type 0 where
    pub below : k < n
    pub passes : p k ≡ true
    pub earlier : (i : ℕ) → i < k → p i ≡ false

  -- what `least_below` answers
  pub data LeastIs (n : ℕ) : Option ℕ → Type 0 where
    nothing : ((i : ℕ) → i < n → p i ≡ false) → LeastIs n none
    found : {k : ℕ} → Least n k → LeastIs n (some k)

  pub least_is : (n : ℕ) → LeastIs n (least_below n p)
  unfolding least_below
  least_is zero = nothing (λ i h. absurd (not-suc-le-zero h))
  least_is (suc n) = go (least_below n p) (least_is n)
    where
      last : ((i : ℕ) → i < n → p i ≡ false) → (b : Bool) → p n ≡ b → LeastIs (suc n) (cond b (some n) none)
      last f true e = found {k = n} (record { below = omega arith; passes = e; earlier = f })
      last f false e = nothing (λ i h. ⊎_elim (f i) (λ q. subst (λ (j : ℕ). p j ≡ false) (sym q) e) (below_cases h))

      go : (o : Option ℕ) → LeastIs n o → LeastIs (suc n) (elim o [ none ↦ cond (p n) (some n) none | some k ↦ some k ])
      go none (nothing f) = last f (p n) refl
      go (some k) (found l) = found {k = k} (record { below = omega (arith, l.below); passes = l.passes; earlier = l.earlier })

  pub least_none : (n : ℕ) → (least_below n p ≡ none) ↔ ((i : ℕ) → i < n → p i ≡ false)
  least_none n = (there (least_is n), back (least_is n))
    where
      there : {o : Option ℕ} → LeastIs n o → o ≡ none → (i : ℕ) → i < n → p i ≡ false
      there (nothing f) e = f
      there (found l) e = absurd (true≢false (cc))

      back : {o : Option ℕ} → LeastIs n o → ((i : ℕ) → i < n → p i ≡ false) → o ≡ none
      back (nothing f) g = refl
      back (found {k = k} l) g = absurd (not_both (p k) l.passes (g k l.below))

  pub least_some : (n k : ℕ) → (least_below n p ≡ some k) ↔ Least n k
  least_some n k = (there (least_is n), back (least_is n))
    where
      there : {o : Option ℕ} → LeastIs n o → o ≡ some k → Least n k
      there (nothing f) e = absurd (true≢false (cc))
      there (found l) e = subst (Least n) (cc) l

      -- neither of two least numbers is below the other
      only : (j : ℕ) → Least n j → Least n k → j ≡ k
      only j l m = by_test (ltb j k)
          (λ h. absurd (not_both (p j) l.passes (m.earlier j (ltb-true j k h))))
          (λ h. by_test (ltb k j)
          (λ g. absurd (not_both (p k) m.passes (l.earlier k (ltb-true k j g))))
          (λ g. omega (arith, ltb-false j k h, ltb-false k j g)))

      back : {o : Option ℕ} → LeastIs n o → Least n k → o ≡ some k
      back (nothing f) m = absurd (not_both (p k) m.passes (f k m.below))
      back (found {k = j} l) m = ap some (only j l m)

  -- one number more, and a hit, for a loop that has found none so far
  pub least_more : (n : ℕ) → least_below n p ≡ none → p n ≡ false → least_below (n + 1) p ≡ none
  unfolding least_below
  least_more n e f = rw (add-one, least_below, e, f)

  pub least_hit : (n k : ℕ) → least_below k p ≡ none → k < n → p k ≡ true → least_below n p ≡ some k
  least_hit n k e h t = (least_some n k).1 (record { below = h; passes = t; earlier = (least_none k).0 e })

  -- ---- the list of the numbers that pass

  pub listed : (n s : ℕ) → Memᴰ s (list_below n p) → (s < n) × (p s ≡ true)
  unfolding list_below
  listed zero s m = absurd (Memᴰ.not-nil m)
  listed (suc n) s m = go (listed n s) (Memᴰ.append_cases (list_below n p) m)
    where
      new : (b : Bool) → p n ≡ b → Memᴰ s (cond b (n ∷ []) []) → (s < suc n) × (p s ≡ true)
      new true e k = let q = Memᴰ.eq_of_singleton k in (omega arith, rw q e)
      new false e k = absurd (Memᴰ.not-nil k)

      go : (Memᴰ s (list_below n p) → (s < n) × (p s ≡ true)) → Memᴰ s (list_below n p) ⊎ Memᴰ s (cond (p n) (n ∷ []) []) → (s < suc n) × (p s ≡ true)
      go f (inl k) = let r = f k in (omega arith, r.1)
      go f (inr k) = new (p n) refl k

  pub list_of : (n s : ℕ) → s < n → p s ≡ true → Memᴰ s (list_below n p)
  unfolding list_below
  list_of zero s h e = absurd (not-suc-le-zero h)
  list_of (suc n) s h e = go (list_of n s) (below_cases h)
    where
      go : (s < n → p s ≡ true → Memᴰ s (list_below n p)) → (s < n) ⊎ (s ≡ n) → Memᴰ s (list_below n p ++ cond (p n) (n ∷ []) [])
      go f (inl l) = Memᴰ.append_left _ (f l e)
      go f (inr q) = Memᴰ.append_right (list_below n p) (rw (rw q at e) (Memᴰ.head q))

  pub length_list : (n : ℕ) → length (list_below n p) ≡ count_below n p
  unfolding list_below count_below
  length_list zero = refl
  length_list (suc n) = length-append (list_below n p) _ ∙ go (length_list n) (test (p n))
    where
      go : length (list_below n p) ≡ count_below n p → (p n ≡ true) ⊎ (p n ≡ false) → length (list_below n p) + length (cond (p n) (n ∷ []) []) ≡ cond (p n) (suc (count_below n p)) (count_below n p)
      go ih (inl e) = rw e (omega arith)
      go ih (inr e) = rw e (omega arith)

  -- one number more, for a loop that counts
  pub count_more : (n : ℕ) → count_below (n + 1) p ≡ count_below n p + digit (p n)
  unfolding count_below
  count_more n = rw (add-one, count_below) (go (p n))
    where
      go : (b : Bool) → cond b (suc (count_below n p)) (count_below n p) ≡ count_below n p + digit b
      go true = omega arith
      go false = omega arith

  -- v is the element at place k of the list below n: the place counts the numbers before it
  pub record At (n k v : ℕ) : Type 0 where
    pub below : v < n
    pub passes : p v ≡ true
    pub place : count_below v p ≡ k
    pub inside : k < length (list_below n p)
    pub reads : get_or (list_below n p) k 0 ≡ v

  at_more : {n k v : ℕ} → At n k v → At (suc n) k v
  unfolding list_below
  at_more {n} {k} {v} r =
      record {
        below = omega (arith, r.below);
        passes = r.passes;
        place = r.place;
        inside = rw length-append (omega (arith, r.inside));
        reads = get_or-append (list_below n p) _ 0 k r.inside ∙ r.reads;
      }

  at_new : (n : ℕ) → p n ≡ true → At (suc n) (count_below n p) n
  unfolding list_below
  at_new n e =
      record {
        below = omega arith;
        passes = e;
        place = refl;
        inside = rw (e, length-append, length_list n) (omega arith);
        reads = rw (e, ← length_list n) (get_or-append_seam (list_below n p) n [] 0);
      }

  pub place_at_lem : (n k : ℕ) → k < count_below n p → (v : ℕ) × At n k v
  unfolding count_below
  place_at_lem zero k h = absurd (not-suc-le-zero h)
  place_at_lem (suc n) k h = go (λ l. let r = place_at_lem n k l in (r.0, at_more r.1)) (test (p n))
    where
      split : (k < count_below n p → (v : ℕ) × At (suc n) k v) → p n ≡ true → (k < count_below n p) ⊎ (k ≡ count_below n p) → (v : ℕ) × At (suc n) k v
      split f e (inl l) = f l
      split f e (inr q) = (n, subst (λ (j : ℕ). At (suc n) j n) (sym q) (at_new n e))

      go : (k < count_below n p → (v : ℕ) × At (suc n) k v) → (p n ≡ true) ⊎ (p n ≡ false) → (v : ℕ) × At (suc n) k v
      go f (inl e) = split f e (below_cases (rw e at h))
      go f (inr e) = f (rw e at h)

  pub at_place : (n v : ℕ) → v < n → p v ≡ true → At n (count_below v p) v
  at_place zero v h e = absurd (not-suc-le-zero h)
  at_place (suc n) v h e = go (λ l. at_more (at_place n v l e)) (below_cases h)
    where
      go : (v < n → At (suc n) (count_below v p) v) → (v < n) ⊎ (v ≡ n) → At (suc n) (count_below v p) v
      go f (inl l) = f l
      go f (inr q) = subst (λ (j : ℕ). At (suc n) (count_below j p) j) (sym q) (at_new n (rw q at e))

  -- ---- the list rises

  count-step : (k : ℕ) → count_below k p ≤ count_below (suc k) p
  unfolding count_below
  count-step k = cond_by (λ (c : ℕ). count_below k p ≤ c) (p k) (λ _. omega arith) (λ _. omega arith)

  pub count_mono : (m n : ℕ) → m ≤ n → count_below m p ≤ count_below n p
  count_mono m n l = le_ind (λ (k : ℕ). count_below m p ≤ count_below k p) (omega arith) (λ k i c. omega (arith, c, count-step k)) n l

  pub list_rising : (n i j : ℕ) → i < j → j < length (list_below n p) → get_or (list_below n p) i 0 < get_or (list_below n p) j 0
  list_rising n i j h l =
      let u = place_at_lem n i (omega (arith, length_list n)) in
      let v = place_at_lem n j (omega (arith, length_list n)) in
      rw (u.1.reads, v.1.reads)
      (by_test (ltb u.0 v.0) (ltb-true u.0 v.0)
      (λ e. absurd (omega (arith, count_mono v.0 u.0 (ltb-false u.0 v.0 e), u.1.place, v.1.place))))

-- the same by tests that agree
pub any_ext : (n : ℕ) (p q : ℕ → Bool) → ((k : ℕ) → k < n → p k ≡ q k) → any_below n p ≡ any_below n q
unfolding any_below
any_ext zero p q e = refl
any_ext (suc n) p q e = rw (e n (omega arith), any_ext n p q (λ k l. e k (omega arith)))

pub all_ext : (n : ℕ) (p q : ℕ → Bool) → ((k : ℕ) → k < n → p k ≡ q k) → all_below n p ≡ all_below n q
unfolding all_below
all_ext zero p q e = refl
all_ext (suc n) p q e = rw (e n (omega arith), all_ext n p q (λ k l. e k (omega arith)))

pub count_ext : (n : ℕ) (p q : ℕ → Bool) → ((k : ℕ) → k < n → p k ≡ q k) → count_below n p ≡ count_below n q
unfolding count_below
count_ext zero p q e = refl
count_ext (suc n) p q e = rw (e n (omega arith), count_ext n p q (λ k l. e k (omega arith)))

-- a stronger test counts no more numbers, and fewer if it misses one
pub count_weaker : (n : ℕ) (p q : ℕ → Bool) → ((k : ℕ) → k < n → q k ≡ true → p k ≡ true) → count_below n q ≤ count_below n p
unfolding count_below
count_weaker zero p q h = omega arith
count_weaker (suc n) p q h = go (count_weaker n p q (λ k l. h k (omega arith))) (test (q n)) (test (p n))
  where
    go : count_below n q ≤ count_below n p → (q n ≡ true) ⊎ (q n ≡ false) → (p n ≡ true) ⊎ (p n ≡ false) → count_below (suc n) q ≤ count_below (suc n) p
    go ih (inl e) (inl f) = rw (e, f) (omega arith)
    go ih (inl e) (inr f) = absurd (not_both (p n) (h n (omega arith) e) f)
    go ih (inr e) (inl f) = rw (e, f) (omega arith)
    go ih (inr e) (inr f) = rw (e, f) (omega arith)

pub count_fewer : (n : ℕ) (p q : ℕ → Bool) → ((k : ℕ) → k < n → q k ≡ true → p k ≡ true) → (j : ℕ) → j < n → p j ≡ true → q j ≡ false → count_below n q < count_below n p
unfolding count_below
count_fewer zero p q h j l e f = absurd (not-suc-le-zero l)
count_fewer (suc n) p q h j l e f = go (count_fewer n p q (λ k i. h k (omega arith)) j) (below_cases l)
  where
    less : count_below n q < count_below n p → (q n ≡ true) ⊎ (q n ≡ false) → (p n ≡ true) ⊎ (p n ≡ false) → count_below (suc n) q < count_below (suc n) p
    less ih (inl a) (inl b) = rw (a, b) (omega arith)
    less ih (inl a) (inr b) = absurd (not_both (p n) (h n (omega arith) a) b)
    less ih (inr a) (inl b) = rw (a, b) (omega arith)
    less ih (inr a) (inr b) = rw (a, b) (omega arith)

    go : (j < n → p j ≡ true → q j ≡ false → count_below n q < count_below n p) → (j < n) ⊎ (j ≡ n) → count_below (suc n) q < count_below (suc n) p
    go ih (inl i) = less (ih i e f) (test (q n)) (test (p n))
    go ih (inr i) =
        let a : p n ≡ true = rw i at e in
        let b : q n ≡ false = rw i at f in
        let c : count_below n q ≤ count_below n p = count_weaker n p q (λ k m. h k (omega arith)) in
        rw (a, b) (omega arith)

pub list_ext : (n : ℕ) (p q : ℕ → Bool) → ((k : ℕ) → p k ≡ q k) → list_below n p ≡ list_below n q
list_ext n p q e = ap (list_below n) (λ i k. e k i)

pub least_ext : (n : ℕ) (p q : ℕ → Bool) → ((k : ℕ) → k < n → p k ≡ q k) → least_below n p ≡ least_below n q
unfolding least_below
least_ext zero p q e = refl
least_ext (suc n) p q e =
    ap₂ (λ (o : Option ℕ) (b : Bool). elim o [ none ↦ cond b (some n) none | some k ↦ some k ]) (least_ext n p q (λ k l. e k (omega arith))) (e n (omega arith))

-- ---- the least number with a property that a test decides

module _ (p : ℕ → Bool) (P : ℕ → Type 0) (decides : (v : ℕ) → (p v ≡ true) ↔ P v) (n : ℕ) (range : (v : ℕ) → P v → v < n) where
  pub least_none_iff : (least_below n p ≡ none) ↔ ((v : ℕ) → ¬ P v)
  least_none_iff = (
    λ e v h. not_both (p v) ((decides v).1 h) ((least_none p n).0 e v (range v h)),
    λ f. (least_none p n).1 (λ v _. fails (p v) (λ t. f v ((decides v).0 t))),
  )

  pub least_some_iff : (v : ℕ) → (least_below n p ≡ some v) ↔ (P v × ((u : ℕ) → u < v → ¬ P u))
  least_some_iff v = (
    λ e. let l = (least_some p n v).0 e in ((decides v).0 l.passes, λ u h b. not_both (p u) ((decides u).1 b) (l.earlier u h)),
    λ h. (least_some p n v).1 (record { below = range v h.0; passes = (decides v).1 h.0; earlier = λ u i. fails (p u) (λ t. h.1 u i ((decides u).0 t)) }),
  )
