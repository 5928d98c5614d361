-- Laws of signals, completions and the enumerator over them. Assumes nothing.
use Prim.Native.Nat.{ℕ, zero, suc, ◌+◌, ◌*◌, ◌/◌, ◌%◌, ◌^◌, ◌≤◌, ◌<◌}
use mathlib.Core.Path.{◌≡◌, refl, sym, ap₂, ◌∙◌}
use mathlib.Core.Bool.{Bool, true, false, ◌&&◌, true≢false}
use mathlib.Core.Logic.{inl, inr, ⊎_elim, ◌↔◌}
use mathlib.Core.List.{List, [], ◌∷◌, ◌++◌}
use native.Mathlib.Omega.{arith}
use native.Mathlib.Nat.{pow-zero, pow-succ', one-mul, zero-add, le_of_eq, suc_inj}
use lib.Dec.{eqb}
use lib.ListN.{length}
use borrow.Author.Tests.{eqb-true}
use Rattle.ternary.specs.Bits.{bit, number, digit}
use Rattle.ternary.specs.Signal.{X, Signal, Covers, Against, at, Completes, every}
use Rattle.ternary.specs.Lists.{table}
use Rattle.ternary.proofs.Tests.{and_left, and_right, and_false, both, by_test, same_test}
use Rattle.ternary.proofs.ListLaws.{length-table, get_or-table}
use Rattle.ternary.proofs.BitLaws.{bit_lt, bit_ext, number_lt, bit-number}

-- ---- covering

pub covers_refl : (s : ℕ) → Covers s s
unfolding Covers
covers_refl zero = refl
covers_refl (suc zero) = refl
covers_refl (suc (suc s)) = tt

pub covers_trans : (a b c : ℕ) → Covers a b → Covers b c → Covers a c
unfolding Covers
covers_trans zero b c p q = rw p at q
covers_trans (suc zero) b c p q = rw p at q
covers_trans (suc (suc a)) b c p q = tt

-- signals that cover one another are equal
pub covers_antisym : (a b : ℕ) → Signal a → Signal b → Covers a b → Covers b a → a ≡ b
unfolding Covers
covers_antisym a b (inl e) sb p q = let i : b ≡ 0 = rw e at p in cc
covers_antisym a b (inr (inl e)) sb p q = let i : b ≡ 1 = rw e at p in cc
covers_antisym a b (inr (inr e)) (inl f) p q = let i : a ≡ 0 = rw f at q in cc
covers_antisym a b (inr (inr e)) (inr (inl f)) p q = let i : a ≡ 1 = rw f at q in omega arith
covers_antisym a b (inr (inr e)) (inr (inr f)) p q = cc

pub covered_not_against : (s v : ℕ) → Covers s v → ¬ (Against s v)
unfolding Covers
covered_not_against zero v p (inl x) = omega arith
covered_not_against zero v p (inr x) = omega arith
covered_not_against (suc zero) v p (inl x) = omega arith
covered_not_against (suc zero) v p (inr x) = omega arith
covered_not_against (suc (suc s)) v p (inl x) = omega arith
covered_not_against (suc (suc s)) v p (inr x) = omega arith

-- ---- completions, place by place

pub tail : (s : ℕ) (r : List ℕ) (n : ℕ) → Completes (s ∷ r) n → Completes r (n / 2)
unfolding bit
tail s r n c =
    let b : n < 2 ^ suc (length r) = c.below in
    record { below = omega arith; covered = λ k l. c.covered (suc k) (omega arith) }

pub head : (s : ℕ) (r : List ℕ) (n : ℕ) → Completes (s ∷ r) n → Covers s (n % 2)
unfolding bit
head s r n c = c.covered 0 (omega arith)

pub cons : (s v : ℕ) (r : List ℕ) (n : ℕ) → v < 2 → Covers s v → Completes r n → Completes (s ∷ r) (2 * n + v)
unfolding bit
cons s v r n b p c =
    let bound : 2 * n + v < 2 ^ suc (length r) = omega arith in
    record { below = bound; covered = place }
  where
    place : (k : ℕ) → k < suc (length r) → Covers (at (s ∷ r) k) (bit (2 * n + v) k)
    place zero l =
        let e : (2 * n + v) % 2 ≡ v = omega arith in
        rw e p
    place (suc k) l =
        let e : (2 * n + v) / 2 ≡ n = omega arith in
        rw e (c.covered k (omega arith))

pub cons_even : (s : ℕ) (r : List ℕ) (n : ℕ) → Covers s 0 → Completes r n → Completes (s ∷ r) (2 * n)
cons_even s r n p c =
    let e : 2 * n + 0 ≡ 2 * n = omega arith in
    rw e at (cons s 0 r n (omega arith) p c)

pub cons_odd : (s : ℕ) (r : List ℕ) (n : ℕ) → Covers s 1 → Completes r n → Completes (s ∷ r) (2 * n + 1)
cons_odd s r n p c = cons s 1 r n (omega arith) p c

pub nil : Completes [] 0
nil = record { below = omega (arith, pow-zero 2); covered = λ k l. absurd (omega arith) }

-- what a signal allows of a value: the value itself if it is covered
fit : ℕ → ℕ → ℕ
fit zero v = 0
fit (suc zero) v = 1
fit (suc (suc s)) v = v

fit_lt : (s v : ℕ) → v < 2 → fit s v < 2
unfolding fit
fit_lt zero v l = omega arith
fit_lt (suc zero) v l = omega arith
fit_lt (suc (suc s)) v l = l

fit_covered : (s v : ℕ) → Covers s (fit s v)
unfolding fit Covers
fit_covered zero v = refl
fit_covered (suc zero) v = refl
fit_covered (suc (suc s)) v = tt

fit_same : (s v : ℕ) → Covers s v → fit s v ≡ v
unfolding fit Covers
fit_same zero v c = sym c
fit_same (suc zero) v c = sym c
fit_same (suc (suc s)) v c = refl

-- the completion of r that has n's bit wherever r covers it
pub nearest : List ℕ → ℕ → ℕ
nearest r n = number (length r) (λ k. fit (at r k) (bit n k))

module _ (r : List ℕ) (n : ℕ) where
  nearest_bit : (k : ℕ) → k < length r → bit (nearest r n) k ≡ fit (at r k) (bit n k)
  unfolding nearest
  nearest_bit = bit-number (length r) _ (λ k _. fit_lt (at r k) (bit n k) (bit_lt n k))

  pub nearest_completes : Completes r (nearest r n)
  unfolding nearest
  nearest_completes = record {
    below = number_lt (length r) _ (λ k _. fit_lt (at r k) (bit n k) (bit_lt n k));
    covered = λ k l. rw (nearest_bit k l) (fit_covered (at r k) (bit n k));
  }

  pub nearest_same : (k : ℕ) → k < length r → Covers (at r k) (bit n k) → bit (nearest r n) k ≡ bit n k
  nearest_same k l c = nearest_bit k l ∙ fit_same (at r k) (bit n k) c

-- every vector has a completion
pub completion : (r : List ℕ) → (n : ℕ) × Completes r n
completion r = (nearest r 0, nearest_completes r 0)

-- ---- the enumerator goes through the completions, and through nothing else

pub every_true : (r : List ℕ) (P : ℕ → Bool) → every r P ≡ true → (n : ℕ) → Completes r n → P n ≡ true
unfolding every Covers
every_true [] P e n c =
    let z : n ≡ 0 = omega (arith, c.below, pow-zero 2) in
    rw z e
every_true (zero ∷ r) P e n c =
    let v : n % 2 ≡ 0 = head 0 r n c in
    let i : 2 * (n / 2) ≡ n = omega arith in
    rw i at (every_true r (λ m. P (2 * m)) e (n / 2) (tail 0 r n c))
every_true (suc zero ∷ r) P e n c =
    let v : n % 2 ≡ 1 = head 1 r n c in
    let i : 2 * (n / 2) + 1 ≡ n = omega arith in
    rw i at (every_true r (λ m. P (2 * m + 1)) e (n / 2) (tail 1 r n c))
every_true (suc (suc s) ∷ r) P e n c =
    let evens = and_left (every r (λ m. P (2 * m))) (every r (λ m. P (2 * m + 1))) e in
    let odds = and_right (every r (λ m. P (2 * m))) (every r (λ m. P (2 * m + 1))) e in
    let low = every_true r (λ m. P (2 * m)) evens (n / 2) (tail (suc (suc s)) r n c) in
    let high = every_true r (λ m. P (2 * m + 1)) odds (n / 2) (tail (suc (suc s)) r n c) in
    pick (n % 2) refl low high
  where
    pick : (v : ℕ) → n % 2 ≡ v → P (2 * (n / 2)) ≡ true → P (2 * (n / 2) + 1) ≡ true → P n ≡ true
    pick zero v low high =
        let i : 2 * (n / 2) ≡ n = omega arith in
        rw i at low
    pick (suc m) v low high =
        let i : 2 * (n / 2) + 1 ≡ n = omega arith in
        rw i at high

pub every_false : (r : List ℕ) (P : ℕ → Bool) → every r P ≡ false → (n : ℕ) × Completes r n × (P n ≡ false)
unfolding every Covers
every_false [] P e = (0, nil, e)
every_false (zero ∷ r) P e =
    let w = every_false r (λ m. P (2 * m)) e in
    (2 * w.0, cons_even 0 r w.0 refl w.1, w.2)
every_false (suc zero ∷ r) P e =
    let w = every_false r (λ m. P (2 * m + 1)) e in
    (2 * w.0 + 1, cons_odd 1 r w.0 refl w.1, w.2)
every_false (suc (suc s) ∷ r) P e =
    ⊎_elim
    (λ i. let w = every_false r (λ m. P (2 * m)) i in (2 * w.0, cons_even (suc (suc s)) r w.0 tt w.1, w.2))
    (λ i. let w = every_false r (λ m. P (2 * m + 1)) i in (2 * w.0 + 1, cons_odd (suc (suc s)) r w.0 tt w.1, w.2))
    (and_false (every r (λ m. P (2 * m))) (every r (λ m. P (2 * m + 1))) e)

pub every_iff : (r : List ℕ) (P : ℕ → Bool) → (every r P ≡ true) ↔ ((n : ℕ) → Completes r n → P n ≡ true)
every_iff r P = (
  every_true r P,
  λ f. by_test (every r P) (λ e. e)
      (λ e. let w = every_false r P e in absurd (true≢false (sym (f w.0 w.1) ∙ w.2))),
)

pub every_and : (r : List ℕ) (P Q : ℕ → Bool) → every r (λ n. P n && Q n) ≡ (every r P && every r Q)
every_and r P Q = same_test (every r (λ n. P n && Q n)) (every r P && every r Q)
    (λ e. both
    ((every_iff r P).1 (λ n c. and_left (P n) (Q n) (every_true r (λ n. P n && Q n) e n c)))
    ((every_iff r Q).1 (λ n c. and_right (P n) (Q n) (every_true r (λ n. P n && Q n) e n c))))
    (λ e. (every_iff r (λ n. P n && Q n)).1 (λ n c. both
    (every_true r P (and_left (every r P) (every r Q) e) n c)
    (every_true r Q (and_right (every r P) (every r Q) e) n c)))

even_place : (l n m : ℕ) → 2 * (n + 2 ^ l * m) ≡ 2 * n + 2 ^ suc l * m
even_place l n m = rw (pow-succ' 2 l) (omega arith)

odd_place : (w n m : ℕ) → 2 * n + w * m + 1 ≡ 2 * n + 1 + w * m
odd_place w n m = omega arith

-- where s stands behind r, its places weigh 2 ^ length r times as much
pub every_append : (r s : List ℕ) (P : ℕ → Bool) → every (r ++ s) P ≡ every s (λ m. every r (λ n. P (n + 2 ^ length r * m)))
unfolding every
every_append [] s P = simp (pow-zero, one-mul, zero-add)
every_append (zero ∷ r) s P = simp (every_append r s, even_place)
every_append (suc zero ∷ r) s P = simp (every_append r s, even_place, odd_place)
every_append (suc (suc x) ∷ r) s P = simp (every_append r s, even_place, odd_place, every_and)

-- ---- vectors

pub at_table : (h : ℕ) (f : ℕ → ℕ) (k : ℕ) → k < h → at (table h f) k ≡ f k
at_table h f k l = get_or-table h f k 0 l

-- ---- the order of certainty between vectors

-- u is of l's length and covers l place by place
pub record Above (u l : List ℕ) : Type 0 where
  pub lengths : length l ≡ length u
  pub places : (k : ℕ) → k < length u → Covers (at u k) (at l k)

pub above_refl : (r : List ℕ) → Above r r
above_refl r = record { lengths = refl; places = λ k l. covers_refl (at r k) }

pub above_trans : (a b c : List ℕ) → Above a b → Above b c → Above a c
above_trans a b c p q = record {
  lengths = q.lengths ∙ p.lengths;
  places = λ k l. covers_trans (at a k) (at b k) (at c k) (p.places k l) (q.places k (omega (arith, p.lengths)));
}

-- what completes the lower vector completes the upper
pub above_completes : (u l : List ℕ) (n : ℕ) → Above u l → Completes l n → Completes u n
above_completes u l n a c = record {
  below = rw (← a.lengths) c.below;
  covered = λ k i. covers_trans (at u k) (at l k) (bit n k) (a.places k i) (c.covered k (omega (arith, a.lengths)));
}

-- a number is the only completion of the vector of its bits
pub completes_bits : (h n : ℕ) → n < 2 ^ h → Completes (table h (bit n)) n
completes_bits h n b =
    let e = length-table h (bit n) in
    record { below = rw e b; covered = λ k l. rw (at_table h (bit n) k (omega arith)) (covers_refl (bit n k)) }

-- a binary signal covers itself alone
pub covers_binary : (s v : ℕ) → s < 2 → Covers s v → v ≡ s
unfolding Covers
covers_binary zero v l c = c
covers_binary (suc zero) v l c = c
covers_binary (suc (suc s)) v l c = absurd (omega arith)

pub only_bits : (h n m : ℕ) → n < 2 ^ h → Completes (table h (bit n)) m → m ≡ n
only_bits h n m b c =
    let e = length-table h (bit n) in
    bit_ext h m n (rw e at c.below) b (λ k l.
    covers_binary (bit n k) (bit m k) (bit_lt n k) (rw (at_table h (bit n) k l) at (c.covered k (omega arith))))

-- ---- the number of unknown places

unfoldable pub unknowns : List ℕ → ℕ
unknowns [] = 0
unknowns (s ∷ r) = digit (eqb s X) + unknowns r

digit_le : (b : Bool) → digit b ≤ 1
digit_le true = omega arith
digit_le false = omega arith

pub unknowns_le : (r : List ℕ) → unknowns r ≤ length r
unfolding unknowns
unknowns_le [] = omega arith
unknowns_le (s ∷ r) = omega (arith, digit_le (eqb s X), unknowns_le r)

-- a signal is at least as unknown as one that it covers, and equally so only if it is the same
signal_step : (u l : ℕ) → Signal u → Covers u l → (digit (eqb l X) ≤ digit (eqb u X)) × (digit (eqb l X) ≡ digit (eqb u X) → l ≡ u)
unfolding Covers
signal_step u l (inl e) c =
    let i : l ≡ 0 = rw e at c in
    (le_of_eq (cc), λ _. cc)
signal_step u l (inr (inl e)) c =
    let i : l ≡ 1 = rw e at c in
    (le_of_eq (cc), λ _. cc)
signal_step u l (inr (inr e)) c = rw e (digit_le (eqb l X), λ i. by_test (eqb l X) (eqb-true l X) (λ f. absurd (none f i)))
  where
    none : eqb l X ≡ false → digit (eqb l X) ≡ 1 → ⊥
    none f i =
        let z : ◌≡◌ {A = ℕ} 0 1 = rw f at i in
        omega arith

-- the same of vectors
pub unknowns_above : (u l : List ℕ) → Above u l → ((k : ℕ) → k < length u → Signal (at u k))
    → (unknowns l ≤ unknowns u) × (unknowns l ≡ unknowns u → l ≡ u)
unfolding unknowns
unknowns_above [] [] a g = (omega arith, λ _. refl)
unknowns_above [] (y ∷ l) a g = absurd (omega (arith, a.lengths))
unknowns_above (x ∷ u) [] a g = absurd (omega (arith, a.lengths))
unknowns_above (x ∷ u) (y ∷ l) a g =
    let hd = signal_step x y (g 0 (omega arith)) (a.places 0 (omega arith)) in
    let up : Above u l = record { lengths = suc_inj a.lengths; places = λ k i. a.places (suc k) (omega arith) } in
    let tl = unknowns_above u l up (λ k i. g (suc k) (omega arith)) in
    (omega arith, λ e. ap₂ {C = List ℕ} (λ a b. a ∷ b) (hd.1 (omega arith)) (tl.1 (omega arith)))
