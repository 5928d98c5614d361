-- The grown table holds, for every ternary vector, the value that the truth table has at all its completions. Assumes nothing.
use Prim.Native.Nat.{ℕ, zero, suc, ◌+◌, ◌-◌, ◌*◌, ◌^◌, ◌≤◌, ◌<◌}
use mathlib.Core.Path.{◌≡◌, refl, sym, ap, subst, ◌∙◌}
use mathlib.Core.Bool.{Bool, true, false, ◌&&◌}
use mathlib.Core.Logic.{inl, inr, ◌≢◌}
use mathlib.Core.List.{List, [], ◌∷◌, ◌++◌, map}
use native.Mathlib.Omega.{arith}
use native.Mathlib.Nat.{pow-zero, pow-succ', mul-zero, mul-one, add-zero, suc_inj}
use native.Mathlib.Numerals.{sub-one}
use lib.Dec.{leb, eqb, lit<}
use lib.ListN.{length, get_or, take, drop, length-append, length-drop, length-map, get_or-append, get_or-map}
use lib.Seq.{length-take-le, take-suc, take_all, get_or-append-add, get_or-take, get_or-drop}
use borrow.Author.Tests.{eqb-true, eq-eqb, ne_eqb, leb-false, lt-leb}
use Rattle.ternary.specs.Lists.{table}
use Rattle.ternary.specs.Signal.{X, Signal, every}
use Rattle.ternary.specs.Excitation.{agreed, common_of}
use Rattle.ternary.specs.TruthTable.{signal_of, agree, agreeing, signal_kinds, grow, ternary_digit, ternary_index}
use Rattle.ternary.proofs.Tests.{by_test}
use Rattle.ternary.proofs.ListLaws.{length-table, get_or-table}
use Rattle.ternary.proofs.SignalLaws.{completion, every_true, every_append}
use Rattle.ternary.proofs.ExcitationLaws.{common_of_ext}

-- ---- the index of a vector

-- a digit by a test
pub ternary_digit-binary : (s : ℕ) → s < 2 → ternary_digit s ≡ s
ternary_digit-binary zero l = refl
ternary_digit-binary (suc zero) l = refl
ternary_digit-binary (suc (suc s)) l = absurd (omega arith)

pub ternary_digit_unknown : (s : ℕ) → 2 ≤ s → ternary_digit s ≡ 2
ternary_digit_unknown zero l = absurd (omega arith)
ternary_digit_unknown (suc zero) l = absurd (omega arith)
ternary_digit_unknown (suc (suc s)) l = refl

pub ternary_digit_lt : (s : ℕ) → ternary_digit s < signal_kinds
ternary_digit_lt zero = omega arith
ternary_digit_lt (suc zero) = omega arith
ternary_digit_lt (suc (suc s)) = omega arith

pub ternary_index_lt : (r : List ℕ) → ternary_index r < signal_kinds ^ length r
unfolding ternary_index
ternary_index_lt [] = omega (arith, pow-zero signal_kinds)
ternary_index_lt (s ∷ r) = rw (pow-succ' signal_kinds (length r)) (omega (arith, ternary_digit_lt s, ternary_index_lt r))

pub ternary_index_last : (r : List ℕ) (s : ℕ) → ternary_index (r ++ s ∷ []) ≡ ternary_index r + signal_kinds ^ length r * ternary_digit s
unfolding ternary_index
ternary_index_last [] s = rw (pow-zero signal_kinds) (omega arith)
ternary_index_last (x ∷ r) s = rw (ternary_index_last r s, pow-succ' signal_kinds (length r)) (omega arith)

-- ---- grown tables, third by third

pub length-agreeing : (a b : List ℕ) → length a ≡ length b → length (agreeing a b) ≡ length a
unfolding agreeing
length-agreeing [] b e = refl
length-agreeing (x ∷ a) [] e = absurd (omega arith)
length-agreeing (x ∷ a) (y ∷ b) e = ap suc (length-agreeing a b (suc_inj e))

pub get_or_agreeing : (a b : List ℕ) → length a ≡ length b → (i d : ℕ) → get_or (agreeing a b) i d ≡ agree (get_or a i d) (get_or b i d)
unfolding agreeing
get_or_agreeing [] [] e i d = rw (eq-eqb d d refl)
get_or_agreeing [] (y ∷ b) e i d = absurd (omega arith)
get_or_agreeing (x ∷ a) [] e i d = absurd (omega arith)
get_or_agreeing (x ∷ a) (y ∷ b) e zero d = refl
get_or_agreeing (x ∷ a) (y ∷ b) e (suc i) d = get_or_agreeing a b (suc_inj e) i d

-- the halves of a truth table: where the last variable is 0, and where it is 1
module _ (n : ℕ) (t : List ℕ) (lt : length t ≡ 2 ^ suc n) where
  length-low : length (take (2 ^ n) t) ≡ 2 ^ n
  length-low = length-take-le (2 ^ n) t (omega arith)

  length_high : length (drop (2 ^ n) t) ≡ 2 ^ n
  length_high = rw (length-drop (2 ^ n) t) (omega arith)

pub grow-length : (n : ℕ) (t : List ℕ) → length t ≡ 2 ^ n → length (grow n t) ≡ signal_kinds ^ n
unfolding grow
grow-length zero t e = rw (pow-zero signal_kinds) (omega (arith, pow-zero 2))
grow-length (suc n) t e =
    let low = grow-length n (take (2 ^ n) t) (length-low n t e) in
    let high = grow-length n (drop (2 ^ n) t) (length_high n t e) in
    rw (length-append, length-append, length-agreeing _ _ (low ∙ sym high), low, high, pow-succ' signal_kinds n) (omega arith)

-- a list behind one of length m begins at place m
get_or_behind : (a c : List ℕ) (m i d : ℕ) → length a ≡ m → get_or (a ++ c) (i + m) d ≡ get_or c i d
get_or_behind a c m i d e = let j : i + m ≡ length a + i = omega arith in rw j (get_or-append-add a c i d)

-- the thirds of a list: a, then b, then c
module _ (a b c : List ℕ) (m i d : ℕ) (la : length a ≡ m) (lb : length b ≡ m) where
  pub first-third : i < m → get_or (a ++ (b ++ c)) (i + m * 0) d ≡ get_or a i d
  first-third l = rw (mul-zero, add-zero) (get_or-append a _ d i (omega arith))

  pub second-third : i < m → get_or (a ++ (b ++ c)) (i + m * 1) d ≡ get_or b i d
  second-third l = rw mul-one (get_or_behind a _ m i d la ∙ get_or-append b _ d i (omega arith))

  pub last_third : get_or (a ++ (b ++ c)) (i + m * 2) d ≡ get_or c i d
  last_third = let j : i + m * 2 ≡ i + m + m = omega arith in rw j (get_or_behind a _ m (i + m) d la ∙ get_or_behind b _ m i d lb)

-- a table over more than 0 variables, by its halves
pub grow_halves : (n : ℕ) (t : List ℕ) → n ≢ 0
    → let low = grow (n - 1) (take (2 ^ (n - 1)) t) in let high = grow (n - 1) (drop (2 ^ (n - 1)) t) in grow n t ≡ low ++ (high ++ agreeing low high)
unfolding grow
grow_halves zero t p = absurd (p refl)
grow_halves (suc n) t p = rw (sub-one (suc n))

-- ---- the common value by the last place of the vector

agreed_and : (a b c d : Bool) → (a ≡ true → b ≡ true → ⊥) → (c ≡ true → d ≡ true → ⊥) → agreed (a && c) (b && d) ≡ agree (agreed a b) (agreed c d)
agreed_and true true c d f g = absurd (f refl refl)
agreed_and true false true d f g = refl
agreed_and true false false true f g = refl
agreed_and true false false false f g = refl
agreed_and false true true true f g = absurd (g refl refl)
agreed_and false true true false f g = refl
agreed_and false true false true f g = refl
agreed_and false true false false f g = refl
agreed_and false false true d f g = refl
agreed_and false false false true f g = refl
agreed_and false false false false f g = refl

-- no function is 0 at every completion and 1 at every completion: there is one
exclusive : (f : ℕ → ℕ) (r : List ℕ) → every r (λ w. eqb (f w) 0) ≡ true → every r (λ w. eqb (f w) 1) ≡ true → ⊥
exclusive f r x y =
    let w = completion r in
    let zeros : f w.0 ≡ 0 = eqb-true _ 0 (every_true r (λ w. eqb (f w) 0) x w.0 w.1) in
    let ones : f w.0 ≡ 1 = eqb-true _ 1 (every_true r (λ w. eqb (f w) 1) y w.0 w.1) in
    omega arith

module _ (f : ℕ → ℕ) (r : List ℕ) where
  pub common_of_zero : common_of f (r ++ 0 ∷ []) ≡ common_of f r
  unfolding common_of every
  common_of_zero = simp (every_append, mul-zero, add-zero)

  common_of_one : common_of f (r ++ 1 ∷ []) ≡ common_of (λ w. f (w + 2 ^ length r)) r
  unfolding common_of every
  common_of_one = simp (every_append, mul-one)

  -- where the last place is X, both halves have to share the value
  common_of_more : (s : ℕ) → common_of f (r ++ suc (suc s) ∷ []) ≡ agree (common_of f r) (common_of (λ w. f (w + 2 ^ length r)) r)
  unfolding common_of every
  common_of_more s = simp (every_append, mul-zero, mul-one, add-zero) (agreed_and _ _ _ _ (exclusive f r) (exclusive (λ w. f (w + 2 ^ length r)) r))

-- ---- the grown table

-- by the last place, where both halves are known to be grown right
module _ (n : ℕ) (t r : List ℕ) (lr : length r ≡ n) (lt : length t ≡ 2 ^ suc n) where
  abbrev low : List ℕ
  low = take (2 ^ n) t

  abbrev high : List ℕ
  high = drop (2 ^ n) t

  common-low : common_of (λ w. get_or low w X) r ≡ common_of (λ w. get_or t w X) r
  common-low = common_of_ext _ _ r (λ w c. get_or-take (2 ^ n) t w X (rw lr at c.below))

  common-high : common_of (λ w. get_or high w X) r ≡ common_of (λ w. get_or t (w + 2 ^ length r) X) r
  common-high = common_of_ext _ _ r (λ w c. get_or-drop (2 ^ n) t w X ∙ ap (λ i. get_or t i X) (rw lr (omega arith)))

  low-grown : length (grow n low) ≡ signal_kinds ^ length r
  low-grown = rw lr (grow-length n low (length-low n t lt))

  high-grown : length (grow n high) ≡ signal_kinds ^ length r
  high-grown = rw lr (grow-length n high (length_high n t lt))

  grown_last : get_or (grow n low) (ternary_index r) X ≡ common_of (λ w. get_or low w X) r → get_or (grow n high) (ternary_index r) X ≡ common_of (λ w. get_or high w X) r
      → (s : ℕ) → get_or (grow (suc n) t) (ternary_index (r ++ s ∷ [])) X ≡ common_of (λ w. get_or t w X) (r ++ s ∷ [])
  unfolding grow
  grown_last l h zero = rw (ternary_index_last r 0, common_of_zero, ← common-low, ← l)
      (first-third (grow n low) (grow n high) (agreeing (grow n low) (grow n high)) _ (ternary_index r) X low-grown high-grown (ternary_index_lt r))
  grown_last l h (suc zero) = rw (ternary_index_last r 1, common_of_one, ← common-high, ← h)
      (second-third (grow n low) (grow n high) (agreeing (grow n low) (grow n high)) _ (ternary_index r) X low-grown high-grown (ternary_index_lt r))
  grown_last l h (suc (suc s)) = rw (ternary_index_last r (suc (suc s)), common_of_more, ← common-low, ← common-high, ← l, ← h)
      (last_third (grow n low) (grow n high) (agreeing (grow n low) (grow n high)) _ (ternary_index r) X low-grown high-grown
      ∙ get_or_agreeing (grow n low) (grow n high) (low-grown ∙ sym high-grown) (ternary_index r) X)

-- a signal is what it has in common with itself
common_nil : (f : ℕ → ℕ) → Signal (f 0) → f 0 ≡ common_of f []
unfolding common_of every
common_nil f (inl e) = rw e
common_nil f (inr (inl e)) = rw e
common_nil f (inr (inr e)) = rw e

pub grow-common : (n : ℕ) (t r : List ℕ) → length r ≡ n → length t ≡ 2 ^ n → ((w : ℕ) → w < 2 ^ n → Signal (get_or t w X))
    → get_or (grow n t) (ternary_index r) X ≡ common_of (λ w. get_or t w X) r
unfolding grow ternary_index
grow-common zero t [] lr lt g = common_nil (λ w. get_or t w X) (g 0 (omega (arith, pow-zero 2)))
grow-common zero t (s ∷ r) lr lt g = absurd (omega arith)
grow-common (suc n) t r lr lt g =
    let front = take n r in
    let lf : length front ≡ n = length-take-le n r (omega arith) in
    let split : front ++ get_or r n 0 ∷ [] ≡ r = sym (take-suc r n 0 (omega arith)) ∙ take_all (suc n) r (omega arith) in
    let below = grow-common n (take (2 ^ n) t) front lf (length-low n t lt) (λ w h. rw (get_or-take (2 ^ n) t w X h) (g w (omega arith))) in
    let above = grow-common n (drop (2 ^ n) t) front lf (length_high n t lt) (λ w h. rw (get_or-drop (2 ^ n) t w X) (g (2 ^ n + w) (omega arith))) in
    subst (λ v. get_or (grow (suc n) t) (ternary_index v) X ≡ common_of (λ w. get_or t w X) v) split (grown_last n t front lf lt below above (get_or r n 0))

-- ---- a function's truth table

signal_of_signal : (v : ℕ) → Signal (signal_of v)
signal_of_signal zero = inl refl
signal_of_signal (suc zero) = inr (inl refl)
signal_of_signal (suc (suc v)) = inr (inr (rw (lt-leb (suc (suc v)) 1 (omega arith))))

-- a value is 0, or 1, exactly if its signal is
signal_of_eqb : (v b : ℕ) → b < 2 → eqb (signal_of v) b ≡ eqb v b
signal_of_eqb v b l = by_test (leb v 1) (λ e. rw e) (λ e. rw (e, ne_eqb X b (omega arith), ne_eqb v b (omega (arith, leb-false v 1 e))))

common_of-signals : (f : ℕ → ℕ) (r : List ℕ) → common_of (λ w. signal_of (f w)) r ≡ common_of f r
unfolding common_of
common_of-signals f r =
    let zeros : (v : ℕ) → eqb (signal_of v) 0 ≡ eqb v 0 = λ v. signal_of_eqb v 0 (lit< tt) in
    let ones : (v : ℕ) → eqb (signal_of v) 1 ≡ eqb v 1 = λ v. signal_of_eqb v 1 (lit< tt) in
    simp (zeros, ones)

-- the table grown from a function's values holds the function's common values
pub grow-table : (n : ℕ) (f : ℕ → ℕ) (r : List ℕ) → length r ≡ n → get_or (grow n (map signal_of (table (2 ^ n) f))) (ternary_index r) X ≡ common_of f r
grow-table n f r lr =
    grow-common n (map signal_of (table (2 ^ n) f)) r lr
    (length-map (table (2 ^ n) f) signal_of ∙ length-table (2 ^ n) f) (λ w l. rw (entry w l) (signal_of_signal (f w)))
    ∙ common_of_ext _ (λ w. signal_of (f w)) r (λ w c. entry w (rw lr at c.below))
    ∙ common_of-signals f r
  where
    entry : (w : ℕ) → w < 2 ^ n → get_or (map signal_of (table (2 ^ n) f)) w X ≡ signal_of (f w)
    entry w l = get_or-map signal_of (table (2 ^ n) f) w X ∙ ap signal_of (get_or-table (2 ^ n) f w X l)
