-- Lists stored from place 0 of a zeroed array, tests of every element of a list, and the element at a place.
use Prim.Native.Nat.{ℕ, zero, suc, ◌+◌, ◌-◌, ◌≤◌, ◌<◌}
use native.Mathlib.Nat.{zero-add, suc-sub-suc, zero-sub, sub-zero, not-suc-le-zero, le_of_suc-le-suc}
use native.Mathlib.Omega.{arith}
use mathlib.Core.Path.{◌≡◌, refl, ap, ◌∙◌}
use mathlib.Core.Logic.{◌↔◌}
use mathlib.Core.Bool.{Bool, true, true≢false}
use mathlib.Core.List.{List, [], ◌∷◌, ◌++◌}
use mathlib.Core.Option.{none, some}
use lib.Dec.{ltb}
use lib.ListN.{length, get_or, get_elem?, take, drop, replicate, length-replicate, length-drop, take-append-drop}
use lib.Seq.{sets, sets-eq, length-take-le, get_or-take}
use borrow.Author.Tests.{ltb-true, ltb-false}
use Rattle.ternary.proofs.Tests.{ands, both, by_test}
use Rattle.sheet.specs.Valid.{all_of}

module _ {A : Type 0} (z : A) where
  drop-replicate : (k n : ℕ) → drop k (replicate n z) ≡ replicate (n - k) z
  drop-replicate zero n = rw sub-zero
  drop-replicate (suc k) zero = rw zero-sub
  drop-replicate (suc k) (suc n) = rw suc-sub-suc (drop-replicate k n)

  -- what storing a list leaves: the list, then zeros
  stored : (n : ℕ) (xs : List A) → length xs ≤ n → sets (replicate n z) 0 xs ≡ xs ++ replicate (n - length xs) z
  stored n xs h =
      let fits : 0 + length xs ≤ length (replicate n z) = rw (zero-add, length-replicate) h in
      sets-eq xs (replicate n z) 0 fits ∙ rw (zero-add, drop-replicate)

  -- an array with zeros after its first k elements is what storing those elements gives
  pub restored : (n k : ℕ) (l : List A) → length l ≡ n → k ≤ n → drop k l ≡ replicate (length (drop k l)) z → sets (replicate n z) 0 (take k l) ≡ l
  restored n k l len h zeros =
      let size : length (take k l) ≡ k = length-take-le k l (rw len h) in
      let rest : drop k l ≡ replicate (n - k) z = zeros ∙ rw (length-drop, len) in
      stored n (take k l) (rw size h) ∙ rw (size, ← rest) (take-append-drop k l)

module _ {A : Type 0} (p : A → Bool) where
  -- every element of a list that passes is z, if only z passes
  pub all_same : (z : A) → ((x : A) → p x ≡ true → x ≡ z) → (l : List A) → all_of p l ≡ true → l ≡ replicate (length l) z
  unfolding all_of
  all_same z only [] h = refl
  all_same z only (x ∷ xs) h = rw (only x (search ands), ← (all_same z only xs (search ands)))

  pub all_listed : (l : List A) (d : A) → ((i : ℕ) → i < length l → p (get_or l i d) ≡ true) → all_of p l ≡ true
  unfolding all_of
  all_listed [] d h = refl
  all_listed (x ∷ xs) d h = both (h zero (omega arith)) (all_listed xs d (λ i l. h (suc i) (omega arith)))

  pub all_get_d : (l : List A) (d : A) (i : ℕ) → all_of p l ≡ true → i < length l → p (get_or l i d) ≡ true
  unfolding all_of
  all_get_d [] d i h l = absurd (not-suc-le-zero l)
  all_get_d (x ∷ xs) d zero h l = search ands
  all_get_d (x ∷ xs) d (suc i) h l = all_get_d xs d i (search ands) (le_of_suc-le-suc l)

  -- element i of the first k passes, if all of these do
  pub all_taken : (k : ℕ) (l : List A) (d : A) (i : ℕ) → all_of p (take k l) ≡ true → k ≤ length l → i < k → p (get_or l i d) ≡ true
  all_taken k l d i h fits below = rw (← (get_or-take k l i d below)) (all_get_d (take k l) d i h (rw (length-take-le k l fits) below))

-- ---- the element at a place, if the list is that long

module _ {A : Type 0} where
  get_inside : (l : List A) (i : ℕ) (d : A) → i < length l → get_elem? l i ≡ some (get_or l i d)
  get_inside [] i d h = absurd (not-suc-le-zero h)
  get_inside (x ∷ xs) zero d h = refl
  get_inside (x ∷ xs) (suc i) d h = get_inside xs i d (le_of_suc-le-suc h)

  get_outside : (l : List A) (i : ℕ) → length l ≤ i → get_elem? l i ≡ none
  get_outside [] i h = refl
  get_outside (x ∷ xs) zero h = absurd (not-suc-le-zero h)
  get_outside (x ∷ xs) (suc i) h = get_outside xs i (le_of_suc-le-suc h)

  pub get_none : (l : List A) (i : ℕ) (d : A) → (get_elem? l i ≡ none) ↔ (length l ≤ i)
  get_none l i d = (
    λ e. by_test (ltb i (length l))
        (λ h. let s = get_inside l i d (ltb-true i (length l) h) in absurd (true≢false (cc)))
        (ltb-false i (length l)),
    get_outside l i,
  )

  pub get_some : (l : List A) (i : ℕ) (d x : A) → (get_elem? l i ≡ some x) ↔ ((i < length l) × (get_or l i d ≡ x))
  get_some l i d x = (
    λ e. by_test (ltb i (length l))
        (λ h. let s = get_inside l i d (ltb-true i (length l) h) in (ltb-true i (length l) h, cc))
        (λ h. let s = get_outside l i (ltb-false i (length l) h) in absurd (true≢false (cc))),
    λ h. get_inside l i d h.0 ∙ ap some h.1,
  )
