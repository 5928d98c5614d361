-- A loop that goes over a list from the front and stores one entry a turn. Assumes nothing.
use mathlib.Core.Path.{◌≡◌, refl, sym, ap, subst, ◌∙◌}
use mathlib.Core.Logic.{◌⊎◌, inl, inr}
use mathlib.Core.List.{List, ◌∷◌, map}
use Prim.Native.Nat.{ℕ, zero, suc, ◌+◌, ◌≤◌, ◌<◌}
use native.Mathlib.Omega.{arith}
use lib.ListN.{length, take, get_or, set, length-set, replicate, length-replicate, get_or-replicate, length-map, get_or-eq_default}
use lib.Seq.{get_or-set_same, get_or-set_other, ext_get_or}
use Rattle.ternary.specs.Lists.{table}
use Rattle.ternary.proofs.ListLaws.{below_cases, length-table, get_or-table, get_or-map_lt}
use Rattle.ternary.proofs.Tests.{by_test}
use lib.Dec.{ltb}
use borrow.Author.Tests.{ltb-true, ltb-false}

-- r has n entries: f gives those before i, and g the others
pub record Filled (n : ℕ) (f g : ℕ → ℕ) (r : List ℕ) (i : ℕ) : Type 0 where
  pub size : length r ≡ n
  pub stored : (j : ℕ) → j < i → get_or r j 0 ≡ f j
  pub kept : (j : ℕ) → i ≤ j → get_or r j 0 ≡ g j

-- before the first turn
pub fill_start : {n : ℕ} {f : ℕ → ℕ} {r : List ℕ} → length r ≡ n → Filled n f (λ j. get_or r j 0) r 0
fill_start {r = r} h = record { size = h; stored = λ j l. absurd (omega arith); kept = λ j l. refl }

abbrev pub zeros : ℕ → List ℕ
zeros n = replicate n 0

pub zeros_read : (n j : ℕ) → get_or (zeros n) j 0 ≡ 0
zeros_read n j = by_test (ltb j n)
    (λ h. get_or-replicate n j _ _ (ltb-true j n h))
    (λ h. get_or-eq_default (zeros n) 0 (omega (arith, ltb-false j n h, length-replicate {A = ℕ} n 0)))

pub zeros_part : (k n : ℕ) → k ≤ n → take k (zeros n) ≡ zeros k
zeros_part zero n h = refl
zeros_part (suc k) zero h = absurd (omega arith)
zeros_part (suc k) (suc n) h = ap (λ (l : List ℕ). 0 ∷ l) (zeros_part k n (omega arith))

pub fill_zeros : {f : ℕ → ℕ} (n : ℕ) → Filled n f (λ j. 0) (zeros n) 0
fill_zeros n = record { size = length-replicate n _; stored = λ j l. absurd (omega arith); kept = λ j l. zeros_read n j }

-- a turn
pub fill_step : {n : ℕ} {f g : ℕ → ℕ} {r : List ℕ} {i x : ℕ} → Filled n f g r i → i < n → x ≡ f i → Filled n f g (set r i x) (i + 1)
fill_step {n} {f} {g} {r} {i} {x} m h e =
    record {
      size = length-set r i x ∙ m.size;
      stored = λ j l. go j (below_cases {i = j} {n = i} (omega arith));
      kept = λ j l. get_or-set_other r i j x 0 (omega arith) ∙ m.kept j (omega arith);
    }
  where
    go : (j : ℕ) → (j < i) ⊎ (j ≡ i) → get_or (set r i x) j 0 ≡ f j
    go j (inl k) = get_or-set_other r i j x 0 (omega arith) ∙ m.stored j k
    go j (inr k) = subst (λ (p : ℕ). get_or (set r i x) p 0 ≡ f p) (sym k) (get_or-set_same r i x 0 (omega (arith, m.size)) ∙ e)

-- an entry that is right as it was
pub fill_skip : {n : ℕ} {f g : ℕ → ℕ} {r : List ℕ} {i : ℕ} → Filled n f g r i → g i ≡ f i → Filled n f g r (i + 1)
fill_skip {n} {f} {g} {r} {i} m e =
    record {
      size = m.size;
      stored = λ j l. go j (below_cases {i = j} {n = i} (omega arith));
      kept = λ j l. m.kept j (omega arith);
    }
  where
    go : (j : ℕ) → (j < i) ⊎ (j ≡ i) → get_or r j 0 ≡ f j
    go j (inl k) = m.stored j k
    go j (inr k) = subst (λ (p : ℕ). get_or r p 0 ≡ f p) (sym k) (m.kept i (omega arith) ∙ e)

-- after the last: the entries that were never stored are already right
pub fill_end : {n : ℕ} {f g : ℕ → ℕ} {r : List ℕ} {i : ℕ} → Filled n f g r i → ((j : ℕ) → i ≤ j → j < n → g j ≡ f j) → r ≡ table n f
fill_end {n} {f} {g} {r} {i} m e =
    ext_get_or 0 r (table n f) (m.size ∙ sym (length-table n f))
    (λ j l. entry j (omega (arith, m.size)) ∙ sym (get_or-table n f j 0 (omega (arith, m.size))))
  where
    entry : (j : ℕ) → j < n → get_or r j 0 ≡ f j
    entry j l = by_test (ltb j i) (λ h. m.stored j (ltb-true j i h)) (λ h. m.kept j (ltb-false j i h) ∙ e j (ltb-false j i h) l)

pub fill_all : {n : ℕ} {f g : ℕ → ℕ} {r : List ℕ} {i : ℕ} → Filled n f g r i → n ≤ i → r ≡ table n f
fill_all m h = fill_end m (λ j a b. absurd (omega arith))

-- every entry of t replaced by h of it
pub fill_map : (h : ℕ → ℕ) (t : List ℕ) {n : ℕ} {g : ℕ → ℕ} {r : List ℕ} {i : ℕ} → Filled n (λ j. h (get_or t j 0)) g r i → n ≤ i → length t ≡ n → r ≡ map h t
fill_map h t {n} {g} {r} m l e =
    ext_get_or 0 r (map h t) (m.size ∙ sym e ∙ sym (length-map t h))
    (λ j k. m.stored j (omega (arith, m.size)) ∙ sym (get_or-map_lt h t j 0 0 (omega (arith, m.size))))
