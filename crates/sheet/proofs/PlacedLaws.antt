-- The places of a record: those in use come first, and storing at the next place puts one more in use.
use Prim.Native.Nat.{ℕ, suc, ◌≤◌, ◌<◌}
use native.Mathlib.Omega.{arith}
use mathlib.Core.Path.{◌≡◌, sym, ap, subst, ◌∙◌}
use mathlib.Core.Bool.{Bool, cond}
use lib.Dec.{eqb, ltb}
use lib.ListN.{length, take, set, replicate, get_or, length-set, length-replicate, get_or-replicate}
use lib.Seq.{ext_get_or, get_or-set_same, get_or-set_other, get_or-take, length-take-le}
use borrow.Author.Tests.{ltb-true, lt-ltb, le-ltb, eqb-true, eqb-false}
use Rattle.ternary.specs.Lists.{table}
use Rattle.ternary.proofs.ListLaws.{length-table, get_or-table, table_ext}
use Rattle.ternary.proofs.Tests.{by_test, same_test}
use Rattle.sheet.specs.SheetRows.{placed}

module _ {A : Type 0} (n : ℕ) (f : ℕ → A) (z : A) where
  pub length-placed : (k : ℕ) → length (placed n k f z) ≡ n
  unfolding placed
  length-placed k = length-table n _

  pub placed_at : (k i : ℕ) → i < n → get_or (placed n k f z) i z ≡ cond (ltb i k) (f i) z
  unfolding placed
  placed_at k i h = get_or-table n _ i z h

  pub placed_none : replicate n z ≡ placed n 0 f z
  placed_none =
      ext_get_or z (replicate n z) (placed n 0 f z) (length-replicate n z ∙ sym (length-placed 0))
      (λ i h.
      let b : i < n = omega (arith, length-replicate n z) in
      get_or-replicate n i z z b ∙ sym (placed_at 0 i b ∙ rw (le-ltb i 0 (omega arith))))

  pub placed_more : (k : ℕ) → k < n → set (placed n k f z) k (f k) ≡ placed n (suc k) f z
  placed_more k h =
      ext_get_or z (set (placed n k f z) k (f k)) (placed n (suc k) f z) (size ∙ sym (length-placed (suc k)))
      (λ i b. by_test (eqb i k) (λ e. here i (eqb-true i k e)) (λ e. elsewhere i (omega (arith, size)) (eqb-false i k e)))
    where
      size : length (set (placed n k f z) k (f k)) ≡ n
      size = length-set (placed n k f z) k (f k) ∙ length-placed k

      here : (i : ℕ) → i ≡ k → get_or (set (placed n k f z) k (f k)) i z ≡ get_or (placed n (suc k) f z) i z
      here i e =
          subst (λ (p : ℕ). get_or (set (placed n k f z) k (f k)) p z ≡ get_or (placed n (suc k) f z) p z) (sym e)
          (get_or-set_same (placed n k f z) k (f k) z (omega (arith, h, length-placed k)) ∙ sym (placed_at (suc k) k h ∙ rw (lt-ltb k (suc k) (omega arith))))

      elsewhere : (i : ℕ) → i < n → (i ≡ k → ⊥) → get_or (set (placed n k f z) k (f k)) i z ≡ get_or (placed n (suc k) f z) i z
      elsewhere i b e =
          let same : ltb i k ≡ ltb i (suc k) =
          same_test (ltb i k) (ltb i (suc k)) (λ t. lt-ltb i (suc k) (omega (arith, ltb-true i k t))) (λ t. lt-ltb i k (omega (arith, e, ltb-true i (suc k) t))) in
          get_or-set_other (placed n k f z) k i (f k) z e ∙ placed_at k i b ∙ ap (λ (t : Bool). cond t (f i) z) same ∙ sym (placed_at (suc k) i b)

  -- those in use, taken out again
  pub placed_taken : (k : ℕ) → k ≤ n → take k (placed n k f z) ≡ table k f
  placed_taken k h =
      let size : length (take k (placed n k f z)) ≡ k = length-take-le k (placed n k f z) (rw (length-placed k) h) in
      ext_get_or z (take k (placed n k f z)) (table k f) (size ∙ sym (length-table k f))
      (λ i b.
      let low : i < k = omega (arith, size) in
      get_or-take k (placed n k f z) i z low ∙ placed_at k i (omega arith) ∙ rw (lt-ltb i k low) (sym (get_or-table k f i z low)))

-- the places in use decide
pub placed_ext : {A : Type 0} (n k : ℕ) (f g : ℕ → A) (z : A) → ((i : ℕ) → i < k → f i ≡ g i) → placed n k f z ≡ placed n k g z
unfolding placed
placed_ext n k f g z h = table_ext n _ _ (λ i b. by_test (ltb i k) (λ t. rw t (h i (ltb-true i k t))) (λ t. rw t))
