-- Labels are equal exactly where vertices are joined. Both directions are inductions on the number of edges merged, so no bound on a walk's length
-- is needed.
use mathlib.Core.Path.{◌≡◌, refl, sym, ap, subst, ◌∙◌}
use mathlib.Core.Bool.{Bool, true, false, ◌&&◌}
use mathlib.Core.Logic.{◌⊎◌, inl, inr, ◌≢◌, ⊎_elim}
use mathlib.Core.List.{List, [], ◌∷◌, map}
use Prim.Native.Nat.{ℕ, zero, suc, ◌<◌, ◌≤◌}
use native.Mathlib.Nat.{not-suc-le-zero}
use native.Mathlib.Omega.{arith}
use lib.Dec.{eqb}
use lib.ListN.{length, get_or, take, length-map}
use lib.Seq.{get_or-take}
use borrow.Author.Tests.{eqb-true, eq-eqb, ne_eqb, leb-true, ltb-true}
use Rattle.net.specs.declared.Net.{Net}
use Rattle.net.specs.Graph.{edge_at, has_role, is_storage, is_output}
use Rattle.net.specs.Walks.{Joins}
use Rattle.net.specs.Classes.{relabel, merge, classes, inner, labels}
use Rattle.ternary.proofs.Tests.{ands, or_right, or_true, test}
use Rattle.ternary.proofs.ListLaws.{length-table, get_or-table, get_or-map_lt, below_cases}

-- relabelling

pub relabel-hit : (new old l : ℕ) → l ≡ old → relabel new old l ≡ new
unfolding relabel
relabel-hit new old l e = rw (eq-eqb l old e)

relabel_miss : (new old l : ℕ) → eqb l old ≡ false → relabel new old l ≡ l
unfolding relabel
relabel_miss new old l e = rw e

pub relabel-other : (new old l : ℕ) → l ≢ old → relabel new old l ≡ l
relabel-other new old l h = relabel_miss new old l (ne_eqb l old h)

relabel_new : (new old : ℕ) → relabel new old new ≡ new
relabel_new new old = go (test (eqb new old))
  where
    go : (eqb new old ≡ true) ⊎ (eqb new old ≡ false) → relabel new old new ≡ new
    go (inl e) = relabel-hit new old new (eqb-true new old e)
    go (inr e) = relabel_miss new old new e

-- for code whose table is an array longer than the vertices in use: the first m labels of a merged table
take-map : (f : ℕ → ℕ) (m : ℕ) (t : List ℕ) → take m (map f t) ≡ map f (take m t)
take-map f zero t = refl
take-map f (suc m) [] = refl
take-map f (suc m) (x ∷ t) = ap (λ (l : List ℕ). f x ∷ l) (take-map f m t)

pub take-merge : (m u v : ℕ) (t : List ℕ) → u < m → v < m → take m (merge u v t) ≡ merge u v (take m t)
unfolding merge
take-merge m u v t hu hv = rw (get_or-take m t u 0 hu, get_or-take m t v 0 hv) (take-map _ m t)

-- a storage vertex is in range
pub role_range : (N : Net) (v r : ℕ) → has_role N v r ≡ true → v < suc N.vertex_count
unfolding has_role
role_range N v r e = let h = leb-true v N.vertex_count (search ands) in omega arith

role_low : (N : Net) (v r : ℕ) → has_role N v r ≡ true → 1 ≤ v
unfolding has_role
role_low N v r e = ltb-true 0 v (search ands)

pub output_storage : (N : Net) (v : ℕ) → is_output N v ≡ true → is_storage N v ≡ true
unfolding is_storage
output_storage N v e = or_right (has_role N v 1) (has_role N v 2) e

pub storage_low : (N : Net) (v : ℕ) → is_storage N v ≡ true → 1 ≤ v
unfolding is_storage
storage_low N v e = ⊎_elim (role_low N v 1) (role_low N v 2) (or_true (has_role N v 1) (has_role N v 2) e)

pub storage_range : (N : Net) (v : ℕ) → is_storage N v ≡ true → v < suc N.vertex_count
unfolding is_storage
storage_range N v e = go (or_true (has_role N v 1) (has_role N v 2) e)
  where
    go : (has_role N v 1 ≡ true) ⊎ (has_role N v 2 ≡ true) → v < suc N.vertex_count
    go (inl h) = role_range N v 1 h
    go (inr h) = role_range N v 2 h

module _ (N : Net) (on : ℕ → Bool) where
  abbrev pub InRange : ℕ → Type 0
  InRange v = v < suc N.vertex_count

  abbrev pub label : ℕ → ℕ → ℕ
  label n v = get_or (labels N on n) v 0

  abbrev pub Inner : ℕ → Type 0
  Inner i = (on i && inner N (edge_at N i)) ≡ true

  pub inner-passes : (i : ℕ) → Inner i → on i ≡ true
  inner-passes i h = search ands

  pub inner_end1 : (i : ℕ) → Inner i → is_storage N (edge_at N i).end1 ≡ true
  unfolding inner
  inner_end1 i h = search ands

  pub inner_end2 : (i : ℕ) → Inner i → is_storage N (edge_at N i).end2 ≡ true
  unfolding inner
  inner_end2 i h = search ands

  length-labels : (n : ℕ) → length (labels N on n) ≡ suc N.vertex_count
  unfolding labels classes merge
  length-labels zero = length-table (suc N.vertex_count) (λ v. v)
  length-labels (suc n) = go (length-labels n) (test (on n && inner N (edge_at N n)))
    where
      go : length (labels N on n) ≡ suc N.vertex_count → Inner n ⊎ ((on n && inner N (edge_at N n)) ≡ false) → length (labels N on (suc n)) ≡ suc N.vertex_count
      go ih (inl h) = rw (h, length-map) ih
      go ih (inr h) = rw h ih

  label_zero : (v : ℕ) → InRange v → label 0 v ≡ v
  unfolding labels classes
  label_zero v h = get_or-table (suc N.vertex_count) (λ v. v) v 0 h

  -- merged: the class of the second end takes the first end's label
  merged : (n v : ℕ) → Inner n → InRange v → label (suc n) v ≡ relabel (label n (edge_at N n).end1) (label n (edge_at N n).end2) (label n v)
  unfolding labels classes merge
  merged n v i h = rw i (get_or-map_lt _ (labels N on n) v 0 0 (rw length-labels h))

  kept : (n v : ℕ) → (on n && inner N (edge_at N n)) ≡ false → label (suc n) v ≡ label n v
  unfolding labels classes
  kept n v i = rw i

  -- once equal, labels stay equal
  stays : (n u v : ℕ) → InRange u → InRange v → label n u ≡ label n v → label (suc n) u ≡ label (suc n) v
  stays n u v hu hv e = go (test (on n && inner N (edge_at N n)))
    where
      go : Inner n ⊎ ((on n && inner N (edge_at N n)) ≡ false) → label (suc n) u ≡ label (suc n) v
      go (inl i) = merged n u i hu ∙ ap (relabel (label n (edge_at N n).end1) (label n (edge_at N n).end2)) e ∙ sym (merged n v i hv)
      go (inr i) = kept n u i ∙ e ∙ sym (kept n v i)

  -- an edge merged is one whose ends have one label
  pub linked : (n i : ℕ) → i < n → Inner i → label n (edge_at N i).end1 ≡ label n (edge_at N i).end2
  linked zero i h k = absurd (not-suc-le-zero h)
  linked (suc n) i h k = go (linked n i) (below_cases h)
    where
      r1 : InRange (edge_at N i).end1
      r1 = storage_range N _ (inner_end1 i k)

      r2 : InRange (edge_at N i).end2
      r2 = storage_range N _ (inner_end2 i k)

      here : Inner i → label (suc i) (edge_at N i).end1 ≡ label (suc i) (edge_at N i).end2
      here k = merged i _ k r1 ∙ relabel_new _ _ ∙ sym (merged i _ k r2 ∙ relabel-hit _ _ _ refl)

      go : (i < n → Inner i → label n (edge_at N i).end1 ≡ label n (edge_at N i).end2) → (i < n) ⊎ (i ≡ n) → label (suc n) (edge_at N i).end1 ≡ label (suc n) (edge_at N i).end2
      go f (inl l) = stays n _ _ r1 r2 (f l k)
      go f (inr q) = subst (λ (m : ℕ). label (suc m) (edge_at N i).end1 ≡ label (suc m) (edge_at N i).end2) q (here k)

  -- joined by some of the first n edges
  pub data Joined (n : ℕ) : ℕ → ℕ → Type 0 where
    stay : {u : ℕ} → Joined n u u
    step : {u w v : ℕ} (i : ℕ) → i < n → Inner i → Joins (edge_at N i) u w → Joined n w v → Joined n u v

  append : {n u w v : ℕ} → Joined n u w → Joined n w v → Joined n u v
  append stay r = r
  append (step i h k j p) r = step i h k j (append p r)

  weaken : {n u v : ℕ} → Joined n u v → Joined (suc n) u v
  weaken stay = stay
  weaken (step i h k j p) = step i (omega arith) k j (weaken p)

  pub sound : (n u v : ℕ) → InRange u → InRange v → label n u ≡ label n v → Joined n u v
  sound zero u v hu hv e = subst (Joined 0 u) (sym (label_zero u hu) ∙ e ∙ label_zero v hv) stay
  sound (suc n) u v hu hv e = go (λ x y hx hy q. weaken (sound n x y hx hy q)) (test (on n && inner N (edge_at N n)))
    where
      end1 : ℕ
      end1 = (edge_at N n).end1

      end2 : ℕ
      end2 = (edge_at N n).end2

      -- by whether u and v were labelled as the second end
      by_cases : ((x y : ℕ) → InRange x → InRange y → label n x ≡ label n y → Joined (suc n) x y) → (k : Inner n) → InRange end1 → InRange end2 →
          (eqb (label n u) (label n end2) ≡ true) ⊎ (eqb (label n u) (label n end2) ≡ false) →
          (eqb (label n v) (label n end2) ≡ true) ⊎ (eqb (label n v) (label n end2) ≡ false) → Joined (suc n) u v
      by_cases f k r1 r2 (inl a) (inl b) = f u v hu hv (eqb-true _ _ a ∙ sym (eqb-true _ _ b))
      by_cases f k r1 r2 (inl a) (inr b) =
          append (f u end2 hu r2 (eqb-true _ _ a))
          (step n (omega arith) k (inr (refl, refl))
          (f end1 v r1 hv (sym (relabel-hit _ _ _ (eqb-true _ _ a)) ∙ sym (merged n u k hu) ∙ e ∙ merged n v k hv ∙ relabel_miss _ _ _ b)))
      by_cases f k r1 r2 (inr a) (inl b) =
          append (f u end1 hu r1 (sym (relabel_miss _ _ _ a) ∙ sym (merged n u k hu) ∙ e ∙ merged n v k hv ∙ relabel-hit _ _ _ (eqb-true _ _ b)))
          (step n (omega arith) k (inl (refl, refl))
          (f end2 v r2 hv (sym (eqb-true _ _ b))))
      by_cases f k r1 r2 (inr a) (inr b) = f u v hu hv (sym (relabel_miss _ _ _ a) ∙ sym (merged n u k hu) ∙ e ∙ merged n v k hv ∙ relabel_miss _ _ _ b)

      go : ((x y : ℕ) → InRange x → InRange y → label n x ≡ label n y → Joined (suc n) x y) → Inner n ⊎ ((on n && inner N (edge_at N n)) ≡ false) → Joined (suc n) u v
      go f (inl k) = by_cases f k (storage_range N _ (inner_end1 n k)) (storage_range N _ (inner_end2 n k)) (test _) (test _)
      go f (inr k) = f u v hu hv (sym (kept n u k) ∙ e ∙ kept n v k)
