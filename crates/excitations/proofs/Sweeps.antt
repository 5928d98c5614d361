-- Sweeps, in either order of the edges: no mark is taken away, an edge that is on levels its ends, and so the places without a mark get fewer until no
-- edge has a mark to carry.
use Prim.Native.Nat.{ℕ, zero, suc, ◌*◌, ◌+◌, ◌<◌, ◌≤◌}
use mathlib.Core.Path.{◌≡◌, refl, sym, ap, subst, ◌∙◌}
use mathlib.Core.Bool.{Bool, true, false, not, ◌&&◌, ◌||◌}
use mathlib.Core.Logic.{◌⊎◌, inl, inr, ⊎_elim, ◌≢◌}
use mathlib.Core.List.{List}
use native.Mathlib.Omega.{arith}
use lib.Dec.{eqb}
use lib.ListN.{length, get_or}
use borrow.Author.Tests.{eqb-true, eqb-false, eq-eqb, ne_eqb, not-true, not-false}
use Rattle.ternary.specs.Lists.{count_below}
use Rattle.ternary.proofs.Tests.{and_left, and_right, or_true, or_false_iff, by_test, cond_by, not_both}
use Rattle.ternary.proofs.ListLaws.{below_cases, all_at, all_false, count_fewer}
use Rattle.net.specs.declared.Net.{Net}
use Rattle.net.specs.Limits.{most_vertices}
use Rattle.net.specs.Graph.{edge_at}
use Rattle.net.specs.Classes.{inner}
use Rattle.net.specs.Tables.{Readable}
use Rattle.lanes.specs.Lanes.{assignments, lane, raised, raise_row, level}
use Rattle.lanes.proofs.GridLaws.{cell_inside, every-place}
use Rattle.lanes.proofs.LaneLaws.{raised_up, length-raise_row, raise_row-same, raise_row-other, level-found}
use Rattle.excitations.specs.Sweeps.{carry, turned, sweep, is_closed}

-- a row for each number of a vertex
abbrev pub Sized : List ℕ → Type 0
Sized r = length r ≡ suc most_vertices * assignments

-- ---- the order of the edges

pub turned_below : (back : Bool) (c n : ℕ) → n < c → turned back c n < c
unfolding turned
turned_below true c n h = omega arith
turned_below false c n h = h

-- every edge has its turn
pub turned-back : (back : Bool) (c i : ℕ) → i < c → turned back c (turned back c i) ≡ i
unfolding turned
turned-back true c i h = omega arith
turned-back false c i h = refl

-- ---- one row raised

pub raised_by : (P : ℕ → Type 0) (on from mark : ℕ) → P mark → (on ≡ 1 → from ≡ 1 → P 1) → P (raised on from mark)
unfolding raised
raised_by P on from mark f g =
    cond_by P (eqb on 1 && eqb from 1)
    (λ t. g (eqb-true on 1 (and_left (eqb on 1) _ t)) (eqb-true from 1 (and_right (eqb on 1) _ t)))
    (λ _. f)

module _ (on : List ℕ) (i from to : ℕ) (r : List ℕ) (w : ℕ) (sized : Sized r) (h : to ≤ most_vertices) (l : w < assignments) where
  -- a lane stays, or it is in the row raised and is set from a lane that is
  pub raise_by : (u : ℕ) (P : ℕ → Type 0) → P (lane r u w) → (u ≡ to → lane on i w ≡ 1 → lane r from w ≡ 1 → P 1) → P (lane (raise_row on i from to r) u w)
  raise_by u P f g = by_test (eqb u to)
      (λ t. let e : u ≡ to = eqb-true u to t in
      subst P (sym (ap (λ (v : ℕ). lane (raise_row on i from to r) v w) e ∙ raise_row-same on i from to r w l (omega (arith, sized))))
      (raised_by P (lane on i w) (lane r from w) (lane r to w) (subst (λ (v : ℕ). P (lane r v w)) e f) (g e)))
      (λ t. subst P (sym (raise_row-other on i from to r u w l (eqb-false u to t))) f)

  raise_keeps : (u : ℕ) → lane r u w ≡ 1 → lane (raise_row on i from to r) u w ≡ 1
  raise_keeps u e = raise_by u (λ x. x ≡ 1) e (λ _ _ _. refl)

  raise_sets : lane on i w ≡ 1 → lane r from w ≡ 1 → lane (raise_row on i from to r) to w ≡ 1
  raise_sets e f = raise_row-same on i from to r w l (omega (arith, sized)) ∙ raised_up _ _ (lane r to w) e f

module _ (N : Net) (on : List ℕ) where
  -- ---- one edge

  -- what edge i carries
  abbrev pub carry_at : ℕ → List ℕ → List ℕ
  carry_at i r = carry on i (edge_at N i).end1 (edge_at N i).end2 r

  carry_sized : (i : ℕ) (r : List ℕ) → Sized r → Sized (carry_at i r)
  carry_sized i r s = length-raise_row on i _ _ _ ∙ length-raise_row on i _ _ r ∙ s

  module _ (readable : Readable N) (w : ℕ) (l : w < assignments) where
    carry_keeps : (i : ℕ) → i < N.edge_count → (r : List ℕ) → Sized r → (u : ℕ) → lane r u w ≡ 1 → lane (carry_at i r) u w ≡ 1
    carry_keeps i h r s u e =
        raise_keeps on i _ _ _ w (length-raise_row on i _ _ r ∙ s) (readable.first_end i h) l u
        (raise_keeps on i _ _ r w s (readable.second_end i h) l u e)

    carry_levels : (i : ℕ) → i < N.edge_count → (r : List ℕ) → Sized r → lane on i w ≡ 1 → (lane r (edge_at N i).end1 w ≡ 1) ⊎ (lane r (edge_at N i).end2 w ≡ 1)
        → (lane (carry_at i r) (edge_at N i).end1 w ≡ 1) × (lane (carry_at i r) (edge_at N i).end2 w ≡ 1)
    carry_levels i h r s o c =
        let u : ℕ = (edge_at N i).end1 in
        let v : ℕ = (edge_at N i).end2 in
        let t : List ℕ = raise_row on i u v r in
        let st : Sized t = length-raise_row on i u v r ∙ s in
        let e : lane t v w ≡ 1 = ⊎_elim (raise_sets on i u v r w s (readable.second_end i h) l o) (raise_keeps on i u v r w s (readable.second_end i h) l v) c in (
          raise_sets on i v u t w st (readable.first_end i h) l o e,
          raise_keeps on i v u t w st (readable.first_end i h) l v e,
        )

  -- ---- all edges in turn

  module _ (back : Bool) where
    -- what each edge between storage vertices keeps, a sweep keeps
    pub sweep_keeps : (Q : List ℕ → Type 0) → ((i : ℕ) → i < N.edge_count → inner N (edge_at N i) ≡ true → (s : List ℕ) → Q s → Q (carry_at i s)) → (n : ℕ) → n ≤ N.edge_count
        → (r : List ℕ) → Q r → Q (sweep N on back n r)
    unfolding sweep
    sweep_keeps Q f zero l r q = q
    sweep_keeps Q f (suc n) l r q =
        let i : ℕ = turned back N.edge_count n in
        let ih : Q (sweep N on back n r) = sweep_keeps Q f n (omega arith) r q in
        cond_by Q (inner N (edge_at N i)) (λ t. f i (turned_below back _ n (omega arith)) t (sweep N on back n r) ih) (λ _. ih)

    pub sweep_sized : (n : ℕ) → n ≤ N.edge_count → (r : List ℕ) → Sized r → Sized (sweep N on back n r)
    sweep_sized n h r s = sweep_keeps Sized (λ i _ _ t q. carry_sized i t q) n h r s

    module _ (readable : Readable N) (w : ℕ) (l : w < assignments) where
      pub sweep_marked : (n : ℕ) → n ≤ N.edge_count → (r : List ℕ) → Sized r → (u : ℕ) → lane r u w ≡ 1 → lane (sweep N on back n r) u w ≡ 1
      sweep_marked n h r s u e =
          (sweep_keeps (λ (t : List ℕ). Sized t × (lane t u w ≡ 1)) (λ i b _ t q. (carry_sized i t q.0, carry_keeps readable w l i b t q.0 u q.1)) n h r (s, e)).1

      -- the ends of an edge that is on are both marked after its turn if one was
      levels_after : (n : ℕ) → n ≤ N.edge_count → (r : List ℕ) → Sized r → (i j : ℕ) → turned back N.edge_count j ≡ i → j < n → inner N (edge_at N i) ≡ true → lane on i w ≡ 1
          → (lane r (edge_at N i).end1 w ≡ 1) ⊎ (lane r (edge_at N i).end2 w ≡ 1)
          → (lane (sweep N on back n r) (edge_at N i).end1 w ≡ 1) × (lane (sweep N on back n r) (edge_at N i).end2 w ≡ 1)
      unfolding sweep
      levels_after zero h r s i j e k t o c = absurd (omega arith)
      levels_after (suc n) h r s i j e k t o c = go (λ b. levels_after n (omega arith) r s i j e b t o c) (below_cases k)
        where
          Level : List ℕ → Type 0
          Level q = (lane q (edge_at N i).end1 w ≡ 1) × (lane q (edge_at N i).end2 w ≡ 1)

          m : ℕ
          m = turned back N.edge_count n

          below : m < N.edge_count
          below = turned_below back N.edge_count n (omega (arith, h))

          sized : Sized (sweep N on back n r)
          sized = sweep_sized n (omega (arith, h)) r s

          marked : (u : ℕ) → lane r u w ≡ 1 → lane (sweep N on back n r) u w ≡ 1
          marked = sweep_marked n (omega (arith, h)) r s

          go : (j < n → Level (sweep N on back n r)) → (j < n) ⊎ (j ≡ n) → Level (sweep N on back (suc n) r)
          go f (inl b) =
              let q : Level (sweep N on back n r) = f b in
              cond_by Level (inner N (edge_at N m)) (λ _. (carry_keeps readable w l m below _ sized _ q.0, carry_keeps readable w l m below _ sized _ q.1)) (λ _. q)
          go f (inr b) =
              let q : i ≡ m = sym e ∙ ap (turned back N.edge_count) b in
              cond_by Level (inner N (edge_at N m))
              (λ _. subst (λ (x : ℕ). Level (carry_at x (sweep N on back n r))) q (carry_levels readable w l i (rw q below) (sweep N on back n r) sized o
              (⊎_elim (λ a. inl (marked _ a)) (λ a. inr (marked _ a)) c)))
              (λ u. absurd (not_both (inner N (edge_at N i)) t (rw q u)))

      -- so they are after the whole sweep
      sweep_levels : (r : List ℕ) → Sized r → (i : ℕ) → i < N.edge_count → inner N (edge_at N i) ≡ true → lane on i w ≡ 1
          → (lane r (edge_at N i).end1 w ≡ 1) ⊎ (lane r (edge_at N i).end2 w ≡ 1)
          → (lane (sweep N on back N.edge_count r) (edge_at N i).end1 w ≡ 1) × (lane (sweep N on back N.edge_count r) (edge_at N i).end2 w ≡ 1)
      sweep_levels r s i h = levels_after N.edge_count (omega arith) r s i (turned back N.edge_count i) (turned-back back _ i h) (turned_below back _ i h)

  -- ---- no mark left to carry

  -- edge i has none
  abbrev pub edge_level : List ℕ → ℕ → Bool
  edge_level r i = not (inner N (edge_at N i)) || level on i r (edge_at N i).end1 (edge_at N i).end2

  pub level-inner : (r : List ℕ) (i : ℕ) → edge_level r i ≡ true → inner N (edge_at N i) ≡ true → level on i r (edge_at N i).end1 (edge_at N i).end2 ≡ true
  level-inner r i e t = ⊎_elim (λ f. absurd (not_both (inner N (edge_at N i)) t (not-true _ f))) (λ f. f) (or_true (not (inner N (edge_at N i))) _ e)

  pub closed_level : (r : List ℕ) → is_closed N on r ≡ true → (i : ℕ) → i < N.edge_count → inner N (edge_at N i) ≡ true → level on i r (edge_at N i).end1 (edge_at N i).end2 ≡ true
  unfolding is_closed
  closed_level r e i h t = level-inner r i (all_at _ N.edge_count e i h) t

  -- an edge that has a mark left to carry
  open_edge : (r : List ℕ) → is_closed N on r ≡ false → (i : ℕ) × (i < N.edge_count) × (inner N (edge_at N i) ≡ true) × (level on i r (edge_at N i).end1 (edge_at N i).end2 ≡ false)
  unfolding is_closed
  open_edge r e =
      let f = all_false _ N.edge_count e in
      let g = (or_false_iff (not (inner N (edge_at N f.0))) _).0 f.2 in
      (f.0, f.1, not-false _ g.0, g.1)

-- ---- places without a mark

unfoldable pub unset : List ℕ → ℕ
unset r = count_below (length r) (λ i. not (eqb (get_or r i 0) 1))

unset_fewer : (r s : List ℕ) → length s ≡ length r → ((i : ℕ) → i < length r → get_or r i 0 ≡ 1 → get_or s i 0 ≡ 1) → (j : ℕ) → j < length r → get_or r j 0 ≢ 1 → get_or s j 0 ≡ 1 → unset s < unset r
unfolding unset
unset_fewer r s e kept j l n m =
    rw e (count_fewer (length r) _ _ more j l (rw (ne_eqb (get_or r j 0) 1 n)) (rw (eq-eqb (get_or s j 0) 1 m)))
  where
    more : (i : ℕ) → i < length r → not (eqb (get_or s i 0) 1) ≡ true → not (eqb (get_or r i 0) 1) ≡ true
    more i h q = by_test (eqb (get_or r i 0) 1)
        (λ t. absurd (not_both (eqb (get_or s i 0) 1) (eq-eqb (get_or s i 0) 1 (kept i h (eqb-true (get_or r i 0) 1 t))) (not-true _ q)))
        (λ t. rw t)

module _ (N : Net) (on : List ℕ) (back : Bool) (r : List ℕ) (readable : Readable N) (sized : Sized r) (binary : (v w : ℕ) → v ≤ most_vertices → w < assignments → lane r v w < 2) where
  -- a sweep marks a new place if an edge has a mark left to carry
  pub unset_falls : is_closed N on r ≡ false → unset (sweep N on back N.edge_count r) < unset r
  unset_falls e =
      let (i, h, t, f) = open_edge N on r e in
      let u : ℕ = (edge_at N i).end1 in
      let v : ℕ = (edge_at N i).end2 in
      let (w, l, o, n) = level-found on i r u v f in
      let bu : lane r u w < 2 = binary u w (readable.first_end i h) l in
      let bv : lane r v w < 2 = binary v w (readable.second_end i h) l in
      let both-set = sweep_levels N on back readable w l r sized i h t o in
      by_test (eqb (lane r u w) 1)
      (λ q. falls v w (readable.second_end i h) l (λ x. n (eqb-true (lane r u w) 1 q ∙ sym x)) (both-set (inl (eqb-true (lane r u w) 1 q))).1)
      (λ q. falls u w (readable.first_end i h) l (eqb-false (lane r u w) 1 q) (both-set (inr (omega (arith, bu, bv, n, eqb-false (lane r u w) 1 q)))).0)
    where
      s : List ℕ
      s = sweep N on back N.edge_count r

      kept : (i : ℕ) → i < length r → get_or r i 0 ≡ 1 → get_or s i 0 ≡ 1
      kept i h =
          every-place assignments (suc most_vertices) (λ (j : ℕ). get_or r j 0 ≡ 1 → get_or s j 0 ≡ 1)
          (λ v w _ l. sweep_marked N on back readable w l N.edge_count (omega arith) r sized v) i (omega (arith, sized))

      falls : (x w : ℕ) → x ≤ most_vertices → w < assignments → lane r x w ≢ 1 → lane s x w ≡ 1 → unset s < unset r
      falls x w hx l n m =
          unset_fewer r s (sweep_sized N on back N.edge_count (omega arith) r sized ∙ sym sized) kept (x * assignments + w)
          (omega (arith, sized, cell_inside assignments (suc most_vertices) x w l (omega arith))) n m
