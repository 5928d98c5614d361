-- What pairing says: the rule holds exactly if no edge exceeds its partners, and exactly if each edge of a primed form can have a partner of its own.
use Prim.Native.Nat.{ℕ, zero, suc, ◌≤◌, ◌<◌}
use native.Mathlib.Omega.{arith}
use mathlib.Core.Path.{◌≡◌, refl, sym, subst, ◌∙◌}
use mathlib.Core.Logic.{inl, inr, ⊎_elim, ◌↔◌}
use mathlib.Core.Bool.{Bool, true, false, ◌&&◌}
use lib.Dec.{ltb, eqb}
use lib.ListN.{get_or}
use borrow.Author.Tests.{eqb-true, eq-eqb, ltb-true, ltb-false, lt-ltb}
use Rattle.net.specs.declared.Edge.{Edge}
use Rattle.net.specs.declared.Net.{Net}
use Rattle.net.specs.Graph.{edge_at}
use Rattle.net.proofs.Counting.{count_apart}
use Rattle.ternary.specs.Lists.{count_below, list_below}
use Rattle.ternary.proofs.Tests.{ands, both, or_true, or_left, or_right, fails, not_both, by_test, same_test}
use Rattle.ternary.proofs.ListLaws.{count_ext, count_mono, At, place_at_lem}
use Rattle.sheet.specs.Pairs.{Between, is_between, edges_between, NoMore, Paired, beside, Exceeds, Unpaired, exceeds, lacks_partner, HasForm, Partnered}

-- ---- an edge between two vertices

abbrev ends : Edge → ℕ → ℕ → Bool
ends f u v = eqb f.end1 u && eqb f.end2 v

ends_iff : (f : Edge) (u v : ℕ) → (ends f u v ≡ true) ↔ ((f.end1 ≡ u) × (f.end2 ≡ v))
ends_iff f u v = (
  λ t. (eqb-true f.end1 u (search ands), eqb-true f.end2 v (search ands)),
  λ h. both (eq-eqb f.end1 u h.0) (eq-eqb f.end2 v h.1),
)

pub between_iff : (u v s x : ℕ) (f : Edge) → (is_between u v s x f ≡ true) ↔ Between u v s x f
unfolding is_between
between_iff u v s x f = (there, back)
  where
    there : is_between u v s x f ≡ true → Between u v s x f
    there t =
        record {
          joins =
              ⊎_elim (λ h. inl ((ends_iff f u v).0 h)) (λ h. inr ((ends_iff f v u).0 h))
              (or_true (ends f u v) (ends f v u) (search ands));
          symbol = eqb-true f.symbol s (search ands);
          form = eqb-true f.form x (search ands);
        }

    back : Between u v s x f → is_between u v s x f ≡ true
    back b =
        both (both (eq-eqb f.form x b.form) (eq-eqb f.symbol s b.symbol))
        (⊎_elim (λ h. or_left (ends f u v) _ ((ends_iff f u v).1 h)) (λ h. or_right (ends f u v) _ ((ends_iff f v u).1 h)) b.joins)

turned : {u v s x : ℕ} {f : Edge} → Between u v s x f → Between v u s x f
turned b = record { joins = ⊎_elim inr inl b.joins; symbol = b.symbol; form = b.form }

either_way : (u v s x : ℕ) (f : Edge) → is_between u v s x f ≡ is_between v u s x f
either_way u v s x f =
    same_test _ _
    (λ t. (between_iff v u s x f).1 (turned ((between_iff u v s x f).0 t)))
    (λ t. (between_iff u v s x f).1 (turned ((between_iff v u s x f).0 t)))

-- an edge between u and v has the edges between u and v beside it
module _ {u v s x : ℕ} {e : Edge} (b : Between u v s x e) where
  between-same : (z : ℕ) (g : Edge) → is_between e.end1 e.end2 e.symbol z g ≡ is_between u v s z g
  between-same z g = ⊎_elim along across b.joins
    where
      along : (e.end1 ≡ u) × (e.end2 ≡ v) → is_between e.end1 e.end2 e.symbol z g ≡ is_between u v s z g
      along h = rw (h.0, h.1, b.symbol)

      across : (e.end1 ≡ v) × (e.end2 ≡ u) → is_between e.end1 e.end2 e.symbol z g ≡ is_between u v s z g
      across h = rw (h.0, h.1, b.symbol) (either_way v u s z g)

  beside_same : (N : Net) (n z : ℕ) → beside N e n z ≡ edges_between N n u v s z
  unfolding edges_between
  beside_same N n z = count_ext n _ _ (λ k _. between-same z (edge_at N k))

module _ (N : Net) where
  abbrev E : ℕ
  E = N.edge_count

  -- ---- counting, one edge after the other

  module _ (u v s x : ℕ) where
    between_none : edges_between N 0 u v s x ≡ 0
    unfolding edges_between count_below
    between_none = refl

    between_more : (n : ℕ) → is_between u v s x (edge_at N n) ≡ true → edges_between N (suc n) u v s x ≡ suc (edges_between N n u v s x)
    unfolding edges_between count_below
    between_more n t = rw t

    between_kept : (n : ℕ) → is_between u v s x (edge_at N n) ≡ false → edges_between N (suc n) u v s x ≡ edges_between N n u v s x
    unfolding edges_between count_below
    between_kept n t = rw t

    between_rise : (m n : ℕ) → m ≤ n → edges_between N m u v s x ≤ edges_between N n u v s x
    unfolding edges_between
    between_rise m n h = count_mono (λ j. is_between u v s x (edge_at N j)) m n h

  -- edge i is one of those beside it
  counts_itself : (x i : ℕ) → (edge_at N i).form ≡ x → beside N (edge_at N i) (suc i) x ≡ suc (beside N (edge_at N i) i x)
  counts_itself x i f =
      let e = edge_at N i in
      between_more e.end1 e.end2 e.symbol x i ((between_iff _ _ _ _ e).1 (record { joins = inl (refl, refl); symbol = refl; form = f }))

  -- ---- the rule for a form x and its partners' form p: no edge exceeds its partners

  module _ (x p : ℕ) where
    exceeds_iff : (i : ℕ) → (exceeds N i x p ≡ true) ↔ Exceeds N i x p
    unfolding exceeds
    exceeds_iff i = (
      λ t. record { form = eqb-true (edge_at N i).form x (search ands); over = ltb-true _ _ (search ands) },
      λ o. both (eq-eqb (edge_at N i).form x o.form) (lt-ltb _ _ o.over),
    )

    within : ((i : ℕ) → i < E → ¬ Exceeds N i x p) → (u v s n : ℕ) → n ≤ E → edges_between N n u v s x ≤ edges_between N E u v s p
    within f u v s zero h = omega (arith, between_none u v s x)
    within f u v s (suc n) h =
        by_test (is_between u v s x (edge_at N n)) here (λ t. rw (between_kept u v s x n t) (within f u v s n (omega arith)))
      where
        here : is_between u v s x (edge_at N n) ≡ true → edges_between N (suc n) u v s x ≤ edges_between N E u v s p
        here t =
            let b = (between_iff u v s x (edge_at N n)).0 t in
            by_test (ltb (edges_between N E u v s p) (edges_between N (suc n) u v s x))
            (λ o. absurd (f n h (record { form = b.form; over = rw (beside_same b N E p, beside_same b N (suc n) x) (ltb-true _ _ o) })))
            (ltb-false _ _)

    no_more_iff : ((i : ℕ) → i < E → ¬ Exceeds N i x p) ↔ NoMore N x p
    no_more_iff = (λ f u v s. within f u v s E (omega arith), back)
      where
        back : NoMore N x p → (i : ℕ) → i < E → ¬ Exceeds N i x p
        back m i h o =
            let e = edge_at N i in
            omega (arith, o.over, m e.end1 e.end2 e.symbol, between_rise e.end1 e.end2 e.symbol x (suc i) E h)

  -- ---- both forms

  pub lacks_iff : (i : ℕ) → (lacks_partner N i ≡ true) ↔ Unpaired N i
  unfolding lacks_partner
  lacks_iff i = (
    λ t. ⊎_elim (λ a. inl ((exceeds_iff 2 1 i).0 a)) (λ b. inr ((exceeds_iff 3 0 i).0 b)) (or_true (exceeds N i 2 1) (exceeds N i 3 0) t),
    ⊎_elim (λ a. or_left (exceeds N i 2 1) _ ((exceeds_iff 2 1 i).1 a)) (λ b. or_right (exceeds N i 2 1) _ ((exceeds_iff 3 0 i).1 b)),
  )

  pub paired_iff : ((i : ℕ) → i < E → lacks_partner N i ≡ false) ↔ Paired N
  paired_iff = (there, back)
    where
      there : ((i : ℕ) → i < E → lacks_partner N i ≡ false) → Paired N
      there f =
          record {
            two = (no_more_iff 2 1).0 (λ i h o. not_both (lacks_partner N i) ((lacks_iff i).1 (inl o)) (f i h));
            three = (no_more_iff 3 0).0 (λ i h o. not_both (lacks_partner N i) ((lacks_iff i).1 (inr o)) (f i h));
          }

      back : Paired N → (i : ℕ) → i < E → lacks_partner N i ≡ false
      back r i h =
          fails (lacks_partner N i)
          (λ t. ⊎_elim ((no_more_iff 2 1).1 r.two i h) ((no_more_iff 3 0).1 r.three i h) ((lacks_iff i).0 t))

  -- ---- partners

  module _ (x p : ℕ) where
    -- may edge j be edge i's partner?
    abbrev fits : ℕ → ℕ → Bool
    fits i j = let e = edge_at N i in is_between e.end1 e.end2 e.symbol p (edge_at N j)

    -- the first of some edges side by side takes the first of those that fit, the second the second
    rank : ℕ → ℕ
    rank i = beside N (edge_at N i) i x

    in_turn : ℕ → ℕ
    in_turn i = get_or (list_below E (fits i)) (rank i) 0

    there_is : NoMore N x p → (i : ℕ) → HasForm N x i → At (fits i) E (rank i) (in_turn i)
    unfolding edges_between rank in_turn
    there_is m i h =
        let e = edge_at N i in
        let enough : rank i < beside N e E p =
        omega (arith, counts_itself x i h.form, between_rise e.end1 e.end2 e.symbol x (suc i) E h.below, m e.end1 e.end2 e.symbol) in
        let r = place_at_lem (fits i) E (rank i) enough in
        subst (At (fits i) E (rank i)) (sym r.1.reads) r.1

    -- of two edges with one partner neither stands before the other
    not_before : (i k j : ℕ) → HasForm N x i → HasForm N x k → At (fits i) E (rank i) j → At (fits k) E (rank k) j → k ≤ i
    unfolding edges_between rank
    not_before i k j h l r s =
        let d = edge_at N i in
        let e = edge_at N k in
        let a = (between_iff _ _ _ _ (edge_at N j)).0 r.passes in
        let b = (between_iff _ _ _ _ (edge_at N j)).0 s.passes in
        let first : beside N d j p ≡ beside N d i x = r.place in
        let second : beside N e j p ≡ beside N e k x = s.place in
        by_test (ltb i k)
        (λ t.
        absurd
        (omega (
          arith,
          first,
          second,
          counts_itself x i h.form,
          between_rise d.end1 d.end2 d.symbol x (suc i) k (ltb-true i k t),
          sym (beside_same a N j p) ∙ beside_same b N j p,
          sym (beside_same a N k x) ∙ beside_same b N k x,
        )))
        (ltb-false i k)

    in_turn_lem : NoMore N x p → Partnered N x p
    in_turn_lem m =
        record {
          partner = in_turn;
          in_use = λ i h. (there_is m i h).below;
          parallel = λ i h. (between_iff _ _ _ _ (edge_at N (in_turn i))).0 (there_is m i h).passes;
          own = λ i k h l q.
              let r = there_is m i h in
              let s = subst (At (fits k) E (rank k)) (sym q) (there_is m k l) in
              omega (arith, not_before i k (in_turn i) h l r s, not_before k i (in_turn i) l h s r);
        }

    enough_partners : Partnered N x p → NoMore N x p
    unfolding edges_between
    enough_partners r u v s = count_apart E E (λ i. is_between u v s x (edge_at N i)) (λ j. is_between u v s p (edge_at N j)) r.partner to apart
      where
        has : (i : ℕ) → i < E → is_between u v s x (edge_at N i) ≡ true → HasForm N x i
        has i h t = record { below = h; form = ((between_iff u v s x (edge_at N i)).0 t).form }

        to : (i : ℕ) → i < E → is_between u v s x (edge_at N i) ≡ true → (r.partner i < E) × (is_between u v s p (edge_at N (r.partner i)) ≡ true)
        to i h t =
            let g = edge_at N (r.partner i) in
            (r.in_use i (has i h t), sym (between-same ((between_iff u v s x (edge_at N i)).0 t) p g) ∙ (between_iff _ _ _ _ g).1 (r.parallel i (has i h t)))

        apart : (i k : ℕ) → i < E → k < E → is_between u v s x (edge_at N i) ≡ true → is_between u v s x (edge_at N k) ≡ true → r.partner i ≡ r.partner k → i ≡ k
        apart i k h l t w = r.own i k (has i h t) (has k l w)

  pub partnered_iff : Paired N ↔ (Partnered N 2 1 × Partnered N 3 0)
  partnered_iff = (
    λ r. (in_turn_lem 2 1 r.two, in_turn_lem 3 0 r.three),
    λ r. record { two = enough_partners 2 1 r.0; three = enough_partners 3 0 r.1 },
  )
