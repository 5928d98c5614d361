-- Counting edges by their numbers is counting them between two vertices.
use Prim.Native.Nat.{ℕ, suc, ◌+◌, ◌-◌, ◌*◌, ◌/◌, ◌%◌, ◌≤◌, ◌<◌}
use native.Mathlib.Numerals.{add-one}
use native.Mathlib.Omega.{arith}
use mathlib.Core.Path.{◌≡◌, refl, sym, ap, subst, ◌∙◌}
use mathlib.Core.Logic.{◌≢◌, inl, inr, ⊎_elim}
use mathlib.Core.Bool.{true, false, or-false}
use mathlib.Core.List.{List}
use lib.Dec.{leb, ltb, eqb}
use lib.ListN.{get_or}
use borrow.Author.Tests.{eqb-true, eq-eqb, ne_eqb, leb-true, leb-false, le-leb, lt-ltb}
use Rattle.net.specs.declared.Edge.{Edge}
use Rattle.net.specs.declared.Net.{Net}
use Rattle.net.specs.Limits.{most_vertices, most_edges}
use Rattle.net.specs.Symbols.{symbol_bound}
use Rattle.net.specs.Graph.{edge_at}
use Rattle.net.specs.Walks.{Joins}
use Rattle.ternary.specs.Lists.{least_below}
use Rattle.ternary.proofs.BitLaws.{quotient_rest}
use Rattle.ternary.proofs.Tests.{same_test, by_test, cond_by}
use Rattle.ternary.proofs.ListLaws.{count_ext, get_or-table, least_ext}
use Rattle.sheet.specs.Pairs.{Between, is_between, edges_between, beside, exceeds, lacks_partner}
use Rattle.sheet.specs.EdgeNumbers.{form_bound, InRange, digits, number_of, edge_number, edge_numbers, times_among, exceeds_by, lacks_by}
use Rattle.sheet.proofs.PairLaws.{between_iff}

-- ---- digits

-- equal numbers have equal last digits, and the same before them
last_digit : (k u v x y : ℕ) → x < k → y < k → u * k + x ≡ v * k + y → (u ≡ v) × (x ≡ y)
last_digit k u v x y h l e =
    let a = quotient_rest k u x h in
    let b = quotient_rest k v y l in
    (sym a.0 ∙ ap (λ (n : ℕ). n / k) e ∙ b.0, sym a.1 ∙ ap (λ (n : ℕ). n % k) e ∙ b.1)

number-turned : (u v s x : ℕ) → number_of u v s x ≡ number_of v u s x
unfolding number_of
number-turned u v s x =
    by_test (leb u v)
    (λ a. by_test (leb v u) (λ b. let e : u ≡ v = omega (arith, leb-true u v a, leb-true v u b) in rw (a, b, e)) (λ b. rw (a, b)))
    (λ a. let b : leb v u ≡ true = le-leb v u (omega (arith, leb-false u v a)) in rw (a, b))

-- the form is the last digit
number_form : (u v s x : ℕ) → x < form_bound → number_of u v s x % form_bound ≡ x
unfolding number_of
number_form u v s x h =
    cond_by (λ (n : ℕ). n % form_bound ≡ x) (leb u v)
    (λ _. (quotient_rest form_bound _ x h).1)
    (λ _. (quotient_rest form_bound _ x h).1)

other_form : (u v s x p : ℕ) → number_of u v s x - x + p ≡ number_of u v s p
unfolding number_of
other_form u v s x p = by_test (leb u v) (λ t. rw t (omega arith)) (λ t. rw t (omega arith))

-- ---- edges in range have one number exactly if f lies beside e and has its form

module _ (e f : Edge) (here : InRange e) (there : InRange f) where
  record Parts (u v a b : ℕ) : Type 0 where
    ends : (u ≡ a) × (v ≡ b)
    symbol : f.symbol ≡ e.symbol
    form : f.form ≡ e.form

  parts : (u v a b : ℕ) → v ≤ most_vertices → b ≤ most_vertices → digits u v f.symbol f.form ≡ digits a b e.symbol e.form → Parts u v a b
  parts u v a b h l q =
      let behind = last_digit form_bound _ _ f.form e.form there.form here.form q in
      let middle = last_digit symbol_bound _ _ f.symbol e.symbol there.symbol here.symbol behind.0 in
      record {
        ends = last_digit (suc most_vertices) u a v b (omega arith) (omega arith) middle.0;
        symbol = middle.1;
        form = behind.1;
      }

  from_parts : {u v a b : ℕ} → Parts u v a b → Joins f e.end1 e.end2 → Between e.end1 e.end2 e.symbol e.form f
  from_parts d j = record { joins = j; symbol = d.symbol; form = d.form }

  same_number : edge_number f ≡ edge_number e → Between e.end1 e.end2 e.symbol e.form f
  unfolding number_of
  same_number q =
      by_test (leb f.end1 f.end2)
      (λ s. by_test (leb e.end1 e.end2)
      (λ t. let d = parts f.end1 f.end2 e.end1 e.end2 there.end2 here.end2 (rw (s, t) at q) in from_parts d (inl d.ends))
      (λ t. let d = parts f.end1 f.end2 e.end2 e.end1 there.end2 here.end1 (rw (s, t) at q) in from_parts d (inr d.ends)))
      (λ s. by_test (leb e.end1 e.end2)
      (λ t. let d = parts f.end2 f.end1 e.end1 e.end2 there.end1 here.end2 (rw (s, t) at q) in from_parts d (inr (d.ends.1, d.ends.0)))
      (λ t. let d = parts f.end2 f.end1 e.end2 e.end1 there.end1 here.end1 (rw (s, t) at q) in from_parts d (inl (d.ends.1, d.ends.0))))

  number_same : Between e.end1 e.end2 e.symbol e.form f → edge_number f ≡ edge_number e
  number_same b =
      ⊎_elim
      (λ h. rw (h.0, h.1, b.symbol, b.form))
      (λ h. rw (h.0, h.1, b.symbol, b.form) (number-turned e.end2 e.end1 e.symbol e.form))
      b.joins

  pub number-between : eqb (edge_number f) (edge_number e) ≡ is_between e.end1 e.end2 e.symbol e.form f
  number-between =
      same_test _ _
      (λ t. (between_iff _ _ _ _ f).1 (same_number (eqb-true _ _ t)))
      (λ t. eq-eqb _ _ (number_same ((between_iff _ _ _ _ f).0 t)))

-- ---- the numbers of a record whose edges are in range

module _ (N : Net) (few : N.edge_count ≤ most_edges) (range : (i : ℕ) → i < N.edge_count → InRange (edge_at N i)) where
  abbrev E : ℕ
  E = N.edge_count

  number_at : (i : ℕ) → i < E → get_or (edge_numbers N) i 0 ≡ edge_number (edge_at N i)
  unfolding edge_numbers
  number_at i h = get_or-table most_edges _ i 0 (omega arith) ∙ rw (lt-ltb i E h)

  times_beside : (e : Edge) → InRange e → (n : ℕ) → n ≤ E → times_among (edge_numbers N) n (edge_number e) ≡ beside N e n e.form
  unfolding times_among edges_between
  times_beside e r n h = count_ext n _ _ (λ j l. rw (number_at j (omega arith)) (number-between e (edge_at N j) r (range j (omega arith))))

  -- an edge's own form, and another one
  own_form : (i p : ℕ) → i < E → p < form_bound → exceeds_by (edge_numbers N) E i (edge_at N i).form p ≡ exceeds N i (edge_at N i).form p
  unfolding exceeds_by exceeds
  own_form i p h l =
      let e = edge_at N i in
      let r = range i h in
      let partner : Edge = record { end1 = e.end1; end2 = e.end2; form = p; symbol = e.symbol } in
      let partners = times_beside partner (record { end1 = r.end1; end2 = r.end2; symbol = r.symbol; form = l }) E (omega arith) in
      rw (
        number_at i h,
        number_form e.end1 e.end2 e.symbol e.form r.form,
        eq-eqb e.form e.form refl,
        other_form e.end1 e.end2 e.symbol e.form p,
        partners,
        add-one i,
        times_beside e r (suc i) h,
      )

  other_forms : (i x p : ℕ) → i < E → eqb (edge_at N i).form x ≡ false → exceeds_by (edge_numbers N) E i x p ≡ exceeds N i x p
  unfolding exceeds_by exceeds
  other_forms i x p h t =
      let e = edge_at N i in
      rw (number_at i h, number_form e.end1 e.end2 e.symbol e.form (range i h).form, t)

  exceeds_by_lem : (i x p : ℕ) → i < E → p < form_bound → exceeds_by (edge_numbers N) E i x p ≡ exceeds N i x p
  exceeds_by_lem i x p h l =
      by_test (eqb (edge_at N i).form x)
      (λ t. subst (λ (y : ℕ). exceeds_by (edge_numbers N) E i y p ≡ exceeds N i y p) (eqb-true (edge_at N i).form x t) (own_form i p h l))
      (other_forms i x p h)

  lacks_by_lem : (i : ℕ) → i < E → lacks_by (edge_numbers N) E i ≡ lacks_partner N i
  unfolding lacks_by lacks_partner
  lacks_by_lem i h = rw (exceeds_by_lem i 2 1 h (omega arith), exceeds_by_lem i 3 0 h (omega arith))

  -- the first edge that exceeds its partners, by numbers
  pub first_by : (l : List ℕ) → l ≡ edge_numbers N → least_below E (lacks_by l E) ≡ least_below E (lacks_partner N)
  first_by l e = rw e (least_ext E _ _ lacks_by_lem)

-- ---- what the code answers for edge i, by its form

module _ (l : List ℕ) (n i : ℕ) where
  abbrev m : ℕ
  m = get_or l i 0

  pub form_two : m % form_bound ≡ 2 → ltb (times_among l n (m - 1)) (times_among l (i + 1) m) ≡ lacks_by l n i
  unfolding lacks_by exceeds_by
  form_two f = let q : m - 2 + 1 ≡ m - 1 = omega arith in rw (f, q) (sym (or-false _))

  pub form_three : m % form_bound ≡ 3 → ltb (times_among l n (m - 3)) (times_among l (i + 1) m) ≡ lacks_by l n i
  unfolding lacks_by exceeds_by
  form_three f = let q : m - 3 + 0 ≡ m - 3 = omega arith in rw (f, q)

  pub form_other : m % form_bound ≢ 2 → m % form_bound ≢ 3 → false ≡ lacks_by l n i
  unfolding lacks_by exceeds_by
  form_other f g = rw (ne_eqb (m % form_bound) 2 f, ne_eqb (m % form_bound) 3 g)
