-- `connected` finds exactly the connections, and `excitation` has its five cases.
use mathlib.Core.Path.{◌≡◌, refl, ap}
use mathlib.Core.Bool.{Bool, true, false, not, ◌&&◌}
use mathlib.Core.Logic.Iff
use mathlib.Core.Logic.{⊎_elim, ◌↔◌, ◌≢◌}
use Prim.Native.Nat.{ℕ, ◌<◌}
use lib.ListN.{get_or}
use native.Mathlib.Omega.{arith}
use Rattle.net.specs.declared.Net.{Net}
use Rattle.net.specs.declared.Condition.{Condition}
use Rattle.net.specs.declared.Condition.TheVariants.{Open, NClosed, PClosed}
use Rattle.net.specs.Graph.{edge_at, is_storage}
use Rattle.net.specs.declared.Kind.{Kind}
use Rattle.net.specs.declared.Kind.TheVariants.{Any, NType, PType}
use Rattle.net.specs.State.{admits, condition, usable, conditions, input_of}
use Rattle.net.specs.Walks.{Link, Walk, edge, via, Connects, ExcitedTo0, ExcitedTo1, Floating, Fought}
use Rattle.net.specs.Excitation.{connected_under, connected, excitation_of, excitation}
use Rattle.ternary.proofs.Tests.{and_left, and_right, fails, not_both, cond_by}
use borrow.Author.Tests.{not-true}
use Rattle.ternary.proofs.ListLaws.{get_or-table}
use Rattle.net.proofs.Flags.{and_false_right}
use Rattle.net.proofs.Values.{input_cases, input_of_lem}
use Rattle.net.proofs.Reach.{reaches_walk, walk_reaches}

-- a link, or a walk, whose edges pass one test pass any weaker one
link-map : {N : Net} {on on' : ℕ → Bool} {u v : ℕ} → ((i : ℕ) → i < N.edge_count → on i ≡ true → on' i ≡ true) → Link N on u v → Link N on' u v
link-map f l = record { index = l.index; below = l.below; passes = f l.index l.below l.passes; joins = l.joins }

walk_map : {N : Net} {on on' : ℕ → Bool} {u v : ℕ} → ((i : ℕ) → i < N.edge_count → on i ≡ true → on' i ≡ true) → Walk N on u v → Walk N on' u v
walk_map f (edge l) = edge (link-map f l)
walk_map f (via l s p) = via (link-map f l) s (walk_map f p)

-- an n-connection or a p-connection is a connection
closed : (k : Kind) (c : Condition) → admits k c ≡ true → admits Any c ≡ true
closed Any c e = e
closed NType Open e = e
closed NType NClosed e = refl
closed NType PClosed e = refl
closed PType Open e = e
closed PType NClosed e = refl
closed PType PClosed e = refl

-- the table of `excitation_of`, where a connection of either type is a connection
module _ (n0 c0 p1 c1 : Bool) where
  -- what follows from v being the excitation, by the tests in turn
  of_by : (P : ℕ → Type 0) → (n0 ≡ true → c1 ≡ false → P 0) → (p1 ≡ true → c0 ≡ false → P 1) → (c0 ≡ false → c1 ≡ false → P 3)
      → (c0 ≡ true → c1 ≡ true → P 5) → P 2 → P (excitation_of n0 c0 p1 c1)
  unfolding excitation_of
  of_by P f0 f1 f3 f5 f2 =
      cond_by P (n0 && not c1) (λ t. f0 (and_left n0 _ t) (not-true c1 (and_right n0 _ t))) (λ _.
      cond_by P (p1 && not c0) (λ t. f1 (and_left p1 _ t) (not-true c0 (and_right p1 _ t))) (λ _.
      cond_by P (not c0 && not c1) (λ t. f3 (not-true c0 (and_left (not c0) _ t)) (not-true c1 (and_right (not c0) _ t))) (λ _.
      cond_by P (c0 && c1) (λ t. f5 (and_left c0 _ t) (and_right c0 _ t)) (λ _. f2))))

  of0 : (excitation_of n0 c0 p1 c1 ≡ 0) ↔ ((n0 ≡ true) × (c1 ≡ false))
  unfolding excitation_of
  of0 = (
    of_by (λ v. v ≡ 0 → (n0 ≡ true) × (c1 ≡ false))
        (λ p q _. (p, q)) (λ _ _ e. absurd (omega arith)) (λ _ _ e. absurd (omega arith)) (λ _ _ e. absurd (omega arith)) (λ e. absurd (omega arith)),
    λ h. rw (h.0, h.1),
  )

  of1 : (n0 ≡ true → c0 ≡ true) → (excitation_of n0 c0 p1 c1 ≡ 1) ↔ ((p1 ≡ true) × (c0 ≡ false))
  unfolding excitation_of
  of1 f = (
    of_by (λ v. v ≡ 1 → (p1 ≡ true) × (c0 ≡ false))
        (λ _ _ e. absurd (omega arith)) (λ p q _. (p, q)) (λ _ _ e. absurd (omega arith)) (λ _ _ e. absurd (omega arith)) (λ e. absurd (omega arith)),
    λ h. rw (h.0, h.1, fails n0 (λ t. not_both c0 (f t) h.1)),
  )

  of3 : (n0 ≡ true → c0 ≡ true) → (p1 ≡ true → c1 ≡ true) → (excitation_of n0 c0 p1 c1 ≡ 3) ↔ ((c0 ≡ false) × (c1 ≡ false))
  unfolding excitation_of
  of3 f g = (
    of_by (λ v. v ≡ 3 → (c0 ≡ false) × (c1 ≡ false))
        (λ _ _ e. absurd (omega arith)) (λ _ _ e. absurd (omega arith)) (λ p q _. (p, q)) (λ _ _ e. absurd (omega arith)) (λ e. absurd (omega arith)),
    λ h. rw (h.0, h.1, fails n0 (λ t. not_both c0 (f t) h.0), fails p1 (λ t. not_both c1 (g t) h.1)),
  )

  of5 : (excitation_of n0 c0 p1 c1 ≡ 5) ↔ ((c0 ≡ true) × (c1 ≡ true))
  unfolding excitation_of
  of5 = (
    of_by (λ v. v ≡ 5 → (c0 ≡ true) × (c1 ≡ true))
        (λ _ _ e. absurd (omega arith)) (λ _ _ e. absurd (omega arith)) (λ _ _ e. absurd (omega arith)) (λ p q _. (p, q)) (λ e. absurd (omega arith)),
    λ h. rw (h.0, h.1, and_false_right n0, and_false_right p1),
  )

  of2 : excitation_of n0 c0 p1 c1 ≢ 0 → excitation_of n0 c0 p1 c1 ≢ 1 → excitation_of n0 c0 p1 c1 ≢ 3 → excitation_of n0 c0 p1 c1 ≢ 5 → excitation_of n0 c0 p1 c1 ≡ 2
  of2 = of_by (λ v. v ≢ 0 → v ≢ 1 → v ≢ 3 → v ≢ 5 → v ≡ 2)
      (λ _ _ f g h k. absurd (f refl)) (λ _ _ f g h k. absurd (g refl)) (λ _ _ f g h k. absurd (h refl)) (λ _ _ f g h k. absurd (k refl)) (λ f g h k. refl)

module _ (N : Net) (a q : ℕ) where
  connects_any : (k : Kind) (y b : ℕ) → Connects N a q k y b → Connects N a q Any y b
  unfolding usable
  connects_any k y b (x, i, p) = (x, i, walk_map (λ i h. closed k (condition N a q (edge_at N i))) p)

  -- the test that `connected` makes, on the list of conditions
  abbrev listed_usable : Kind → ℕ → Bool
  listed_usable k i = admits k (get_or (conditions N a q) i Open)

  listed_usable_lem : (k : Kind) (i : ℕ) → i < N.edge_count → listed_usable k i ≡ usable N a q k i
  unfolding usable conditions
  listed_usable_lem k i h = ap (admits k) (get_or-table N.edge_count _ i Open h)

  module _ (y : ℕ) (sy : is_storage N y ≡ true) where
    pub connected_iff : (k : Kind) (b : ℕ) → (connected N a q k y b ≡ true) ↔ Connects N a q k y b
    unfolding connected connected_under
    connected_iff k b = (
      λ e. let r = reaches_walk N (listed_usable k) (input_of N a q b) y sy e in (r.0, r.1, walk_map (λ i h t. rw (← listed_usable_lem k i h) t) r.2),
      λ r. walk_reaches N (listed_usable k) (input_of N a q b) y sy r.0 r.1 (walk_map (λ i h t. rw (listed_usable_lem k i h) t) r.2),
    )

    pub not_connected : (k : Kind) (b : ℕ) → (connected N a q k y b ≡ false) ↔ (¬ Connects N a q k y b)
    not_connected k b = (λ e r. not_both _ ((connected_iff k b).1 r) e, λ f. fails _ (λ e. f ((connected_iff k b).0 e)))

    weaker : (k : Kind) (b : ℕ) → connected N a q k y b ≡ true → connected N a q Any y b ≡ true
    weaker k b e = (connected_iff Any b).1 (connects_any k y b ((connected_iff k b).0 e))

    pub excitation_0 : (excitation N a q y ≡ 0) ↔ ExcitedTo0 N a q y
    unfolding excitation connected
    excitation_0 = Iff.trans (of0 _ _ _ _) (Iff.and (connected_iff NType 0) (not_connected Any 1))

    pub excitation_1 : (excitation N a q y ≡ 1) ↔ ExcitedTo1 N a q y
    unfolding excitation connected
    excitation_1 = Iff.trans (of1 _ _ _ _ (weaker NType 0)) (Iff.and (connected_iff PType 1) (not_connected Any 0))

    pub excitation_3 : (excitation N a q y ≡ 3) ↔ Floating N a q y
    unfolding excitation connected
    excitation_3 = Iff.trans (of3 _ _ _ _ (weaker NType 0) (weaker PType 1)) (Iff.trans (Iff.and (not_connected Any 0) (not_connected Any 1)) (join, split))
      where
        join : (¬ Connects N a q Any y 0) × (¬ Connects N a q Any y 1) → Floating N a q y
        join (f, g) (x, i, p) = ⊎_elim (λ e. f (x, e, p)) (λ e. g (x, e, p)) (input_cases N a q x i)

        split : Floating N a q y → (¬ Connects N a q Any y 0) × (¬ Connects N a q Any y 1)
        split f = (λ (x, i, p). f (x, input_of_lem N a q 0 x i, p), λ (x, i, p). f (x, input_of_lem N a q 1 x i, p))

    pub excitation_5 : (excitation N a q y ≡ 5) ↔ Fought N a q y
    unfolding excitation connected
    excitation_5 = Iff.trans (of5 _ _ _ _) (Iff.and (connected_iff Any 0) (connected_iff Any 1))

    -- otherwise
    pub excitation_2 : (excitation N a q y ≡ 2) ↔ ((¬ ExcitedTo0 N a q y) × (¬ ExcitedTo1 N a q y) × (¬ Floating N a q y) × (¬ Fought N a q y))
    unfolding excitation connected
    excitation_2 = (
      λ e. (λ h. omega (arith, excitation_0.1 h), λ h. omega (arith, excitation_1.1 h), λ h. omega (arith, excitation_3.1 h), λ h. omega (arith, excitation_5.1 h)),
      λ h. of2 _ _ _ _ (λ e. h.0 (excitation_0.0 e)) (λ e. h.1 (excitation_1.0 e)) (λ e. h.2 (excitation_3.0 e)) (λ e. h.3 (excitation_5.0 e)),
    )
