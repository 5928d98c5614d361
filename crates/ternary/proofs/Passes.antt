-- The two passes: the first ascends, the second descends, each ends in a fixed point within h steps. Assumes nothing.
use Prim.Native.Nat.{ℕ, zero, suc, ◌-◌, ◌^◌, ◌≤◌, ◌<◌}
use mathlib.Core.Path.{◌≡◌, refl, sym, ap, ◌∙◌}
use mathlib.Core.Logic.{◌≢◌, ◌⊎◌, inl, inr, ⊎_elim, ◌↔◌}
use mathlib.Core.Bool.{cond}
use mathlib.Core.List.{List}
use native.Mathlib.Omega.{arith}
use native.Mathlib.Numerals.{lt_of_le_of_ne}
use native.Mathlib.Decide.{le_ind}
use lib.Dec.{eqb}
use lib.ListN.{length}
use borrow.Author.Tests.{eqb-true, eqb-false, eq-eqb}
use Rattle.ternary.specs.Bits.{bit}
use Rattle.ternary.specs.Lists.{table}
use Rattle.ternary.specs.Signal.{X, Signal, Covers, at, Completes}
use Rattle.ternary.specs.Excitation.{H, Disagree}
use Rattle.ternary.specs.Passes.{mix, settle_by, iterate, Ends, first_pass, second_pass, settled}
use Rattle.ternary.specs.Demand.{Premises}
use Rattle.ternary.proofs.BitLaws.{bit_lt}
use Rattle.ternary.proofs.SignalLaws.{covers_binary, Above, above_refl, above_trans, above_completes, completes_bits, covers_refl, at_table, unknowns, unknowns_le, unknowns_above}
use Rattle.ternary.proofs.ListLaws.{length-table, table_ext}
use Rattle.ternary.proofs.PassLaws.{stopped, fixed, settle_by-length}
use Rattle.ternary.proofs.ExcitationLaws.{length-H, H_signal, H_covers, H_mono, fixed_unknown}
use Rattle.ternary.proofs.Tests.{by_test}

-- ---- inputs between A and B

pub length-mix : (L A B : ℕ) → length (mix L A B) ≡ L
unfolding mix
length-mix L A B = length-table L _

-- where the input does not change, the signals are its bits
pub mix-same : (L A : ℕ) → mix L A A ≡ table L (bit A)
unfolding mix
mix-same L A = table_ext L _ _ (λ j l. ap (λ b. cond b (bit A j) X) (eq-eqb (bit A j) (bit A j) refl))

-- an input completes the mixed vector if it has A's or B's value at each letter
pub completes_mix : (L A B a : ℕ) → a < 2 ^ L → ((j : ℕ) → j < L → (bit a j ≡ bit A j) ⊎ (bit a j ≡ bit B j)) → Completes (mix L A B) a
unfolding mix Covers
completes_mix L A B a b c =
    let e = length-mix L A B in
    record { below = rw e b; covered = λ j l. let i : j < L = omega arith in rw (at_table L _ j i) (place j i) }
  where
    place : (j : ℕ) → j < L → Covers (cond (eqb (bit A j) (bit B j)) (bit A j) X) (bit a j)
    place j l = by_test (eqb (bit A j) (bit B j))
        (λ e.
        let i : bit a j ≡ bit A j = ⊎_elim (λ i. i) (λ i. i ∙ sym (eqb-true (bit A j) (bit B j) e)) (c j l) in
        rw (e, i) (covers_refl (bit A j)))
        (λ e. rw e tt)

-- and only then
pub mix_completed : (L A B a : ℕ) → Completes (mix L A B) a → (j : ℕ) → j < L → (bit a j ≡ bit A j) ⊎ (bit a j ≡ bit B j)
unfolding mix Covers
mix_completed L A B a c j l = by_test (eqb (bit A j) (bit B j))
    (λ e. inl (covers_binary (bit A j) (bit a j) (bit_lt A j) (rw (at_table L _ j l, e) at (c.covered j (omega (arith, length-mix L A B))))))
    (λ e. by_test (eqb (bit a j) (bit A j))
    (λ i. inl (eqb-true (bit a j) (bit A j) i))
    (λ i.
    let x : bit A j ≢ bit B j = eqb-false (bit A j) (bit B j) e in
    let y : bit a j ≢ bit A j = eqb-false (bit a j) (bit A j) i in
    inr (omega (arith, bit_lt A j, bit_lt B j, bit_lt a j))))

-- what a number completes lies above the vector of its bits
pub above_bits : (u : List ℕ) (n h : ℕ) → length u ≡ h → Completes u n → Above u (table h (bit n))
above_bits u n h e c = record {
  lengths = length-table h (bit n) ∙ sym e;
  places = λ k l. rw (at_table h (bit n) k (omega arith)) (c.covered k l);
}

-- ---- passes that ascend or descend

module _ (f : List ℕ → List ℕ) (h : ℕ) (r : List ℕ)
    (lengths : (m : ℕ) → length (iterate f m r) ≡ h) where
  few : (m : ℕ) → unknowns (iterate f m r) ≤ h
  few m = omega (arith, unknowns_le (iterate f m r), lengths m)

  ends : f (settle_by f h r).vector ≡ (settle_by f h r).vector → Ends f h r (settle_by f h r)
  ends e =
      let s = stopped f h r in
      record { is_fixed = e; reached = s.reached; least = s.moving; bounded = s.bounded }

  pub ascends : ((m : ℕ) (k : ℕ) → k < h → Signal (at (iterate f (suc m) r) k))
      → ((m : ℕ) → Above (iterate f (suc m) r) (iterate f m r)) → Ends f h r (settle_by f h r)
  unfolding iterate
  ascends g up = ends (fixed f h r unknowns few (λ m ne.
      let w = unknowns_above (iterate f (suc m) r) (iterate f m r) (up m) (λ k l. g m k (omega (arith, lengths (suc m)))) in
      lt_of_le_of_ne w.0 (λ e. ne (sym (w.1 e)))))

  pub descends : ((m : ℕ) (k : ℕ) → k < h → Signal (at (iterate f m r) k))
      → ((m : ℕ) → Above (iterate f m r) (iterate f (suc m) r)) → Ends f h r (settle_by f h r)
  unfolding iterate
  descends g down = ends (fixed f h r (λ v. h - unknowns v) (λ m. omega arith) (λ m ne.
      let w = unknowns_above (iterate f m r) (iterate f (suc m) r) (down m) (λ k l. g m k (omega (arith, lengths m))) in
      let l : unknowns (iterate f (suc m) r) < unknowns (iterate f m r) = lt_of_le_of_ne w.0 (λ e. ne (w.1 e)) in
      omega (arith, few m)))

-- ---- both vectors have a place for each key node, whatever the premises

module _ (L h : ℕ) (F : ℕ → ℕ → ℕ → ℕ) (A B q : ℕ) where
  pub first_vector_length : length (settled L h F A B q).r ≡ h
  unfolding settled first_pass
  first_vector_length = settle_by-length (H F h (mix L A B)) h (length-H F h (mix L A B)) h (table h (bit q)) (length-table h (bit q))

  pub second_vector_length : length (settled L h F A B q).t ≡ h
  unfolding settled second_pass
  second_vector_length = settle_by-length (H F h (table L (bit B))) h (length-H F h (table L (bit B))) h (first_pass L h F A B q).vector first_vector_length

-- ---- the two passes

module _ (L h : ℕ) (F : ℕ → ℕ → ℕ → ℕ) (A B q : ℕ) where
  -- the first pass's function, start and last vector
  abbrev pub f₁ : List ℕ → List ℕ
  f₁ = H F h (mix L A B)

  abbrev pub r₀ : List ℕ
  r₀ = table h (bit q)

  abbrev pub r₁ : List ℕ
  r₁ = (first_pass L h F A B q).vector

  -- the second pass's function, and its vector after m applications
  abbrev pub f₂ : List ℕ → List ℕ
  f₂ = H F h (table L (bit B))

  abbrev pub t : ℕ → List ℕ
  t m = iterate f₂ m r₁

  module _ (g : Premises L h F A B q) where
    pub first_ascends : (m : ℕ) → Above (iterate f₁ (suc m) r₀) (iterate f₁ m r₀)
    unfolding iterate
    first_ascends zero = record {
      lengths = length-table h (bit q) ∙ sym (length-H F h (mix L A B) r₀);
      places = λ k l. let i : k < h = omega (arith, length-H F h (mix L A B) r₀) in
          rw (at_table h (bit q) k i, ← g.rest k i)
          (H_covers F h (mix L A B) r₀ k A q i (completes_mix L A B A g.old (λ j l. inl refl)) (completes_bits h q g.key));
    }
    first_ascends (suc m) = H_mono F h (mix L A B) (iterate f₁ (suc m) r₀) (mix L A B) (iterate f₁ m r₀) (above_refl (mix L A B)) (first_ascends m)

    first-length : (m : ℕ) → length (iterate f₁ m r₀) ≡ h
    unfolding iterate
    first-length zero = length-table h (bit q)
    first-length (suc m) = length-H F h (mix L A B) (iterate f₁ m r₀)

    pub first_ends : Ends f₁ h r₀ (first_pass L h F A B q)
    unfolding first_pass iterate
    first_ends = ascends f₁ h r₀ first-length
        (λ m k l. H_signal F h (mix L A B) (iterate f₁ m r₀) k (omega (arith, length-H F h (mix L A B) (iterate f₁ m r₀))))
        first_ascends

    first_above : (m : ℕ) → Above (iterate f₁ m r₀) r₀
    unfolding iterate
    first_above zero = above_refl r₀
    first_above (suc m) = above_trans (iterate f₁ (suc m) r₀) (iterate f₁ m r₀) r₀ (first_ascends m) (first_above m)

    -- the start is covered at the first pass's end
    pub start_completes : Completes r₁ q
    start_completes = rw first_ends.reached
        (above_completes (iterate f₁ (first_pass L h F A B q).steps r₀) r₀ q (first_above (first_pass L h F A B q).steps) (completes_bits h q g.key))

    pub b_completes : Completes (table L (bit B)) B
    b_completes = completes_bits L B g.new

    -- with the changing letters known, H is no less certain: below H p r, which is r
    pub second_descends : (m : ℕ) → Above (t m) (t (suc m))
    unfolding iterate
    second_descends zero = rw first_ends.is_fixed at
        (H_mono F h (mix L A B) r₁ (table L (bit B)) r₁
        (above_bits (mix L A B) B L (length-mix L A B) (completes_mix L A B B g.new (λ j l. inr refl)))
        (above_refl r₁))
    second_descends (suc m) = H_mono F h (table L (bit B)) (t m) (table L (bit B)) (t (suc m)) (above_refl (table L (bit B))) (second_descends m)

    pub second-length : (m : ℕ) → length (t m) ≡ h
    unfolding iterate
    second-length zero = rw first_ends.is_fixed at (length-H F h (mix L A B) r₁)
    second-length (suc m) = length-H F h (table L (bit B)) (t m)

    -- every place of the second pass's vectors, the first of which ends the first pass, is a signal
    pub second_signal : (m k : ℕ) → k < h → Signal (at (t m) k)
    unfolding iterate
    second_signal zero k l = rw first_ends.is_fixed at (H_signal F h (mix L A B) r₁ k (omega (arith, length-H F h (mix L A B) r₁)))
    second_signal (suc m) k l = H_signal F h (table L (bit B)) (t m) k (omega (arith, length-H F h (table L (bit B)) (t m)))

    pub second-ends : Ends f₂ h r₁ (second_pass L h F B r₁)
    unfolding second_pass
    second-ends = descends f₂ h r₁ second-length second_signal second_descends

    pub second_below : (m n : ℕ) → m ≤ n → Above (t m) (t n)
    second_below m n l = le_ind (λ n. Above (t m) (t n)) (above_refl (t m)) (λ n i a. above_trans (t m) (t n) (t (suc n)) a (second_descends n)) n l

    -- at a pass's end a key node is X exactly if two completions disagree on it
    pub first_unknown : (k : ℕ) → k < h → (at r₁ k ≡ X) ↔ Disagree F (mix L A B) r₁ k
    first_unknown k l = fixed_unknown L h F g.c1 (mix L A B) r₁ (length-mix L A B) first_ends.is_fixed k l

    pub second_unknown : (k : ℕ) → k < h → (at (second_pass L h F B r₁).vector k ≡ X) ↔ Disagree F (table L (bit B)) (second_pass L h F B r₁).vector k
    second_unknown k l = fixed_unknown L h F g.c1 (table L (bit B)) (second_pass L h F B r₁).vector (length-table L (bit B)) second-ends.is_fixed k l
