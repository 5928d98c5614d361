-- What document 01's four values give, the five of document 02 give too.
use Prim.Native.Nat.{ℕ, ◌<◌}
use native.Mathlib.Omega.{arith}
use mathlib.Core.Bool.{true}
use mathlib.Core.List.{List}
use mathlib.Core.Logic.Iff
use mathlib.Core.Logic.{◌⊎◌, inl, inr, ⊎_elim, ◌↔◌, ◌≢◌}
use mathlib.Core.Path.{◌≡◌, sym, ◌∙◌}
use lib.Dec.{eqb}
use borrow.Author.Tests.{eqb-true, eqb-false, eq-eqb, ne_eqb}
use Rattle.ternary.specs.Bits.{bit}
use Rattle.ternary.specs.Lists.{table}
use Rattle.ternary.specs.Signal.{every}
use Rattle.ternary.specs.Excitation.{agreed, common, H}
use Rattle.ternary.specs.Run as run
use Rattle.ternary.proofs.BitLaws.{bit_lt}
use Rattle.ternary.proofs.Tests.{by_test, same_test}
use Rattle.net.specs.declared.Net.{Net}
use Rattle.net.specs.Graph.{is_storage, key_count}
use Rattle.net.specs.Excitation.{excitation}
use Rattle.net.specs.Network.{network, Stable}
use Rattle.net.specs.Walks.{ExcitedTo0, ExcitedTo1, Floating}
use Rattle.net.specs.FourValues.{four_of, FourCases, AsBefore}
use Rattle.net.proofs.Connected.{excitation_0, excitation_1, excitation_2, excitation_3, excitation_5}

-- ---- one value

module _ (v : ℕ) where
  fought : v ≡ 5 → four_of v ≡ 2
  unfolding four_of
  fought e = rw e

  other : v ≢ 5 → four_of v ≡ v
  unfolding four_of
  other n = rw (ne_eqb v 5 n)

  -- by whether it is 5
  by_five : {R : Type 0} → (v ≡ 5 → four_of v ≡ 2 → R) → (v ≢ 5 → four_of v ≡ v → R) → R
  by_five f g = by_test (eqb v 5) (λ e. let q = eqb-true v 5 e in f q (fought q)) (λ e. let n = eqb-false v 5 e in g n (other n))

  -- any value but 2 and 5 stays
  kept : (b : ℕ) → b ≢ 2 → b ≢ 5 → (four_of v ≡ b) ↔ (v ≡ b)
  kept b two five = (
    λ e. by_five (λ q f. absurd (two (sym e ∙ f))) (λ n f. sym f ∙ e),
    λ e. by_five (λ q f. absurd (five (sym e ∙ q))) (λ n f. f ∙ e),
  )

  low : (four_of v < 2) ↔ (v < 2)
  low = (
    λ l. by_five (λ q f. absurd (omega arith)) (λ n f. omega arith),
    λ l. by_five (λ q f. absurd (omega arith)) (λ n f. omega arith),
  )

  uncertain : (four_of v ≡ 2) ↔ ((v ≡ 2) ⊎ (v ≡ 5))
  uncertain = (
    λ e. by_five (λ q f. inr q) (λ n f. inl (sym f ∙ e)),
    ⊎_elim (λ e. by_five (λ q f. f) (λ n f. f ∙ e)) fought,
  )

  -- so a test for 0 or for 1 answers the same
  test_kept : (b : ℕ) → b < 2 → eqb (four_of v) b ≡ eqb v b
  test_kept b l =
      let k = kept b (λ e. omega arith) (λ e. omega arith) in
      same_test _ _ (λ t. eq-eqb v b (k.0 (eqb-true (four_of v) b t))) (λ t. eq-eqb (four_of v) b (k.1 (eqb-true v b t)))

-- ---- a net

module _ (N : Net) where
  four_cases : (a q y : ℕ) → is_storage N y ≡ true → FourCases N a q y (four_of (excitation N a q y))
  four_cases a q y s = record {
    zero = Iff.trans (kept v 0 (λ e. omega arith) (λ e. omega arith)) (excitation_0 N a q y s);
    one = Iff.trans (kept v 1 (λ e. omega arith) (λ e. omega arith)) (excitation_1 N a q y s);
    floating = Iff.trans (kept v 3 (λ e. omega arith) (λ e. omega arith)) (excitation_3 N a q y s);
    otherwise = Iff.trans (uncertain v) (there, back);
  }
    where
      v : ℕ
      v = excitation N a q y

      there : (v ≡ 2) ⊎ (v ≡ 5) → (¬ ExcitedTo0 N a q y) × (¬ ExcitedTo1 N a q y) × (¬ Floating N a q y)
      there (inl e) = let n = (excitation_2 N a q y s).0 e in (n.0, n.1, n.2)
      there (inr e) = (
        λ h. omega (arith, (excitation_0 N a q y s).1 h),
        λ h. omega (arith, (excitation_1 N a q y s).1 h),
        λ h. omega (arith, (excitation_3 N a q y s).1 h),
      )

      back : (¬ ExcitedTo0 N a q y) × (¬ ExcitedTo1 N a q y) × (¬ Floating N a q y) → (v ≡ 2) ⊎ (v ≡ 5)
      back (n0, n1, n3) = by_five v (λ q f. inr q) (λ n f. inl ((excitation_2 N a q y s).1 (n0, n1, n3, λ h. n ((excitation_5 N a q y s).1 h))))

  same-stable : (a q : ℕ) → run.Stable (key_count N) (λ a q k. four_of (network N a q k)) a q ↔ Stable N a q
  same-stable a q = (λ s k h. (at k).0 (s k h), λ s k h. (at k).1 (s k h))
    where
      at : (k : ℕ) → (four_of (network N a q k) ≡ bit q k) ↔ (network N a q k ≡ bit q k)
      at k = let b = bit_lt q k in kept (network N a q k) (bit q k) (λ e. omega arith) (λ e. omega arith)

  same-passes : (p r : List ℕ) → H (λ a q k. four_of (network N a q k)) (key_count N) p r ≡ H (network N) (key_count N) p r
  unfolding H common
  same-passes p r i = table (key_count N) (λ k.
      agreed (every p (λ a. every r (λ q. tested 0 (omega arith) a q k i))) (every p (λ a. every r (λ q. tested 1 (omega arith) a q k i))))
    where
      tested : (b : ℕ) → b < 2 → (a q k : ℕ) → eqb (four_of (network N a q k)) b ≡ eqb (network N a q k) b
      tested b l a q k = test_kept (network N a q k) b l

  pub as_before : AsBefore N
  as_before = record {
    cases = four_cases;
    stable = same-stable;
    breaks_c1 = λ a q y. low (excitation N a q y);
    breaks_c3 = λ a q y. uncertain (excitation N a q y);
    passes = same-passes;
  }
