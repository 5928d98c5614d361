-- Laws of one step of a run. Assumes nothing.
use Prim.Native.Nat.{ℕ, ◌^◌, ◌<◌}
use mathlib.Core.Path.{◌≡◌}
use mathlib.Core.Logic.{◌⊎◌, inl, inr, ⊎_elim}
use mathlib.Core.Bool.{Bool, true, false, cond, not, ◌&&◌, ◌||◌}
use native.Mathlib.Omega.{arith}
use lib.Dec.{eqb}
use borrow.Author.Tests.{eqb-true, leb-false, not-false}
use Rattle.ternary.specs.Bits.{bit, has}
use Rattle.ternary.specs.Signal.{Completes}
use Rattle.ternary.specs.Excitation.{C1}
use Rattle.ternary.specs.Passes.{mix}
use Rattle.ternary.specs.Run.{Run, Step, switch, refused}
use Rattle.ternary.proofs.Tests.{by_test, and_false, or_false_iff}
use Rattle.ternary.proofs.ListLaws.{any_none}
use Rattle.ternary.proofs.BitLaws.{bit_lt, number_lt, bit-number}
use Rattle.ternary.proofs.Passes.{completes_mix}

-- ---- what an accepted step may count on

pub record Allowed (L A B : ℕ) (s : Run) (e : Step) : Type 0 where
  pub input< : e.input < 2 ^ L
  pub between : Completes (mix L A B) e.input
  pub held : (s.hold || e.hold) ≡ true → e.input ≡ B

pub allowed : (L h : ℕ) (F : ℕ → ℕ → ℕ → ℕ) (A B : ℕ) (s : Run) (e : Step) → refused L h F A B s e ≡ false → Allowed L A B s e
unfolding refused
allowed L h F A B s e ok =
    let t = simp (refused, or_false_iff) at ok in
    let input< : e.input < 2 ^ L = leb-false (2 ^ L) e.input t.0.0.0.0 in
    record {
      input< = input<;
      between = completes_mix L A B e.input input< (λ j l. letter j (any_none stray L t.0.0.0.1 j l));
      held = λ i. eqb-true e.input B (not-false (eqb e.input B) (rw i at t.0.0.1));
    }
  where
    stray : ℕ → Bool
    stray j = not (eqb (bit e.input j) (bit A j)) && not (eqb (bit e.input j) (bit B j))

    letter : (j : ℕ) → stray j ≡ false → (bit e.input j ≡ bit A j) ⊎ (bit e.input j ≡ bit B j)
    letter j i = ⊎_elim
        (λ x. inl (eqb-true (bit e.input j) (bit A j) (not-false (eqb (bit e.input j) (bit A j)) x)))
        (λ x. inr (eqb-true (bit e.input j) (bit B j) (not-false (eqb (bit e.input j) (bit B j)) x)))
        (and_false (not (eqb (bit e.input j) (bit A j))) (not (eqb (bit e.input j) (bit B j))) i)

-- ---- the key state after a step

module _ (L h : ℕ) (F : ℕ → ℕ → ℕ → ℕ) (c1 : C1 L h F) (a q nodes : ℕ) (a< : a < 2 ^ L) (q< : q < 2 ^ h) where
  binary : (k : ℕ) → k < h → cond (has nodes k) (F a q k) (bit q k) < 2
  binary k l = by_test (has nodes k)
      (λ e. rw e (⊎_elim (λ i. omega arith) (λ i. omega arith) (c1 a q k a< q< l)))
      (λ e. rw e (bit_lt q k))

  pub switch_lt : switch h F a nodes q < 2 ^ h
  unfolding switch
  switch_lt = number_lt h _ binary

  pub switch-bit : (k : ℕ) → k < h → bit (switch h F a nodes q) k ≡ cond (has nodes k) (F a q k) (bit q k)
  unfolding switch
  switch-bit = bit-number h _ binary
