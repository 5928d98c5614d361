-- Laws of a pass: its steps are the least number of iterations that reaches a fixed point. Assumes nothing.
use Prim.Native.Nat.{ℕ, zero, suc, ◌≤◌, ◌<◌}
use mathlib.Core.Path.{◌≡◌, refl, sym, ap, ◌∙◌, subst}
use mathlib.Core.Logic.{◌≢◌, ⊎_elim}
use mathlib.Core.Bool.{Bool, true, false}
use mathlib.Core.List.{List}
use native.Mathlib.Omega.{arith}
use lib.ListN.{length}
use native.Mathlib.Nat.{suc_inj, eq-or-lt_of_le}
use Rattle.ternary.specs.Lists.{same}
use Rattle.ternary.specs.Passes.{Pass, settle_by, iterate}
use Rattle.ternary.proofs.Tests.{by_test}
use Rattle.ternary.proofs.ListLaws.{same_true, same_false}

-- p is what the iteration of f from r has come to when it reached its first fixed point, or after n steps
pub record Stopped (f : List ℕ → List ℕ) (n : ℕ) (r : List ℕ) (p : Pass) : Type 0 where
  pub reached : p.vector ≡ iterate f p.steps r
  pub bounded : p.steps ≤ n
  pub moving : (m : ℕ) → m < p.steps → f (iterate f m r) ≢ iterate f m r
  pub ended : p.steps < n → f p.vector ≡ p.vector

iterate-first : (f : List ℕ → List ℕ) (n : ℕ) (r : List ℕ) → iterate f n (f r) ≡ f (iterate f n r)
unfolding iterate
iterate-first f zero r = refl
iterate-first f (suc n) r = ap f (iterate-first f n r)

pub stopped : (f : List ℕ → List ℕ) (n : ℕ) (r : List ℕ) → Stopped f n r (settle_by f n r)
unfolding settle_by iterate
stopped f zero r = record { reached = refl; bounded = omega arith; moving = λ m l. absurd (omega arith); ended = λ l. absurd (omega arith) }
stopped f (suc n) r = go (same (f r) r) refl (stopped f n (f r))
  where
    go : (b : Bool) → same (f r) r ≡ b → Stopped f n (f r) (settle_by f n (f r)) → Stopped f (suc n) r (settle_by f (suc n) r)
    go true e s = rw (e, settle_by) record { reached = refl; bounded = omega arith; moving = λ m l. absurd (omega arith); ended = λ l. same_true (f r) r e }
    go false e s = rw (e, settle_by) record {
      reached = s.reached ∙ iterate-first f (settle_by f n (f r)).steps r;
      bounded = omega arith;
      moving = later;
      ended = λ l. s.ended (omega arith);
    }
      where
        later : (m : ℕ) → m < suc (settle_by f n (f r)).steps → f (iterate f m r) ≢ iterate f m r
        later zero l = same_false (f r) r e
        later (suc m) l = rw (← iterate-first f m r) (s.moving m (omega arith))

-- a pass of n steps ends in a fixed point where each change raises a rank that is at most n
module _ (f : List ℕ → List ℕ) (n : ℕ) (r : List ℕ) (rank : List ℕ → ℕ)
    (most : (m : ℕ) → rank (iterate f m r) ≤ n)
    (rises : (m : ℕ) → f (iterate f m r) ≢ iterate f m r → rank (iterate f m r) < rank (iterate f (suc m) r)) where
  climb : (m : ℕ) → ((j : ℕ) → j < m → f (iterate f j r) ≢ iterate f j r) → m ≤ rank (iterate f m r)
  climb zero w = omega arith
  climb (suc m) w = omega (arith, climb m (λ j l. w j (omega arith)), rises m (w m (omega arith)))

  pub fixed : f (settle_by f n r).vector ≡ (settle_by f n r).vector
  unfolding iterate
  fixed = by_test (same (f p.vector) p.vector) (same_true (f p.vector) p.vector) (λ e. absurd (never e))
    where
      p : Pass
      p = settle_by f n r

      s : Stopped f n r p
      s = stopped f n r

      never : same (f p.vector) p.vector ≡ false → ⊥
      never e =
          let ne : f p.vector ≢ p.vector = same_false (f p.vector) p.vector e in
          let last : f (iterate f p.steps r) ≢ iterate f p.steps r = rw s.reached at ne in
          let moves : (j : ℕ) → j < suc p.steps → f (iterate f j r) ≢ iterate f j r =
          λ j l. ⊎_elim
          (λ i. subst (λ x. f (iterate f x r) ≢ iterate f x r) (sym (suc_inj i)) last)
          (λ i. s.moving j (omega arith))
          (eq-or-lt_of_le l) in
          ne (s.ended (omega (arith, climb (suc p.steps) moves, most (suc p.steps))))

-- a pass keeps the length of its vector
pub settle_by-length : (f : List ℕ → List ℕ) (h : ℕ) → ((r : List ℕ) → length (f r) ≡ h)
    → (n : ℕ) (r : List ℕ) → length r ≡ h → length (settle_by f n r).vector ≡ h
unfolding settle_by
settle_by-length f h e zero r l = l
settle_by-length f h e (suc n) r l = by_test (same (f r) r)
    (λ t. rw (t, settle_by) l)
    (λ t. rw (t, settle_by) (settle_by-length f h e n (f r) (e r)))
