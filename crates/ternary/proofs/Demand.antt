-- Demand 3: after every list of steps no key node is against the first pass, nor, after enough rounds, against the second.
-- Assumes nothing.
use Prim.Native.Nat.{ℕ, ◌≤◌, ◌<◌}
use mathlib.Core.List.{List}
use native.Mathlib.Omega.{arith}
use Rattle.ternary.specs.Bits.{bit}
use Rattle.ternary.specs.Signal.{Against, at}
use Rattle.ternary.specs.Passes.{settled, second_pass, iterate}
use Rattle.ternary.specs.Run.{Run, Step, start, run_all}
use Rattle.ternary.specs.Demand.{Premises, NeverAgainst}
use Rattle.ternary.proofs.SignalLaws.{covered_not_against, above_completes}
use Rattle.ternary.proofs.Passes.{r₁, t, second-ends, second_below, second-length}
use Rattle.ternary.proofs.Invariant.{run_inv}

pub demand3 : (L h : ℕ) (F : ℕ → ℕ → ℕ → ℕ) (A B q : ℕ) → Premises L h F A B q → (es : List Step)
    → NeverAgainst h (settled L h F A B q) (run_all L h F A B (start A q) es)
unfolding settled iterate
demand3 L h F A B q g es = record {
  first = λ k l. against 0 (omega arith) k l;
  second = λ enough k l. rw (second-ends L h F A B q g).reached (against (second_pass L h F B (r₁ L h F A B q)).steps enough k l);
  most = (second-ends L h F A B q g).bounded;
}
  where
    s : Run
    s = run_all L h F A B (start A q) es

    against : (n : ℕ) → n ≤ s.rounds → (k : ℕ) → k < h → ¬ Against (at (t L h F A B q n) k) (bit s.key k)
    against n m k l =
        let c = above_completes (t L h F A B q n) (t L h F A B q s.rounds) s.key (second_below L h F A B q g n s.rounds m) (run_inv L h F A B q g es).covered in
        covered_not_against (at (t L h F A B q n) k) (bit s.key k) (c.covered k (omega (arith, second-length L h F A B q g n)))
