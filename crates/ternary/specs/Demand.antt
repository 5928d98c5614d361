-- What is shown of a run and the two passes. Assumes nothing.
use Rattle.std.specs.Prelude.{ℕ, ◌^◌, ◌≤◌, ◌<◌}
use Rattle.ternary.specs.Bits.{bit}
use Rattle.ternary.specs.Signal.{Against, at}
use Rattle.ternary.specs.Excitation.{C1}
use Rattle.ternary.specs.Passes.{Settled}
use Rattle.ternary.specs.Run.{Stable, Run}

-- an old and a new input state, and a key state that is stable under the old, of a network that meets C1
pub record Premises (L h : ℕ) (F : ℕ → ℕ → ℕ → ℕ) (A B q : ℕ) : Type 0 where
  pub c1 : C1 L h F
  pub old : A < 2 ^ L
  pub new : B < 2 ^ L
  pub key : q < 2 ^ h
  pub rest : Stable h F A q

-- no key node of the run is against the first pass, nor, after as many rounds as the second pass has steps, against the second
pub record NeverAgainst (h : ℕ) (S : Settled) (s : Run) : Type 0 where
  pub first : (k : ℕ) → k < h → ¬ Against (at S.r k) (bit s.key k)
  pub second : S.second_steps ≤ s.rounds → (k : ℕ) → k < h → ¬ Against (at S.t k) (bit s.key k)
  pub most : S.second_steps ≤ h
