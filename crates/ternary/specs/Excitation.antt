-- Ternary excitation of an abstract network: L letters, h key nodes, and an excitation F that takes an input state, a key state and a key node
-- (counted from 0) to its value, of which only 0 and 1 are looked for. Assumes nothing.
use Rattle.std.specs.Prelude.{ℕ, ◌^◌, ◌<◌, ◌≡◌, ◌⊎◌, ◌≢◌, Bool, true, false, List, eqb}
use Rattle.ternary.specs.Lists.{table}
use Rattle.ternary.specs.Signal.{X, Completes, every}

-- 0 where every completion gives 0, 1 where every one gives 1, else X
abbrev pub agreed : Bool → Bool → ℕ
agreed true ones = 0
agreed false true = 1
agreed false false = X

-- the value that f has at every completion of r, X if there is no one such value
unfoldable pub common_of : (ℕ → ℕ) → List ℕ → ℕ
common_of f r = agreed (every r (λ w. eqb (f w) 0)) (every r (λ w. eqb (f w) 1))

-- every binary completion of p and r excites key node k to v
abbrev pub AllGive : (ℕ → ℕ → ℕ → ℕ) → List ℕ → List ℕ → ℕ → ℕ → Type 0
AllGive F p r k v = (a q : ℕ) → Completes p a → Completes r q → F a q k ≡ v

module _ (F : ℕ → ℕ → ℕ → ℕ) where
  -- the value v in {0, 1} that every completion of p and r excites key node k to, else X (`common-gives`)
  unfoldable pub common : List ℕ → List ℕ → ℕ → ℕ
  common p r k = agreed
      (every p (λ a. every r (λ q. eqb (F a q k) 0)))
      (every p (λ a. every r (λ q. eqb (F a q k) 1)))

  -- H(p, r), the ternary excitation of all h key nodes
  unfoldable pub H : ℕ → List ℕ → List ℕ → List ℕ
  H h p r = table h (common p r)

-- C1: every key node is always excited to 0 or 1
abbrev pub C1 : ℕ → ℕ → (ℕ → ℕ → ℕ → ℕ) → Type 0
C1 L h F = (a q k : ℕ) → a < 2 ^ L → q < 2 ^ h → k < h → (F a q k ≡ 0) ⊎ (F a q k ≡ 1)

-- two binary completions of p and r that disagree on key node k
pub record Disagree (F : ℕ → ℕ → ℕ → ℕ) (p r : List ℕ) (k : ℕ) : Type 0 where
  pub a₁ : ℕ
  pub q₁ : ℕ
  pub a₂ : ℕ
  pub q₂ : ℕ
  pub input₁ : Completes p a₁
  pub key₁ : Completes r q₁
  pub input₂ : Completes p a₂
  pub key₂ : Completes r q₂
  pub differ : F a₁ q₁ k ≢ F a₂ q₂ k

-- two completions of r at which f differs
pub record DisagreeAt (f : ℕ → ℕ) (r : List ℕ) : Type 0 where
  pub w₁ : ℕ
  pub w₂ : ℕ
  pub covered₁ : Completes r w₁
  pub covered₂ : Completes r w₂
  pub differ : f w₁ ≢ f w₂
