-- Document 01's excitation has four values: a fight is 2 there, as a weak drive is. Document 02 tells the two apart, and what follows is to stay as it was.
use Rattle.std.specs.Prelude.{ℕ, ◌<◌, true, cond, List, ◌⊎◌, ◌↔◌, ◌≡◌, eqb}
use Rattle.ternary.specs.Excitation.{H}
use Rattle.ternary.specs.Run as run
use Rattle.net.specs.declared.Net.{Net}
use Rattle.net.specs.Graph.{is_storage, key_count}
use Rattle.net.specs.Walks.{ExcitedTo0, ExcitedTo1, Floating}
use Rattle.net.specs.Excitation.{excitation}
use Rattle.net.specs.Network.{network, Stable}

-- document 01's value where document 02 has v
unfoldable pub four_of : ℕ → ℕ
four_of v = cond (eqb v 5) 2 v

-- document 01's four cases
pub record FourCases (N : Net) (a q y v : ℕ) : Type 0 where
  pub zero : (v ≡ 0) ↔ ExcitedTo0 N a q y
  pub one : (v ≡ 1) ↔ ExcitedTo1 N a q y
  pub floating : (v ≡ 3) ↔ Floating N a q y
  pub otherwise : (v ≡ 2) ↔ ((¬ ExcitedTo0 N a q y) × (¬ ExcitedTo1 N a q y) × (¬ Floating N a q y))

-- what follows from the four values follows from the five: which states are stable, which vertices break C1 and C3 and where, and both passes
pub record AsBefore (N : Net) : Type 0 where
  pub cases : (a q y : ℕ) → is_storage N y ≡ true → FourCases N a q y (four_of (excitation N a q y))
  pub stable : (a q : ℕ) → run.Stable (key_count N) (λ a q k. four_of (network N a q k)) a q ↔ Stable N a q
  pub breaks_c1 : (a q y : ℕ) → (four_of (excitation N a q y) < 2) ↔ (excitation N a q y < 2)
  pub breaks_c3 : (a q y : ℕ) → (four_of (excitation N a q y) ≡ 2) ↔ ((excitation N a q y ≡ 2) ⊎ (excitation N a q y ≡ 5))
  pub passes : (p r : List ℕ) → H (λ a q k. four_of (network N a q k)) (key_count N) p r ≡ H (network N) (key_count N) p r
