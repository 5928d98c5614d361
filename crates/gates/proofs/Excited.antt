-- Every output's excitation equals its gate's formula, in every state; and no state has a fight.
use Prim.Native.Nat.{ℕ, ◌<◌, ◌≤◌}
use mathlib.Core.Path.{◌≡◌, refl, sym, ap, ◌∙◌}
use mathlib.Core.Logic.{◌⊎◌, inl, inr}
use mathlib.Core.Bool.{true, false}
use Rattle.ternary.specs.Bits.{bit}
use Rattle.net.specs.declared.Kind.{Kind}
use Rattle.net.specs.declared.Net.{Net}
use Rattle.net.specs.Graph.{is_storage}
use Rattle.net.specs.Symbols.{decode}
use Rattle.net.specs.State.{symbol_value, value, condition_of, condition, admits, usable}
use Rattle.net.specs.Excitation.{excitation, vertex_fights}
use Rattle.net.proofs.Values.{value_cases}
use Rattle.gates.specs.declared.Gate.{Gate}
use Rattle.gates.specs.declared.Gate.TheVariants.{Inverter, Nand, Nor}
use Rattle.gates.specs.Limits.{most_gates}
use Rattle.gates.specs.Gates.{gate_value, output_at, gate_net}
use Rattle.gates.proofs.Patterns.{alone, first_symbol, second_symbol, symbol_for, formula, pattern-fits, AloneAt, alone_at, alone-output, letter1, letter2}
use Rattle.gates.proofs.Located.{place_at, pattern_edge}
use Rattle.net.proofs.Copies.{LinksKept, excitation_copy, fights_copy}
use Rattle.gates.proofs.Placing.{storage_at, input_at}
use Rattle.gates.proofs.Links.{kept}

by_formula : (N : Net) (a q : ℕ) (γ : Gate) → formula γ (value N a q (first_symbol γ)) (value N a q (second_symbol γ)) ≡ gate_value N a q γ
unfolding gate_value
by_formula N a q (Inverter s) = refl
by_formula N a q (Nand s t) = refl
by_formula N a q (Nor s t) = refl

module _ (G : ℕ) (gate : ℕ → Gate) (L : ℕ) (few : G ≤ most_gates) (g : ℕ) (l : g < G) (a q : ℕ) where
  abbrev N : Net
  N = gate_net G gate L

  abbrev γ : Gate
  γ = gate g

  -- the gate alone, under the values that its symbols have
  lone : AloneAt γ (value N a q (first_symbol γ)) (value N a q (second_symbol γ))
  lone = alone_at γ _ _ (value_cases N a q (first_symbol γ)) (value_cases N a q (second_symbol γ))

  same-value : (s : ℕ) → (s ≡ letter1) ⊎ (s ≡ letter2) → value N a q (symbol_for γ s) ≡ value (alone γ) lone.state 0 s
  unfolding value symbol_value decode
  same-value s (inl e) = rw e (sym lone.first ∙ sym (lone_first))
    where
      lone_first : value (alone γ) lone.state 0 letter1 ≡ bit lone.state 0
      lone_first = refl
  same-value s (inr e) = rw e (sym lone.second ∙ sym (lone_second))
    where
      lone_second : value (alone γ) lone.state 0 letter2 ≡ bit lone.state 1
      lone_second = refl

  links : (k : Kind) → LinksKept (alone γ) N (place_at G gate g) (usable (alone γ) lone.state 0 k) (usable N a q k)
  unfolding usable condition
  links k =
      kept G gate L few g l (λ e. admits k (condition (alone γ) lone.state 0 e)) (λ e. admits k (condition N a q e))
      (λ i h.
      let e = pattern_edge G gate g i in
      ap (λ (v : ℕ). admits k (condition_of e.form v)) (same-value e.symbol (pattern-fits γ i h).letter))

  pub output-excitation : excitation N a q (output_at g) ≡ gate_value N a q γ
  output-excitation =
      excitation_copy (alone γ) N (place_at G gate g) (storage_at G gate L few g l) lone.state 0 a q (input_at G gate L few g l a q lone.state) links 3 (alone-output γ)
      ∙ lone.excited ∙ by_formula N a q γ

  pub no_vertex_fight : (u : ℕ) → is_storage (alone γ) u ≡ true → vertex_fights N a q (place_at G gate g u) ≡ false
  no_vertex_fight u su =
      fights_copy (alone γ) N (place_at G gate g) (storage_at G gate L few g l) lone.state 0 a q (input_at G gate L few g l a q lone.state) links u su
      ∙ lone.quiet u su
