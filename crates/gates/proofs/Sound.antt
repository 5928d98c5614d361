-- The net of gates whose symbols are allowed: its edges' symbols are known, its key nodes are outputs, and C1, C2 and C3 hold.
use Prim.Native.Nat.{ℕ, ◌+◌, ◌-◌, ◌<◌, ◌≤◌}
use native.Mathlib.Omega.{arith}
use mathlib.Core.Path.{◌≡◌, refl}
use mathlib.Core.Logic.{◌⊎◌, inl, inr}
use mathlib.Core.Bool.{true}
use lib.Dec.{eqb}
use borrow.Author.Tests.{eqb-true}
use Rattle.ternary.proofs.Tests.{ands, or_right}
use Rattle.ternary.proofs.BitLaws.{binary_iff}
use Rattle.ternary.proofs.ListLaws.{any_found}
use Rattle.net.specs.declared.Net.{Net}
use Rattle.net.specs.declared.Symbol.{Symbol}
use Rattle.net.specs.declared.Symbol.TheVariants.{Constant, Letter, Vertex, Unknown}
use Rattle.net.specs.Limits.{vertex_base}
use Rattle.net.specs.Symbols.{within, decode}
use Rattle.net.specs.Graph.{edge_at, has_role, is_storage, is_key, key_vertex}
use Rattle.net.specs.Known.{known_symbol}
use Rattle.net.specs.Excitation.{excitation}
use Rattle.net.specs.WellFormed.{C1, C2, C3, WellFormed}
use Rattle.net.proofs.Cases.{decode-vertex}
use Rattle.net.proofs.Classes.{storage_low, storage_range}
use Rattle.net.proofs.Keys.{key_at}
use Rattle.net.proofs.Values.{within_low, within-high}
use Rattle.gates.specs.declared.Gate.{Gate}
use Rattle.gates.specs.declared.Gate.TheVariants.{Inverter, Nand, Nor}
use Rattle.gates.specs.Limits.{most_gates}
use Rattle.gates.specs.Gates.{gate_value, output_at, net_of_first, gate_net, high, first_output}
use Rattle.gates.specs.GateRows.{gate_symbol}
use Rattle.gates.proofs.Vertices.{vertices_few, role_output}
use Rattle.gates.proofs.Patterns.{first_symbol, second_symbol, symbol_for, pattern-fits, letter1, letter2}
use Rattle.gates.proofs.Located.{pattern_edge, located}
use Rattle.gates.proofs.Excited.{output-excitation}
use Rattle.gates.proofs.WholeNet.{output_gate, no_fight}

gate_binary : (N : Net) (a q : ℕ) (γ : Gate) → gate_value N a q γ < 2
unfolding gate_value
gate_binary N a q (Inverter s) = omega arith
gate_binary N a q (Nand s t) = omega arith
gate_binary N a q (Nor s t) = omega arith

-- both symbols of a gate are allowed
pub record Allowed (G L : ℕ) (γ : Gate) : Type 0 where
  pub first : gate_symbol G L (decode (first_symbol γ)) ≡ true
  pub second : gate_symbol G L (decode (second_symbol γ)) ≡ true

module _ (G : ℕ) (gate : ℕ → Gate) (L : ℕ) (few : G ≤ most_gates) (allowed : (g : ℕ) → g < G → Allowed G L (gate g)) where
  abbrev N : Net
  N = gate_net G gate L

  -- ---- symbols

  pub symbol_allowed : (i : ℕ) → i < N.edge_count → gate_symbol G L (decode (edge_at N i).symbol) ≡ true
  symbol_allowed i h =
      let r = located G gate L few i h in
      let k = r.2.0 in
      rw r.2.2 (of_gate r.0 (allowed r.0 r.1) (pattern_edge G gate r.0 k).symbol (pattern-fits (gate r.0) k r.2.1).letter)
    where
      of_gate : (g : ℕ) → Allowed G L (gate g) → (s : ℕ) → (s ≡ letter1) ⊎ (s ≡ letter2) → gate_symbol G L (decode (symbol_for (gate g) s)) ≡ true
      of_gate g a s (inl e) = rw e a.first
      of_gate g a s (inr e) = rw e a.second

  pub symbol_known : (s : Symbol) → gate_symbol G L s ≡ true → known_symbol N s ≡ true
  unfolding net_of_first is_storage
  symbol_known (Constant c) t = refl
  symbol_known (Letter j) t = t
  symbol_known (Vertex v) t = or_right (has_role N v 1) _ (role_output G gate L few v 2 (within_low first_output (high + G) v t) (within-high first_output (high + G) v t))
  symbol_known Unknown t = t

  -- ---- key nodes are outputs

  pub key_gate : (v : ℕ) → is_key N v ≡ true → (g : ℕ) × (g < G) × (output_at g ≡ v)
  unfolding is_key net_of_first
  key_gate v t =
      let r = any_found (λ i. eqb (edge_at N i).symbol (vertex_base + v)) N.edge_count (search ands) in
      let s : (edge_at N r.0).symbol ≡ vertex_base + v = eqb-true _ _ r.2 in
      let top = storage_range N v (search ands) in
      let low : 1 ≤ v = storage_low N v (search ands) in
      let d : Vertex (vertex_base + v - vertex_base) ≡ decode (vertex_base + v) = decode-vertex (vertex_base + v) (omega arith) (omega (arith, top, vertices_few G gate L few)) in
      let back : vertex_base + v - vertex_base ≡ v = omega arith in
      let w : within first_output (high + G) (vertex_base + v - vertex_base) ≡ true = rw (s, ← d) at (symbol_allowed r.0 r.1) in
      let from = within_low first_output (high + G) (vertex_base + v - vertex_base) w in
      let to = within-high first_output (high + G) (vertex_base + v - vertex_base) w in
      (v - 3, omega (arith, back, from, to), omega (arith, back, from))

  -- ---- C1 to C3

  excited_below_2 : (a q g : ℕ) → g < G → excitation N a q (output_at g) < 2
  excited_below_2 a q g l = rw (output-excitation G gate L few g l a q) (gate_binary N a q (gate g))

  pub c1 : C1 N
  c1 a q k ha hq hk =
      let r = key_gate (key_vertex N k) (key_at N k hk).key in
      (binary_iff _).0 (rw r.2 at (excited_below_2 a q r.0 r.1))

  pub c2 : C2 N
  c2 a q c s = no_fight G gate L few a q

  pub c3 : C3 N
  c3 a q c s y o =
      let r = output_gate G gate L few y o in
      let h : excitation N a q y < 2 = rw r.2 at (excited_below_2 a q r.0 r.1) in
      (λ e. omega arith, λ e. omega arith)

  pub gates_well_formed : WellFormed N
  gates_well_formed = record { c1 = c1; c2 = c2; c3 = c3 }
