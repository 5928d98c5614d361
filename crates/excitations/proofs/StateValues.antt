-- Values in a spread state: the symbols on an edge that touches a component are constants or signals of it, so bits of the assignment give them.
use Prim.Native.Nat.{ℕ, ◌<◌}
use mathlib.Core.Path.{◌≡◌, refl, sym, ap, ◌∙◌}
use mathlib.Core.Bool.{true, false, true≢false, false≢true}
use mathlib.Core.Logic.{◌⊎◌, inl, inr}
use native.Mathlib.Omega.{arith}
use lib.Dec.{eqb}
use Rattle.ternary.specs.Bits.{bit}
use Rattle.ternary.proofs.BitLaws.{bit_lt, binary_iff}
use Rattle.ternary.proofs.Tests.{by_test}
use Rattle.net.specs.declared.Net.{Net}
use Rattle.net.specs.declared.Kind.{Kind}
use Rattle.net.specs.declared.Symbol.{Symbol}
use Rattle.net.specs.declared.Symbol.TheVariants.{Constant, Letter, Vertex, Unknown}
use Rattle.net.specs.Symbols.{decode, is_variable, symbol_bound}
use Rattle.net.specs.Graph.{vertex_at, edge_at, is_input, is_storage}
use Rattle.net.specs.State.{symbol_value, value, condition_of, condition, admits, usable, input_of}
use Rattle.net.specs.Walks.{Link}
use Rattle.net.specs.Component.{every_edge, Signal, on_edge, on_input}
use Rattle.net.specs.SignalTable.{signal_index, spread_input, spread_keys}
use Rattle.net.specs.Known.{known_symbol, known_label, Known}
use Rattle.net.proofs.Values.{decode_by}
use Rattle.net.proofs.SignalTable.{spread_signal}
use Rattle.lanes.specs.Lanes.{chosen}
use Rattle.lanes.proofs.LaneLaws.{chosen-high, chosen-low}
use Rattle.excitations.specs.Conditions.{symbol_at, owner, other, usable_at}
use Rattle.excitations.proofs.Edges.{itself, owner_joins}

-- ---- one symbol

-- a variable has its signal's value
variable-at : (x : Symbol) (b : ℕ) → is_variable x ≡ true → symbol_at x b ≡ b
variable-at (Constant c) b e = absurd (false≢true e)
variable-at (Letter j) b e = refl
variable-at (Vertex v) b e = refl
variable-at Unknown b e = absurd (false≢true e)

-- another symbol's value depends on no state
constant_at : (N : Net) (a q : ℕ) (x : Symbol) (b : ℕ) → is_variable x ≡ false → symbol_value N a q x ≡ symbol_at x b
unfolding symbol_value
constant_at N a q (Constant c) b e = refl
constant_at N a q (Letter j) b e = absurd (true≢false e)
constant_at N a q (Vertex v) b e = absurd (true≢false e)
constant_at N a q Unknown b e = refl

-- a bit chooses between the values at 0 and at 1
pub chosen-bit : (f : ℕ → ℕ) (w p : ℕ) → chosen (f 0) (f 1) (bit w p) ≡ f (bit w p)
chosen-bit f w p = go ((binary_iff (bit w p)).0 (bit_lt w p))
  where
    go : (bit w p ≡ 0) ⊎ (bit w p ≡ 1) → chosen (f 0) (f 1) (bit w p) ≡ f (bit w p)
    go (inl e) = chosen-low (f 0) (f 1) (bit w p) (omega arith) ∙ ap f (sym e)
    go (inr e) = chosen-high (f 0) (f 1) (bit w p) e ∙ ap f (sym e)

module _ (N : Net) (known : Known N) where
  -- a symbol that is a signal of y's component if it is a variable
  value_at_lem : (y w s : ℕ) → (is_variable (decode s) ≡ true → Signal N y s) → value N (spread_input N y w) (spread_keys N y w) s ≡ symbol_at (decode s) (bit w (signal_index N y s))
  unfolding value
  value_at_lem y w s g = by_test (is_variable (decode s))
      (λ v. spread_signal N y known w (g v) ∙ sym (variable-at (decode s) _ v))
      (λ v. constant_at N _ _ (decode s) _ v)

  -- ---- symbols and labels have a number below the bound

  pub symbol_bound_lem : (i : ℕ) → i < N.edge_count → (edge_at N i).symbol < symbol_bound
  symbol_bound_lem i h =
      let s = (edge_at N i).symbol in
      decode_by (λ x. known_symbol N x ≡ true → s < symbol_bound) s (λ l _. omega arith) (λ _ l _. omega arith) (λ _ l _. omega arith) (λ e. absurd (false≢true e)) (known.symbols i h)

  pub label_bound : (x : ℕ) → is_input N x ≡ true → (vertex_at N x).label < symbol_bound
  label_bound x h =
      let s = (vertex_at N x).label in
      decode_by (λ x. known_label N x ≡ true → s < symbol_bound) s (λ l _. omega arith) (λ _ l _. omega arith) (λ _ l _. omega arith) (λ e. absurd (false≢true e)) (known.labels x h)

-- ---- an edge and the component that it touches

module _ (N : Net) where
  abbrev link : (i : ℕ) → i < N.edge_count → Link N every_edge (owner N (edge_at N i)) (other N (edge_at N i))
  link i h = record { index = i; below = h; passes = refl; joins = owner_joins N (edge_at N i) }

  module _ (known : Known N) (i : ℕ) (h : i < N.edge_count) (sy : is_storage N (owner N (edge_at N i)) ≡ true) where
    -- the edge's condition in the spread state
    pub usable_at_lem : (k : Kind) (w : ℕ)
        → usable_at N k i w ≡ admits k (condition_of (edge_at N i).form (symbol_at (decode (edge_at N i).symbol) (bit w (signal_index N (owner N (edge_at N i)) (edge_at N i).symbol))))
    unfolding usable_at usable condition
    usable_at_lem k w =
        rw (sy, value_at_lem N known (owner N (edge_at N i)) w (edge_at N i).symbol (on_edge (itself N _ sy) (link i h)))

    -- the value of the input vertex at the end opposite
    pub input_at : (b w : ℕ) → is_input N (other N (edge_at N i)) ≡ true
        → input_of N (spread_input N (owner N (edge_at N i)) w) (spread_keys N (owner N (edge_at N i)) w) b (other N (edge_at N i))
        ≡ eqb (symbol_at (decode (vertex_at N (other N (edge_at N i))).label) (bit w (signal_index N (owner N (edge_at N i)) (vertex_at N (other N (edge_at N i))).label))) b
    unfolding input_of
    input_at b w e =
        rw (e, value_at_lem N known (owner N (edge_at N i)) w (vertex_at N (other N (edge_at N i))).label (on_input (itself N _ sy) (link i h) e))
