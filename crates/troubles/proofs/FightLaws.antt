-- An edge between two input vertices fights exactly if it is a hit at the value of the key node that is its symbol. No other edge fights.
use Prim.Native.Nat.{ℕ, ◌<◌}
use mathlib.Core.Path.{◌≡◌, refl}
use mathlib.Core.Bool.{true, false, false≢true}
use Rattle.ternary.specs.Bits.{bit}
use Rattle.ternary.proofs.Tests.{fails, not_both}
use Rattle.net.specs.declared.Edge.{Edge}
use Rattle.net.specs.declared.Net.{Net}
use Rattle.net.specs.declared.Symbol.{Symbol}
use Rattle.net.specs.declared.Symbol.TheVariants.{Constant, Letter, Vertex, Unknown}
use Rattle.net.specs.Symbols.{decode}
use Rattle.net.specs.Graph.{vertex_at, edge_at, is_input, is_storage, key_index}
use Rattle.net.specs.State.{symbol_value, value, condition, usable, input_of}
use Rattle.net.specs.Excitation.{edge_fights}
use Rattle.net.specs.Known.{known_label}
use Rattle.net.specs.Tables.{vertex_of}
use Rattle.net.proofs.LocalFights.{fighting_ends}
use Rattle.excitations.specs.Fit.{Fit}
use Rattle.excitations.proofs.OwnerLaws.{storage_no_input}
use Rattle.troubles.specs.Edges.{value_at, edge_hits, between}
use Rattle.troubles.proofs.EdgeReads.{between_ends, between_of}

module _ (N : Net) where
  -- ---- values

  -- a symbol's value, by that of the key node that it names
  by_key : (a q : ℕ) (s : Symbol) → symbol_value N a q s ≡ value_at a (bit q (key_index N (vertex_of s))) s
  unfolding symbol_value
  by_key a q (Constant c) = refl
  by_key a q (Letter j) = refl
  by_key a q (Vertex v) = refl
  by_key a q Unknown = refl

  -- an input vertex's label names none
  by_label : (a q b : ℕ) (s : Symbol) → known_label N s ≡ true → symbol_value N a q s ≡ value_at a b s
  unfolding symbol_value
  by_label a q b (Constant c) e = refl
  by_label a q b (Letter j) e = refl
  by_label a q b (Vertex v) e = absurd (false≢true e)
  by_label a q b Unknown e = refl

  -- ---- ends

  input_no_storage : (x : ℕ) → is_input N x ≡ true → is_storage N x ≡ false
  input_no_storage x e = fails (is_storage N x) (λ s. not_both (is_input N x) e (storage_no_input N x s))

  -- ---- fights

  pub edge_outside : (a q i : ℕ) → between N (edge_at N i) ≡ false → edge_fights N a q i ≡ false
  edge_outside a q i b =
      fails (edge_fights N a q i)
      (λ e. let f = fighting_ends N a q i e in not_both _ (between_of N (edge_at N i) (input_no_storage _ f.0) (input_no_storage _ f.1)) b)

  module _ (fit : Fit N) (i : ℕ) (below : i < N.edge_count) (b : between N (edge_at N i) ≡ true) where
    abbrev e : Edge
    e = edge_at N i

    -- the value of the key node that is the edge's symbol
    abbrev pub symbol_bit : ℕ → ℕ
    symbol_bit q = bit q (key_index N (vertex_of (decode e.symbol)))

    pub edge_hits_lem : (a q : ℕ) → edge_fights N a q i ≡ edge_hits e.form e.symbol (vertex_at N e.end1).label (vertex_at N e.end2).label (symbol_bit q) a
    unfolding edge_fights usable condition input_of value edge_hits
    edge_hits_lem a q =
        let u = fit.first_input i below (between_ends N e b).0 in
        let v = fit.second_input i below (between_ends N e b).1 in
        rw (
          u,
          v,
          by_key a q (decode e.symbol),
          by_label a q (symbol_bit q) (decode (vertex_at N e.end1).label) (fit.known.labels _ u),
          by_label a q (symbol_bit q) (decode (vertex_at N e.end2).label) (fit.known.labels _ v),
        )
