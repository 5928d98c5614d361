-- What the rules of header, vertex and edge say: every allowed value fits a field, and only zeros are unused.
use Prim.Native.Nat.{ℕ, ◌≤◌, ◌<◌}
use native.Mathlib.Omega.{arith}
use mathlib.Core.Path.{◌≡◌}
use mathlib.Core.Bool.{true, false≢true}
use lib.Dec.{eqb}
use borrow.Author.Tests.{leb-true, eqb-true}
use Rattle.net.specs.declared.Vertex.{Vertex}
use Rattle.net.specs.declared.Edge.{Edge}
use Rattle.net.specs.declared.Net.{Net}
use Rattle.net.specs.Limits.{most_vertices, most_edges, most_letters}
use Rattle.net.specs.Symbols.{decode, symbol_bound}
use Rattle.net.specs.Graph.{no_vertex, no_edge}
use Rattle.net.specs.Known.{known_symbol, known_label}
use Rattle.net.proofs.Values.{within_low, within-high, decode_by}
use Rattle.ternary.proofs.Tests.{ands, cond_by}
use Rattle.sheet.specs.declared.Line.{Line}
use Rattle.sheet.specs.Rules.{counts_ok, header_ok, vertex_ok, symbol_ok, edge_ok}
use Rattle.sheet.specs.Valid.{is_no_vertex, is_no_edge}

pub record Counts (v e l : ℕ) : Type 0 where
  pub some_vertex : 1 ≤ v
  pub vertices : v ≤ most_vertices
  pub edges : e ≤ most_edges
  pub letters : l ≤ most_letters

pub counts_facts : (v e l : ℕ) → counts_ok v e l ≡ true → Counts v e l
unfolding counts_ok
counts_facts v e l h =
    record {
      some_vertex = within_low 1 most_vertices v (search ands);
      vertices = within-high 1 most_vertices v (search ands);
      edges = leb-true e most_edges (search ands);
      letters = leb-true l most_letters (search ands);
    }

pub header_counts : (h : Line) → header_ok h ≡ true → Counts h.second h.third h.fourth
unfolding header_ok
header_counts h ok = counts_facts h.second h.third h.fourth (search ands)

-- ---- known symbols and labels are below the bound of symbols

symbol_range : (N : Net) (s : ℕ) → known_symbol N (decode s) ≡ true → s < symbol_bound
symbol_range N s =
    decode_by (λ x. known_symbol N x ≡ true → s < symbol_bound) s
    (λ h _. omega arith) (λ _ h _. omega arith) (λ _ h _. omega arith) (λ e. absurd (false≢true e))

label_range : (N : Net) (s : ℕ) → known_label N (decode s) ≡ true → s < symbol_bound
label_range N s =
    decode_by (λ x. known_label N x ≡ true → s < symbol_bound) s
    (λ h _. omega arith) (λ _ h _. omega arith) (λ _ h _. omega arith) (λ e. absurd (false≢true e))

-- ---- vertices and edges

pub record VertexRange (x : Vertex) : Type 0 where
  pub role : x.role ≤ 2
  pub label : x.label < symbol_bound

pub vertex_range : (N : Net) (x : Vertex) → vertex_ok N x ≡ true → VertexRange x
unfolding vertex_ok
vertex_range N x =
    cond_by (λ t. t ≡ true → VertexRange x) (eqb x.role 0)
    (λ input known. let r = eqb-true x.role 0 input in let l = label_range N x.label known in omega arith)
    (λ _ storage.
    let r = leb-true x.role 2 (search ands) in
    let l = eqb-true x.label 0 (search ands) in
    omega arith)

pub record EdgeRange (N : Net) (e : Edge) : Type 0 where
  pub end1_low : 1 ≤ e.end1
  pub end1 : e.end1 ≤ N.vertex_count
  pub end2_low : 1 ≤ e.end2
  pub end2 : e.end2 ≤ N.vertex_count
  pub form : e.form ≤ 3
  pub symbol : e.symbol < symbol_bound

pub edge-symbol : (N : Net) (e : Edge) → edge_ok N e ≡ true → known_symbol N (decode e.symbol) ≡ true
unfolding edge_ok symbol_ok
edge-symbol N e h = search ands

pub edge_range : (N : Net) (e : Edge) → edge_ok N e ≡ true → EdgeRange N e
unfolding edge_ok
edge_range N e h =
    record {
      end1_low = within_low 1 N.vertex_count e.end1 (search ands);
      end1 = within-high 1 N.vertex_count e.end1 (search ands);
      end2_low = within_low 1 N.vertex_count e.end2 (search ands);
      end2 = within-high 1 N.vertex_count e.end2 (search ands);
      form = leb-true e.form 3 (search ands);
      symbol = symbol_range N e.symbol (edge-symbol N e h);
    }

-- ---- unused places

pub no_vertex_lem : (x : Vertex) → is_no_vertex x ≡ true → x ≡ no_vertex
unfolding is_no_vertex
no_vertex_lem x h =
    let r = eqb-true x.role 0 (search ands) in
    let l = eqb-true x.label 0 (search ands) in
    λ i. record { role = r i; label = l i }

pub no_edge_lem : (e : Edge) → is_no_edge e ≡ true → e ≡ no_edge
unfolding is_no_edge
no_edge_lem e h =
    let a = eqb-true e.end1 0 (search ands) in
    let b = eqb-true e.end2 0 (search ands) in
    let f = eqb-true e.form 0 (search ands) in
    let s = eqb-true e.symbol 0 (search ands) in
    λ i. record { end1 = a i; end2 = b i; form = f i; symbol = s i }
