-- What holds of every valid record, so of every accepted net: counts, ranges, known symbols and labels, pairs, key nodes and signals.
use Prim.Native.Nat.{ℕ, ◌-◌, ◌≤◌, ◌<◌}
use native.Mathlib.Omega.{arith}
use mathlib.Core.Path.{◌≡◌}
use mathlib.Core.Bool.{true}
use lib.Dec.{ltb}
use borrow.Author.Tests.{eqb-true, eq-eqb, leb-true, ltb-true, ltb-false}
use Rattle.net.specs.declared.Net.{Net}
use Rattle.net.specs.Limits.{most_key_nodes, most_signals}
use Rattle.net.specs.Symbols.{decode}
use Rattle.net.specs.Graph.{no_vertex, no_edge, vertex_at, edge_at, has_role, is_input, is_storage, key_count}
use Rattle.net.specs.SignalTable.{signal_count}
use Rattle.net.specs.Known.{known_label, Known}
use Rattle.ternary.proofs.Tests.{ands, by_test}
use Rattle.sheet.specs.Rules.{vertex_ok, edge_ok}
use Rattle.sheet.specs.Pairs.{Paired}
use Rattle.sheet.specs.Valid.{valid}
use Rattle.sheet.proofs.RuleLaws.{Counts, VertexRange, vertex_range, EdgeRange, edge-symbol, edge_range}
use Rattle.sheet.proofs.Places.{all_taken}
use Rattle.sheet.proofs.GraphLaws.{partner_none, key_none, signal_none, NoGraphRow, graph_none}
use Rattle.sheet.proofs.Validity.{Valid, valid_iff, counts_of}

module _ (N : Net) (ok : valid N ≡ true) where
  facts : Valid N
  facts = (valid_iff N).0 ok

  rows : NoGraphRow N
  rows = (graph_none N).0 facts.graph

  pub valid_counts : Counts N.vertex_count N.edge_count N.letter_count
  valid_counts = counts_of N facts

  -- ---- each vertex and each edge in use

  vertex_ok_lem : (v : ℕ) → 1 ≤ v → v ≤ N.vertex_count → vertex_ok N (vertex_at N v) ≡ true
  unfolding vertex_at
  vertex_ok_lem v low high =
      let c = valid_counts in
      let f = facts in
      all_taken (vertex_ok N) N.vertex_count N.vertices no_vertex (v - 1) f.vertices (omega (arith, f.vertex_places)) (omega arith)

  edge_ok_lem : (i : ℕ) → i < N.edge_count → edge_ok N (edge_at N i) ≡ true
  unfolding edge_at
  edge_ok_lem i h =
      let c = valid_counts in
      let f = facts in
      all_taken (edge_ok N) N.edge_count N.edges no_edge i f.edges (omega (arith, f.edge_places)) h

  pub valid-vertex : (v : ℕ) → 1 ≤ v → v ≤ N.vertex_count → VertexRange (vertex_at N v)
  valid-vertex v low high = vertex_range N (vertex_at N v) (vertex_ok_lem v low high)

  pub valid-edge : (i : ℕ) → i < N.edge_count → EdgeRange N (edge_at N i)
  valid-edge i h = edge_range N (edge_at N i) (edge_ok_lem i h)

  input_label : (x : ℕ) → is_input N x ≡ true → known_label N (decode (vertex_at N x).label) ≡ true
  unfolding has_role vertex_ok
  input_label x i =
      let low = ltb-true 0 x (search ands) in
      let high = leb-true x N.vertex_count (search ands) in
      let input = eqb-true (vertex_at N x).role 0 (search ands) in
      rw (eq-eqb (vertex_at N x).role 0 input) at (vertex_ok_lem x low high)

  pub valid_known : Known N
  valid_known = record { symbols = λ i h. edge-symbol N (edge_at N i) (edge_ok_lem i h); labels = input_label }

  -- ---- the rows over the graph

  pub valid_paired : Paired N
  valid_paired = (partner_none N).0 rows.partner

  pub valid-keys : key_count N ≤ most_key_nodes
  valid-keys = (key_none N).0 rows.key

  pub valid-signals : (y : ℕ) → is_storage N y ≡ true → signal_count N y ≤ most_signals
  valid-signals y s =
      by_test (ltb most_signals (signal_count N y))
      (λ h. absurd ((signal_none N).0 rows.signal y (record { storage = s; over = ltb-true most_signals (signal_count N y) h })))
      (ltb-false most_signals (signal_count N y))
