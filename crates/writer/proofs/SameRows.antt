-- Records of the same net are silent in the same rows over the graph.
use Prim.Native.Nat.{ℕ, suc}
use native.Mathlib.Omega.{arith}
use mathlib.Core.Path.{◌≡◌, sym, ap, ap₂, ◌∙◌}
use mathlib.Core.Bool.{Bool, true, ◌&&◌}
use mathlib.Core.List.{List}
use mathlib.Core.Option.{none}
use lib.Dec.{ltb}
use lib.ListN.{get_elem?}
use Rattle.net.specs.declared.Edge.{Edge}
use Rattle.net.specs.declared.Net.{Net}
use Rattle.net.specs.Limits.{most_key_nodes, most_signals}
use Rattle.net.specs.Graph.{edge_at}
use Rattle.net.proofs.Counting.{count_listed}
use Rattle.sheet.specs.Rows.{first_row}
use Rattle.sheet.specs.Pairs.{is_between, edges_between, Paired}
use Rattle.sheet.specs.Graph.{key_place, over_signals, signal_place, graph_rows}
use Rattle.sheet.proofs.PairLaws.{between_iff}
use Rattle.sheet.proofs.GraphLaws.{partner_none, graph_none}
use Rattle.ternary.specs.Lists.{least_below}
use Rattle.ternary.proofs.Tests.{same_test}
use Rattle.writer.specs.SameNet.{edges_of, SameEdge, SameNet}
use Rattle.writer.proofs.SameNetLaws.{edge-back, redrawn_count}
use Rattle.writer.proofs.SameGraph.{same_form, same-symbol, same_joins, same_among, same_storage, same_keys}
use Rattle.writer.proofs.SameSignals.{same-signal_count}

-- ---- pairs

between_onward : (u v s x : ℕ) {e f : Edge} → SameEdge e f → is_between u v s x e ≡ true → is_between u v s x f ≡ true
between_onward u v s x {e} {f} h t =
    let b = (between_iff u v s x e).0 t in
    (between_iff u v s x f).1
    (record { joins = same_joins h b.joins; symbol = sym (same-symbol h) ∙ b.symbol; form = sym (same_form h) ∙ b.form })

same_test_between : (u v s x : ℕ) (e f : Edge) → SameEdge e f → is_between u v s x e ≡ is_between u v s x f
same_test_between u v s x e f h = same_test _ _ (between_onward u v s x h) (between_onward u v s x (edge-back h))

module _ {M N : Net} (s : SameNet M N) where
  -- as many edges lie between two vertices
  same-between : (u v c x : ℕ) → edges_between M M.edge_count u v c x ≡ edges_between N N.edge_count u v c x
  unfolding edges_between edges_of
  same-between u v c x =
      count_listed (is_between u v c x) M.edge_count (edge_at M)
      ∙ redrawn_count (is_between u v c x) (same_test_between u v c x) s.edges
      ∙ sym (count_listed (is_between u v c x) N.edge_count (edge_at N))

  -- pairing depends neither on the order of edges nor on that of an edge's ends
  pub same_paired : Paired M → Paired N
  same_paired p =
      record {
        two = λ u v c. omega (arith, p.two u v c, same-between u v c 2, same-between u v c 1);
        three = λ u v c. omega (arith, p.three u v c, same-between u v c 3, same-between u v c 0);
      }

  -- ---- key nodes and signals

  pub same-key_place : key_place M ≡ key_place N
  unfolding key_place
  same-key_place = ap (λ (l : List ℕ). get_elem? l most_key_nodes) (same_keys s)

  same_over : (y : ℕ) → over_signals M y ≡ over_signals N y
  unfolding over_signals
  same_over y = ap₂ (λ (b : Bool) (n : ℕ). b && ltb most_signals n) (same_storage (same_among s) y) (same-signal_count s y)

  pub same-signal_place : signal_place M ≡ signal_place N
  unfolding signal_place
  same-signal_place = ap₂ least_below (ap suc s.vertex_count) (λ i y. same_over y i)

  pub same_graph : first_row (graph_rows M) ≡ none → first_row (graph_rows N) ≡ none
  same_graph e =
      let f = (graph_none M).0 e in
      (graph_none N).1
      (record {
        partner = (partner_none N).1 (same_paired ((partner_none M).0 f.partner));
        key = sym same-key_place ∙ f.key;
        signal = sym same-signal_place ∙ f.signal;
      })
