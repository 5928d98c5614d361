-- The record test in turn: each test that fails makes the record invalid, and those that pass leave it to the next.
use Prim.Native.Nat.{◌-◌}
use native.Mathlib.Omega.{arith}
use mathlib.Core.Path.{◌≡◌, refl, sym, ◌∙◌}
use mathlib.Core.Bool.{Bool, true, false, ◌&&◌, and_assoc}
use mathlib.Core.Option.{Option}
use lib.Dec.{eqb}
use lib.ListN.{length, take, drop}
use borrow.Author.Tests.{eq-eqb, ne_eqb}
use Rattle.ternary.specs.Lists.{all_below}
use Rattle.ternary.proofs.Tests.{and_left}
use Rattle.net.specs.declared.Net.{Net}
use Rattle.net.specs.Limits.{most_vertices, most_edges}
use Rattle.net.specs.Graph.{no_vertex, no_edge, vertex_at, edge_at}
use Rattle.sheet.specs.declared.Answer.{Answer}
use Rattle.sheet.specs.Rows.{first_row, answered}
use Rattle.sheet.specs.Rules.{counts_ok, vertex_ok, edge_ok}
use Rattle.sheet.specs.Graph.{graph_rows}
use Rattle.sheet.specs.Checked.{Checked}
use Rattle.sheet.specs.Valid.{all_of, is_no_vertex, is_no_edge, passes, valid}
use Rattle.sheet.specs.Fitting.{vertex_fits, edge_fits}
use Rattle.sheet.proofs.Places.{all_taken}
use Rattle.sheet.proofs.FittingLaws.{all_fit}
use Rattle.sheet.proofs.RuleLaws.{counts_facts}
use Rattle.sheet.proofs.RowLaws.{RowsAnswer, nothing, found, rows-answer, positive, positive-first}

-- the rows over the graph pass exactly if their answer's number is 0
pub rows_pass : (N : Net) → eqb (answered (first_row (graph_rows N))).number 0 ≡ passes (first_row (graph_rows N))
unfolding passes graph_rows positive
rows_pass N = go (rows-answer (graph_rows N))
  where
    go : {o : Option Answer} → RowsAnswer (graph_rows N) o → eqb (answered o).number 0 ≡ passes o
    go (nothing f) = refl
    go (found {n = n} f) = ne_eqb n 0 (λ e. omega (arith, positive-first {rs = graph_rows N} refl f))

module _ (N : Net) (vertex_places : length N.vertices ≡ most_vertices) (edge_places : length N.edges ≡ most_edges) where
  abbrev pub Counts : Bool → Type 0
  Counts b = counts_ok N.vertex_count N.edge_count N.letter_count ≡ b

  abbrev pub Vertices : Bool → Type 0
  Vertices b = all_below most_vertices (vertex_fits N) ≡ b

  abbrev pub Edges : Bool → Type 0
  Edges b = all_below most_edges (edge_fits N) ≡ b

  sizes : eqb (length N.vertices) most_vertices ≡ true
  sizes = eq-eqb (length N.vertices) most_vertices vertex_places

  edge_sizes : eqb (length N.edges) most_edges ≡ true
  edge_sizes = eq-eqb (length N.edges) most_edges edge_places

  pub bad_counts : Counts false → false ≡ valid N
  unfolding valid
  bad_counts c = rw (sizes, edge_sizes, c)

  module _ (c : Counts true) where
    -- what the two tests of places say of the parts that `valid` asks
    vertices_fit : all_below most_vertices (vertex_fits N)
        ≡ (all_of (vertex_ok N) (take N.vertex_count N.vertices) && all_of is_no_vertex (drop N.vertex_count N.vertices))
    unfolding vertex_fits
    vertices_fit = all_fit (vertex_ok N) is_no_vertex no_vertex most_vertices N.vertex_count N.vertices vertex_places (counts_facts _ _ _ c).vertices

    edges_fit : all_below most_edges (edge_fits N)
        ≡ (all_of (edge_ok N) (take N.edge_count N.edges) && all_of is_no_edge (drop N.edge_count N.edges))
    unfolding edge_fits
    edges_fit = all_fit (edge_ok N) is_no_edge no_edge most_edges N.edge_count N.edges edge_places (counts_facts _ _ _ c).edges

    valid_parts : valid N ≡ (all_below most_vertices (vertex_fits N) && (all_below most_edges (edge_fits N) && passes (first_row (graph_rows N))))
    unfolding valid
    valid_parts = simp (sizes, edge_sizes, c, vertices_fit, edges_fit, and_assoc)

    pub bad_vertices : Vertices false → false ≡ valid N
    bad_vertices v = rw (valid_parts, v)

    module _ (v : Vertices true) where
      pub bad_edges : Edges false → false ≡ valid N
      bad_edges e = rw (valid_parts, v, e)

      module _ (e : Edges true) where
        -- all values are allowed, so the rows over the graph may be asked
        pub is_checked : Checked N
        unfolding vertex_at edge_at
        is_checked =
            let n = counts_facts _ _ _ c in
            let in_use : all_of (vertex_ok N) (take N.vertex_count N.vertices) ≡ true = and_left _ _ (sym vertices_fit ∙ v) in
            let edges-in-use : all_of (edge_ok N) (take N.edge_count N.edges) ≡ true = and_left _ _ (sym edges_fit ∙ e) in
            record {
              counts = c;
              vertices = λ x low high. all_taken (vertex_ok N) N.vertex_count N.vertices no_vertex (x - 1) in_use (omega arith) (omega arith);
              edges = λ i h. all_taken (edge_ok N) N.edge_count N.edges no_edge i edges-in-use (omega arith) h;
            }

        -- and they decide
        pub rows_decide : eqb (answered (first_row (graph_rows N))).number 0 ≡ valid N
        rows_decide = rw (valid_parts, v, e) (rows_pass N)
