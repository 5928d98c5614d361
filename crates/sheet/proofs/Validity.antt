-- What the test `valid` says, as a record of facts.
use mathlib.Core.Path.{◌≡◌, refl}
use mathlib.Core.Logic.{◌↔◌}
use mathlib.Core.Bool.{true, false≢true}
use mathlib.Core.Option.{Option, none, some}
use lib.ListN.{length, take, drop}
use borrow.Author.Tests.{eq-eqb, eqb-true}
use Rattle.net.specs.declared.Net.{Net}
use Rattle.net.specs.Limits.{most_vertices, most_edges}
use Rattle.ternary.proofs.Tests.{ands}
use Rattle.sheet.specs.declared.Answer.{Answer}
use Rattle.sheet.specs.Rows.{first_row}
use Rattle.sheet.specs.Rules.{counts_ok, vertex_ok, edge_ok}
use Rattle.sheet.specs.Graph.{graph_rows}
use Rattle.sheet.specs.Valid.{all_of, is_no_vertex, is_no_edge, passes, valid}
use Rattle.sheet.proofs.RuleLaws.{Counts, counts_facts}

pub record Valid (N : Net) : Type 0 where
  pub vertex_places : length N.vertices ≡ most_vertices
  pub edge_places : length N.edges ≡ most_edges
  pub counts : counts_ok N.vertex_count N.edge_count N.letter_count ≡ true
  pub vertices : all_of (vertex_ok N) (take N.vertex_count N.vertices) ≡ true
  pub vertices_end : all_of is_no_vertex (drop N.vertex_count N.vertices) ≡ true
  pub edges : all_of (edge_ok N) (take N.edge_count N.edges) ≡ true
  pub edges_end : all_of is_no_edge (drop N.edge_count N.edges) ≡ true
  pub graph : first_row (graph_rows N) ≡ none

passes_none : (o : Option Answer) → passes o ≡ true → o ≡ none
unfolding passes
passes_none none h = refl
passes_none (some a) h = absurd (false≢true h)

none_passes : (o : Option Answer) → o ≡ none → passes o ≡ true
unfolding passes
none_passes o h = rw h

module _ (N : Net) where
  valid_facts : valid N ≡ true → Valid N
  unfolding valid
  valid_facts h =
      record {
        vertex_places = eqb-true (length N.vertices) most_vertices (search ands depth 9);
        edge_places = eqb-true (length N.edges) most_edges (search ands depth 9);
        counts = search ands depth 9;
        vertices = search ands depth 9;
        vertices_end = search ands depth 9;
        edges = search ands depth 9;
        edges_end = search ands depth 9;
        graph = passes_none (first_row (graph_rows N)) (search ands depth 9);
      }

  facts_valid : Valid N → valid N ≡ true
  unfolding valid
  facts_valid f =
      rw (
        eq-eqb (length N.vertices) most_vertices f.vertex_places,
        eq-eqb (length N.edges) most_edges f.edge_places,
        f.counts,
        f.vertices,
        f.vertices_end,
        f.edges,
        f.edges_end,
      )
      (none_passes (first_row (graph_rows N)) f.graph)

  pub valid_iff : (valid N ≡ true) ↔ Valid N
  valid_iff = (valid_facts, facts_valid)

  pub counts_of : Valid N → Counts N.vertex_count N.edge_count N.letter_count
  counts_of f = counts_facts N.vertex_count N.edge_count N.letter_count f.counts
