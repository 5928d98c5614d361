-- Each test that fails makes the record invalid; where all pass, the rows over the graph decide.
use mathlib.Core.Path.{◌≡◌, sym, ap, ◌∙◌}
use mathlib.Core.Bool.{true}
use lib.Dec.{eqb}
use lib.ListN.{length}
use Rattle.net.specs.Limits.{most_vertices, most_edges}
use Rattle.sheet.specs.declared.Answer.{Answer}
use Rattle.sheet.proofs.RecordSteps.{Counts, Vertices, Edges, bad_counts, bad_vertices, bad_edges, is_checked, rows_decide}
use Rattle.record.proofs.is_record.Goals as goal
use Rattle.record.proofs.is_record.Goals.{Else-not-counts_ok, Else-not-edges_fit, Else-not-vertices_fit, Start}

-- the arrays have their places
vertex-places : (c : Start) → length c.args.net.vertices ≡ most_vertices
vertex-places c = c.well_formed.0.1.1.0.1.0.1

edge_places : (c : Start) → length c.args.net.edges ≡ most_edges
edge_places c = c.well_formed.0.1.1.1.0.1.0.1

-- what has passed so far
counts-pass : (c : Else-not-counts_ok) → Counts c.args.net (vertex-places (goal.at.Else-not-counts_ok c).Start) (edge_places (goal.at.Else-not-counts_ok c).Start) true
counts-pass c = sym c.counts_ok.ensures ∙ c.if-not-counts_ok.false

vertices-pass : (c : Else-not-vertices_fit) → Vertices c.args.net (vertex-places (goal.at.Else-not-vertices_fit c).Start) (edge_places (goal.at.Else-not-vertices_fit c).Start) true
vertices-pass c = sym c.vertices_fit.ensures ∙ c.if-not-vertices_fit.false

edges-pass : (c : Else-not-edges_fit) → Edges c.args.net (vertex-places (goal.at.Else-not-edges_fit c).Start) (edge_places (goal.at.Else-not-edges_fit c).Start) true
edges-pass c = sym c.edges_fit.ensures ∙ c.if-not-edges_fit.false

pub returns-then-not-counts_ok : goal.returns-then-not-counts_ok
returns-then-not-counts_ok c =
    bad_counts c.args.net (vertex-places (goal.at.returns-then-not-counts_ok c).Start) (edge_places (goal.at.returns-then-not-counts_ok c).Start) (sym c.counts_ok.ensures ∙ c.if-not-counts_ok.true)

pub returns-then-not-vertices_fit : goal.returns-then-not-vertices_fit
returns-then-not-vertices_fit c =
    bad_vertices c.args.net (vertex-places (goal.at.returns-then-not-vertices_fit c).Start) (edge_places (goal.at.returns-then-not-vertices_fit c).Start) (counts-pass (goal.at.returns-then-not-vertices_fit c).Else-not-counts_ok) (sym c.vertices_fit.ensures ∙ c.if-not-vertices_fit.true)

pub returns-then-not-edges_fit : goal.returns-then-not-edges_fit
returns-then-not-edges_fit c =
    bad_edges c.args.net (vertex-places (goal.at.returns-then-not-edges_fit c).Start) (edge_places (goal.at.returns-then-not-edges_fit c).Start) (counts-pass (goal.at.returns-then-not-edges_fit c).Else-not-counts_ok) (vertices-pass (goal.at.returns-then-not-edges_fit c).Else-not-vertices_fit) (sym c.edges_fit.ensures ∙ c.if-not-edges_fit.true)

pub graph_answer-requires : goal.graph_answer-requires
graph_answer-requires c =
    is_checked c.args.net (vertex-places (goal.at.graph_answer-requires c).Start) (edge_places (goal.at.graph_answer-requires c).Start) (counts-pass (goal.at.graph_answer-requires c).Else-not-counts_ok) (vertices-pass (goal.at.graph_answer-requires c).Else-not-vertices_fit) (edges-pass (goal.at.graph_answer-requires c).Else-not-edges_fit)

pub returns : goal.returns
returns c =
    ap (λ (a : Answer). eqb a.number 0) c.graph_answer.ensures
    ∙ rows_decide c.args.net (vertex-places (goal.at.returns c).Start) (edge_places (goal.at.returns c).Start) (counts-pass (goal.at.returns c).Else-not-counts_ok) (vertices-pass (goal.at.returns c).Else-not-vertices_fit) (edges-pass (goal.at.returns c).Else-not-edges_fit)
