-- `edge_ok` meets its contract: u is the place after the test of the first end, t the one after that of the second.
use mathlib.Core.Path.{sym, ◌∙◌}
use Rattle.sheet.proofs.RuleSteps.{no_end1, no_end2, same_ends, two_ends}
use Rattle.rules.proofs.edge_ok.Goals as goal

pub returns-then-not-is_vertex : goal.returns-then-not-is_vertex
returns-then-not-is_vertex c = no_end1 _ _ (sym c.is_vertex.ensures ∙ c.if-not-is_vertex.true)

pub returns-then-not-is_vertex-2 : goal.returns-then-not-is_vertex-2
returns-then-not-is_vertex-2 c =
    no_end2 _ _ (sym c.is_vertex.ensures ∙ c.if-not-is_vertex.false) (sym c.is_vertex-2.ensures ∙ c.if-not-is_vertex-2.true)

pub returns-then-e : goal.returns-then-e
returns-then-e c =
    same_ends _ _ (sym c.is_vertex.ensures ∙ c.if-not-is_vertex.false)
    (sym c.is_vertex-2.ensures ∙ c.if-not-is_vertex-2.false) c.if-e.true

pub returns : goal.returns
returns c =
    c.symbol_ok.ensures ∙ two_ends _ _ (sym c.is_vertex.ensures ∙ c.if-not-is_vertex.false)
    (sym c.is_vertex-2.ensures ∙ c.if-not-is_vertex-2.false) c.if-e.false
