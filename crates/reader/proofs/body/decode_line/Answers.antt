-- `decode_line` meets its contract. An allowed line's numbers fit the record (`vertex_line_range`, `edge_line_range`).
use native.Mathlib.Omega.{arith}
use mathlib.Core.Path.{sym, ◌∙◌}
use Rattle.sheet.proofs.BodySteps.{vertex_line_range, edge_line_range, vertex-refused, vertex_allowed, edge-refused, edge_allowed}
use Rattle.reader.proofs.body.decode_line.Goals as goal

pub returns-then-not-vertex_line_ok : goal.returns-then-not-vertex_line_ok
returns-then-not-vertex_line_ok c = vertex-refused _ _ _ c.if-j-vertices.true (sym c.vertex_line_ok.ensures ∙ c.if-not-vertex_line_ok.true)

pub vertex_of-requires : goal.vertex_of-requires
vertex_of-requires c = let r = vertex_line_range _ _ _ (sym c.vertex_line_ok.ensures ∙ c.if-not-vertex_line_ok.false) in omega arith

pub returns-then-j-vertices : goal.returns-then-j-vertices
returns-then-j-vertices c =
    rw c.vertex_of.ensures (vertex_allowed _ _ _ c.if-j-vertices.true
    (sym c.vertex_line_ok.ensures ∙ c.if-not-vertex_line_ok.false))

pub returns-then-not-edge_line_ok : goal.returns-then-not-edge_line_ok
returns-then-not-edge_line_ok c = edge-refused _ _ _ c.if-j-vertices.false (sym c.edge_line_ok.ensures ∙ c.if-not-edge_line_ok.true)

pub edge_of-requires : goal.edge_of-requires
edge_of-requires c = let r = edge_line_range _ _ (sym c.edge_line_ok.ensures ∙ c.if-not-edge_line_ok.false) in omega arith

pub returns : goal.returns
returns c =
    rw c.edge_of.ensures (edge_allowed _ _ _ c.if-j-vertices.false (sym c.edge_line_ok.ensures ∙ c.if-not-edge_line_ok.false))
