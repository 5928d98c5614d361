-- `edge_line_ok` meets its contract: a number above what a record holds is in no range.
use native.Mathlib.Omega.{arith}
use Rattle.sheet.proofs.BodySteps.{no_edge-line, no_edge_lem, edge_line_lem}
use Rattle.reader.proofs.body.edge_line_ok.Goals as goal

pub returns-then-v-ne-EDGE : goal.returns-then-v-ne-EDGE
returns-then-v-ne-EDGE c = no_edge-line _ _ c.if-v-ne-EDGE.true

pub returns-then-v-gt-LARGEST : goal.returns-then-v-gt-LARGEST
returns-then-v-gt-LARGEST c = no_edge_lem _ _ (λ r. omega arith)

pub returns-then-v-gt-LARGEST-2 : goal.returns-then-v-gt-LARGEST-2
returns-then-v-gt-LARGEST-2 c = no_edge_lem _ _ (λ r. omega arith)

pub returns-then-v-gt-LARGEST-3 : goal.returns-then-v-gt-LARGEST-3
returns-then-v-gt-LARGEST-3 c = no_edge_lem _ _ (λ r. omega arith)

pub returns-then-v-gt-LARGEST_SYMBOL : goal.returns-then-v-gt-LARGEST_SYMBOL
returns-then-v-gt-LARGEST_SYMBOL c = no_edge_lem _ _ (λ r. omega arith)

pub returns : goal.returns
returns c =
    rw (c.edge_ok.ensures, c.edge_of.ensures) (edge_line_lem _ _ c.if-v-ne-EDGE.false)
