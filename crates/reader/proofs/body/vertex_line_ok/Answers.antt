-- `vertex_line_ok` meets its contract: a number above what a record holds is in no range.
use native.Mathlib.Omega.{arith}
use Rattle.sheet.proofs.BodySteps.{no_vertex-line, other-number, other_fifth, no_role, no_label, vertex_line_lem}
use Rattle.reader.proofs.body.vertex_line_ok.Goals as goal

pub returns-then-v-ne-VERTEX : goal.returns-then-v-ne-VERTEX
returns-then-v-ne-VERTEX c = no_vertex-line _ _ _ c.if-v-ne-VERTEX.true

pub returns-then-v-eq0 : goal.returns-then-v-eq0
returns-then-v-eq0 c = other-number _ _ _ (λ e. omega (arith, c.if-v-eq0.true))

pub returns-then-before-j : goal.returns-then-before-j
returns-then-before-j c = other-number _ _ _ (λ e. c.if-before-j.true (omega arith))

pub returns-then-v-ne0 : goal.returns-then-v-ne0
returns-then-v-ne0 c = other_fifth _ _ _ c.if-v-ne0.true

pub returns-then-v-gt-LARGEST : goal.returns-then-v-gt-LARGEST
returns-then-v-gt-LARGEST c = no_role _ _ _ (omega arith)

pub returns-then-v-gt-LARGEST_SYMBOL : goal.returns-then-v-gt-LARGEST_SYMBOL
returns-then-v-gt-LARGEST_SYMBOL c = no_label _ _ _ (omega arith)

pub returns : goal.returns
returns c =
    rw (c.vertex_ok.ensures, c.vertex_of.ensures)
    (vertex_line_lem _ _ _ c.if-v-ne-VERTEX.false (omega (arith, c.if-before-j.false, c.if-v-eq0.false)) c.if-v-ne0.false)
