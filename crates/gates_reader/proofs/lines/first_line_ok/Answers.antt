-- The tests of a header, in turn; then the number of lines.
use native.Mathlib.Omega.{arith}
use Rattle.gates.proofs.LineSteps.{no_header, a_header}
use Rattle.gates_reader.proofs.lines.first_line_ok.Goals as goal

pub returns-then-h-ne-GATES : goal.returns-then-h-ne-GATES
returns-then-h-ne-GATES c = no_header _ _ (λ r. omega arith)

pub returns-then-h-eq0 : goal.returns-then-h-eq0
returns-then-h-eq0 c = no_header _ _ (λ r. omega arith)

pub returns-then-gates-gt-MOST_GATES : goal.returns-then-gates-gt-MOST_GATES
returns-then-gates-gt-MOST_GATES c = no_header _ _ (λ r. omega arith)

pub returns-then-h-gt-MOST_LETTERS : goal.returns-then-h-gt-MOST_LETTERS
returns-then-h-gt-MOST_LETTERS c = no_header _ _ (λ r. omega arith)

pub returns-then-h-ne0 : goal.returns-then-h-ne0
returns-then-h-ne0 c = no_header _ _ (λ r. omega arith)

pub returns-then-h-ne-EDITION : goal.returns-then-h-ne-EDITION
returns-then-h-ne-EDITION c = no_header _ _ (λ r. omega arith)

pub returns : goal.returns
returns c = a_header _ _ (omega arith)
