-- `counts_ok` meets its contract.
use native.Mathlib.Omega.{arith}
use borrow.Author.Tests.{le-leb, lt-leb}
use Rattle.net.specs.Limits.{most_vertices, most_edges}
use Rattle.sheet.specs.Rules.{counts_ok}
use Rattle.rules.proofs.counts_ok.Goals as goal

pub returns-then-vertices-eq0 : goal.returns-then-vertices-eq0
unfolding counts_ok
returns-then-vertices-eq0 c = rw c.if-vertices-eq0.true

pub returns-then-vertices-gt-MOST_VERTICES : goal.returns-then-vertices-gt-MOST_VERTICES
unfolding counts_ok
returns-then-vertices-gt-MOST_VERTICES c =
    rw (
      le-leb 1 c.args.vertices (omega (arith, c.if-vertices-eq0.false)),
      lt-leb c.args.vertices most_vertices (omega arith),
    )

pub returns-then-edges-gt-MOST_EDGES : goal.returns-then-edges-gt-MOST_EDGES
unfolding counts_ok
returns-then-edges-gt-MOST_EDGES c =
    let a = c.args in
    rw (
      le-leb 1 a.vertices (omega (arith, c.if-vertices-eq0.false)),
      le-leb a.vertices most_vertices (omega arith),
      lt-leb a.edges most_edges (omega arith),
    )

pub returns : goal.returns
unfolding counts_ok
returns c =
    let a = c.args in
    rw (
      le-leb 1 a.vertices (omega (arith, c.if-vertices-eq0.false)),
      le-leb a.vertices most_vertices (omega arith),
      le-leb a.edges most_edges (omega arith),
    )
