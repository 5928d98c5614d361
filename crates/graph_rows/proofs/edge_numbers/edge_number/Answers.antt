-- The lower end comes first.
use borrow.Author.Tests.{le-leb, lt-leb}
use Rattle.sheet.specs.EdgeNumbers.{number_of}
use Rattle.graph_rows.proofs.edge_numbers.edge_number.Goals as goal

pub returns-then-e : goal.returns-then-e
unfolding number_of
returns-then-e c = rw (le-leb _ _ c.if-e.true) c.digits_of.ensures

pub returns : goal.returns
unfolding number_of
returns c = rw (lt-leb _ _ c.if-e.false) c.digits_of-2.ensures
