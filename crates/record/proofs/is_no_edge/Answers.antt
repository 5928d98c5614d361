-- All four numbers are zero.
use borrow.Author.Rules.{rules}
use Rattle.sheet.specs.Valid.{is_no_edge}
use Rattle.record.proofs.is_no_edge.Goals as goal

pub returns : goal.returns
unfolding is_no_edge
returns c = search rules
