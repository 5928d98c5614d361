-- Both numbers are zero.
use borrow.Author.Rules.{rules}
use Rattle.sheet.specs.Valid.{is_no_vertex}
use Rattle.record.proofs.is_no_vertex.Goals as goal

pub returns : goal.returns
unfolding is_no_vertex
returns c = search rules
