-- `growth::join` meets its contract: the entries before i of the last third are stored.
use borrow.Author.Rules.{rules}
use Rattle.lanes.proofs.GridLaws.{row_end}
use Rattle.growth.proofs.join.Goals as goal

pub returns : goal.returns
returns c = row_end c.loop-i.invariant.1 c.requires.0 (search rules)
