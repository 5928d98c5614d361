-- The graph that is searched is the net's.
use Rattle.sheet.proofs.CheckedLaws.{checked_readable}
use Rattle.graph_rows.proofs.components.signal_row.Goals as goal

pub graph-requires : goal.graph-requires
graph-requires c = checked_readable _ c.requires

pub returns : goal.returns
returns c = rw c.graph.ensures at c.signal_place.ensures
