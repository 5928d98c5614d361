-- `write_both` meets its contract. Of the places, s is the start, w after the first vector, t after the second.
use Rattle.output.proofs.Stored.{Lent, both_written}
use Rattle.report_pieces.proofs.line_vectors.write_both.Goals as goal
use Rattle.report_pieces.proofs.line_vectors.write_both.Goals.{Start}

lent : (c : Start) → Lent c.args.h c.args.number c.args.own.now c.args.out.now
lent c = record { size = c.requires.0; owned = c.requires.1 }

pub returns : goal.returns
returns c =
    both_written (lent (goal.at.returns c).Start) c.write_vector.ensures c.write_vector-2.ensures
